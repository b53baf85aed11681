-- The offsets of a store of two widths: one list, whichever entries hold them.
use Rattle.std.proofs.Common.{◌≡◌, ℕ, ◌+◌, ◌<◌, Bool, true, false, cond, ltb, List, [], ◌∷◌, ◌++◌, map, length, set, ℤ, pos, is_some, IfSome, Option, sym, ap, ◌∙◌}
use Rattle.std.specs.List.{slice_get}
use Rattle.ptype.specs.Integers.{amount_at, integers_of}
use Rattle.offsets.specs.Stores.{held, amounts}
use Rattle.offsets.proofs.Held as lemma
use Rattle.offsets.proofs.Kept.{kept}

module _ {X Y : Type 0} (narrow : X → ℤ) (wide : Y → ℤ) where
  abbrev pub offsets : Bool → ℕ → List X → List Y → List ℕ
  offsets widened used xs ys = amounts (cond widened (held wide used ys) (held narrow used xs))

  -- an entry that is read below the number of offsets is the offset there
  pub offset_read : (widened : Bool) (used : ℕ) (xs : List X) (ys : List Y) (i n : ℕ) (P : ℕ → Type 0) (r : Option ℕ) → n ≡ length (offsets widened used xs ys) → is_some r ≡ ltb i n → IfSome r P → ((m : ℕ) → P m → m ≡ cond widened (amount_at (map wide ys) i) (amount_at (map narrow xs) i)) → r ≡ slice_get (offsets widened used xs ys) i
  offset_read true used xs ys = lemma.offset_read wide used ys
  offset_read false used xs ys = lemma.offset_read narrow used xs

  -- once all offsets are copied to the wide entries, the store holds the same
  pub copied : (before after : Bool) (used : ℕ) (xs us : List X) (ys ws : List Y) → before ≡ false → after ≡ true → held wide used ws ≡ integers_of (amounts (held narrow used xs)) → offsets after used us ws ≡ offsets before used xs ys
  copied before after used xs us ys ws e f same =
      ap (λ b. offsets b used us ws) f
      ∙ kept (held narrow used xs) (held wide used ws) same
      ∙ sym (ap (λ b. offsets b used xs ys) e)

  -- an offset more is written, at the width that the store has
  pub written_wide : (widened : Bool) (used offset : ℕ) (xs : List X) (ys ws : List Y) → widened ≡ true → used < length ys → map wide ws ≡ set (map wide ys) used (pos offset) → offsets widened (used + 1) xs ws ≡ offsets widened used xs ys ++ offset ∷ []
  written_wide widened used offset xs ys ws e h is =
      ap (λ b. offsets b (used + 1) xs ws) e
      ∙ lemma.offsets_more wide used ys ws offset h is
      ∙ sym (ap (λ b. offsets b used xs ys ++ offset ∷ []) e)

  pub written_narrow : (widened : Bool) (used offset : ℕ) (xs us : List X) (ys : List Y) → widened ≡ false → used < length xs → map narrow us ≡ set (map narrow xs) used (pos offset) → offsets widened (used + 1) us ys ≡ offsets widened used xs ys ++ offset ∷ []
  written_narrow widened used offset xs us ys e h is =
      ap (λ b. offsets b (used + 1) us ys) e
      ∙ lemma.offsets_more narrow used xs us offset h is
      ∙ sym (ap (λ b. offsets b used xs ys ++ offset ∷ []) e)
