-- What the steps of the check tell of tiling: a yes or a no where each of them ends.
use Rattle.std.proofs.Common.{◌≡◌, ℕ, ◌+◌, ◌-◌, ◌<◌, ◌≤◌, Bool, true, false, List, [], ◌∷◌, length, ℤ, is_some, Some, None, Decides, Option, unwrap_or, sym, refl, ap, ◌∙◌, subst, arith, below_more}
use Rattle.std.specs.List.{between}
use Rattle.std.proofs.lemmas.Bool.{false≢true}
use Rattle.std.proofs.lemmas.Bool.Decides.{not_from_Decides}
use Rattle.ptype.specs.Integers.{natural_at, amount_at}
use Rattle.ptype.specs.Searches.{first_fall}
use Rattle.ptype.proofs.Naturals.{entry_at}
use Rattle.ptype.proofs.Rising.{each, ordered, read}
use Rattle.utf8.specs.Grammar.{ValidUtf8}
use Rattle.tiling.specs.Tiling.{Boundary, Tiles}

-- ---- the offsets, one after the other

-- each is a boundary, as far as they were tried
abbrev pub BoundariesTo : List ℤ → List ℕ → ℕ → Type 0
BoundariesTo zs heap n = (i : ℕ) → i < n → Boundary heap (amount_at zs i)

-- none leaves the heap
abbrev pub InHeap : List ℤ → List ℕ → Type 0
InHeap zs heap = (i : ℕ) → i < length zs → amount_at zs i ≤ length heap

-- whether the one at i is, as it was read and tried
pub tried : (zs : List ℤ) (heap : List ℕ) (i o : ℕ) (r : Bool) → i < length zs → o ≡ amount_at zs i → InHeap zs heap → (o ≤ length heap → Decides r (Boundary heap o)) → Decides r (Boundary heap (amount_at zs i))
tried zs heap i o r h e within d = subst (λ n. Decides r (Boundary heap n)) e (d (omega (arith, within i h)))

-- it is none, or one more
module _ (zs : List ℤ) (heap : List ℕ) (i : ℕ) (r : Bool) (d : Decides r (Boundary heap (amount_at zs i))) where
  pub no_boundary : i < length zs → r ≡ false → Decides false (BoundariesTo zs heap (length zs))
  no_boundary h n = ((λ y. absurd (false≢true y)), (λ b. absurd (not_from_Decides r d n (b i h))))

  pub boundary_more : r ≡ true → BoundariesTo zs heap i → BoundariesTo zs heap (i + 1)
  boundary_more y b = below_more (λ k. Boundary heap (amount_at zs k)) i b (d.0 y)

pub all_tried : (zs : List ℤ) (heap : List ℕ) (n : ℕ) → length zs ≤ n → BoundariesTo zs heap n → Decides true (BoundariesTo zs heap (length zs))
all_tried zs heap n le b = ((λ y k h. b k (omega arith)), (λ t. refl))

-- ---- the answer

-- no, since what tiling asks for is not so
pub not_tiled : (zs : List ℤ) (heap : List ℕ) → (Tiles zs heap → ⊥) → Decides false (Tiles zs heap)
not_tiled zs heap against = ((λ y. absurd (false≢true y)), (λ t. absurd (against t)))

-- there is no first offset
pub none_there : (zs : List ℤ) (heap : List ℕ) → None ≡ natural_at zs 0 → Decides false (Tiles zs heap)
none_there zs heap e = not_tiled zs heap (λ t. let r = read (length heap) 0 0 zs t.rising 0 t.some in let z : ◌≡◌ {A = ℕ} 0 1 = cc in omega arith)

-- there is one
pub some_there : (zs : List ℤ) → is_some (natural_at zs 0) ≡ true → 0 < length zs
some_there [] e = absurd (false≢true e)
some_there (z ∷ zs) e = omega arith

-- the search for a fall found one, or none
pub falls : (zs : List ℤ) (heap : List ℕ) → is_some (first_fall (length heap) 0 0 zs) ≡ true → Decides false (Tiles zs heap)
falls zs heap y = not_tiled zs heap (λ t. false≢true (sym (ap is_some t.rising) ∙ y))

pub no_fall : (limit : ℕ) (zs : List ℤ) → is_some (first_fall limit 0 0 zs) ≡ false → first_fall limit 0 0 zs ≡ None
no_fall limit zs n = by (first_fall limit 0 0 zs) n
  where
    by : (o : Option ℕ) → is_some o ≡ false → o ≡ None
    by None n = refl
    by (Some k) n = absurd (false≢true (sym n))

-- offsets that never fall stay within the heap
pub rising_in : (zs : List ℤ) (heap : List ℕ) → first_fall (length heap) 0 0 zs ≡ None → InHeap zs heap
rising_in zs heap e i h = (each (length heap) 0 0 zs e i h).below

-- the first and the last of them
pub record Ends (zs : List ℤ) (heap : List ℕ) (first last : ℕ) : Type 0 where
  pub rising : first_fall (length heap) 0 0 zs ≡ None
  pub some : 0 < length zs
  pub from : first ≡ amount_at zs 0
  pub to : last ≡ amount_at zs (length zs - 1)
  pub order : first ≤ last
  pub inside : last ≤ length heap

pub ends : (zs : List ℤ) (heap : List ℕ) (n first last : ℕ) (o : Option ℕ) → first_fall (length heap) 0 0 zs ≡ None → Some first ≡ natural_at zs 0 → n ≡ length zs → o ≡ natural_at zs (n - 1) → last ≡ unwrap_or o first → Ends zs heap first last
ends zs heap n first last o rising f e l v =
    let more = some_there zs (ap is_some (sym f)) in
    let from : first ≡ amount_at zs 0 = entry_at zs 0 first f in
    let end = read (length heap) 0 0 zs rising (length zs - 1) (omega arith) in
    let to : last ≡ amount_at zs (length zs - 1) = v ∙ ap (λ p. unwrap_or p first) (l ∙ ap (λ m. natural_at zs (m - 1)) e ∙ end) in
    record {
      rising = rising;
      some = more;
      from = from;
      to = to;
      order = omega (arith, ordered (length heap) 0 0 zs rising 0 (length zs - 1) (omega arith) (omega arith));
      inside = omega (arith, rising_in zs heap rising (length zs - 1) (omega arith));
    }

module _ (zs : List ℤ) (heap : List ℕ) (first last : ℕ) (d : Ends zs heap first last) where
  -- first to last is no text
  pub no_text : (ValidUtf8 (between first last heap) → ⊥) → Decides false (Tiles zs heap)
  no_text bad = not_tiled zs heap (λ t. bad (subst (λ a. ValidUtf8 (between a last heap)) (sym d.from) (subst (λ b. ValidUtf8 (between (amount_at zs 0) b heap)) (sym d.to) t.text)))

  -- it is, and the boundaries decide
  pub by_boundaries : (r : Bool) → ValidUtf8 (between first last heap) → Decides r (BoundariesTo zs heap (length zs)) → Decides r (Tiles zs heap)
  by_boundaries r text b = (
    (λ y. record {
      some = d.some;
      rising = d.rising;
      text = subst (λ a. ValidUtf8 (between a (amount_at zs (length zs - 1)) heap)) d.from (subst (λ b. ValidUtf8 (between first b heap)) d.to text);
      boundaries = b.0 y;
    }),
    (λ t. b.1 t.boundaries),
  )
