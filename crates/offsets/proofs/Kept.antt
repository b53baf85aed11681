-- The copy to wider entries: it loses no offset.
use Rattle.std.proofs.Common.{◌≡◌, ℕ, ◌+◌, ◌<◌, List, [], ◌∷◌, ◌++◌, map, length, get_or, set, ℤ, pos, sym, refl, ap, ◌∙◌}
use Rattle.std.proofs.lemmas.List.{map_push}
use Rattle.ptype.specs.Integers.{amount, amount_at, integers_of}
use Rattle.offsets.specs.Stores.{held, amounts}
use Rattle.offsets.proofs.Held.{held_more, held_next}

-- offsets as integers are the same offsets
pub amounts_integers : (ns : List ℕ) → amounts (integers_of ns) ≡ ns
amounts_integers [] = refl
amounts_integers (n ∷ ns) = ap (λ l. n ∷ l) (amounts_integers ns)

-- so a copy has the offsets that were copied
pub kept : (zs ws : List ℤ) → ws ≡ integers_of (amounts zs) → amounts ws ≡ amounts zs
kept zs ws copied = ap amounts copied ∙ amounts_integers (amounts zs)

-- one entry more is copied
pub copied_more : {X Y : Type 0} (narrow : X → ℤ) (wide : Y → ℤ) (i : ℕ) (xs : List X) (ys ws : List Y) (n : ℕ) → i < length xs → i < length ys → n ≡ amount_at (map narrow xs) i → map wide ws ≡ set (map wide ys) i (pos n) → held wide i ys ≡ integers_of (amounts (held narrow i xs)) → held wide (i + 1) ws ≡ integers_of (amounts (held narrow (i + 1) xs))
copied_more narrow wide i xs ys ws n low high is written before =
    held_more wide i ys ws n high written
    ∙ ap (λ l. l ++ pos n ∷ []) before
    ∙ ap (λ m. integers_of (amounts (held narrow i xs)) ++ pos m ∷ []) is
    ∙ sym (map_push pos (amounts (held narrow i xs)) (amount_at (map narrow xs) i))
    ∙ ap integers_of (sym (map_push amount (held narrow i xs) (get_or (map narrow xs) i (pos 0))))
    ∙ ap (λ l. integers_of (amounts l)) (sym (held_next narrow i xs low))
