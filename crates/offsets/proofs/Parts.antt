-- The entries that are handed out: none of them is negative.
use Rattle.std.proofs.Common.{◌≡◌, ℕ, zero, suc, ◌<◌, ◌≤◌, min, Bool, true, false, List, [], ◌∷◌, map, length, take, ℤ, pos, negsuc, is_some, Option, sym, refl, ap, ◌∙◌, ⊎_elim, subst, arith}
use Rattle.std.specs.Bool.{MatchBool, then_some}
use Rattle.std.specs.Borrow.{Bor}
use Rattle.std.specs.List.{AllWithin, HoldsAt}
use Rattle.std.proofs.lemmas.List.{take_all}
use Rattle.std.proofs.lemmas.Bool.{cases_lt, and_from, and_left, and_right}
use Rattle.ptype.specs.Integers.{natural, integers_of}
use Rattle.offsets.specs.Stores.{held, amounts, is_natural, all_natural, HandedOut}

-- integers none of which is negative are their amounts
pub naturals : (zs : List ℤ) → all_natural zs ≡ true → zs ≡ integers_of (amounts zs)
naturals [] h = refl
naturals (pos n ∷ zs) h = ap (λ l. pos n ∷ l) (naturals zs h)
naturals (negsuc n ∷ zs) h = let z : ◌≡◌ {A = ℕ} 0 1 = cc in absurd (omega arith)

pub some_natural : (z : ℤ) → is_some (natural z) ≡ is_natural z
some_natural (pos n) = refl
some_natural (negsuc n) = refl

-- entries each of which is read as a number
pub all_read : {X : Type 0} (value : X → ℤ) (xs : List X) → AllWithin (λ x. is_some (natural (value x)) ≡ true) xs 0 (length xs) → all_natural (map value xs) ≡ true
all_read value [] h = refl
all_read value (x ∷ xs) h = and_from (is_natural (value x)) (all_natural (map value xs)) (sym (some_natural (value x)) ∙ h 0 x (omega arith) (omega arith)) (all_read value xs (λ k d low high. h (suc k) d (omega arith) (omega arith)))

-- and an entry among them that is not
pub one_unread : {X : Type 0} (value : X → ℤ) (xs : List X) (k : ℕ) → k < length xs → HoldsAt (λ x. is_some (natural (value x)) ≡ false) xs k → all_natural (map value xs) ≡ false
one_unread value [] k low h = absurd (omega arith)
one_unread value (x ∷ xs) zero low h = and_left (is_natural (value x)) (all_natural (map value xs)) (sym (some_natural (value x)) ∙ h x)
one_unread value (x ∷ xs) (suc k) low h = and_right (is_natural (value x)) (all_natural (map value xs)) (one_unread value xs k (omega arith) h)

-- the first n entries are all of them where there are fewer
held_cut : {X : Type 0} (value : X → ℤ) (n : ℕ) (xs : List X) → map value (take (min n (length xs)) xs) ≡ held value n xs
held_cut value n xs =
    ap (map value)
    (⊎_elim
    (λ (h : n < length xs). let same : min n (length xs) ≡ n = omega arith in ap (λ k. take k xs) same)
    (λ (h : length xs ≤ n). take_all (min n (length xs)) xs (omega arith) ∙ sym (take_all n xs h))
    (cases_lt n (length xs)))

module _ {X : Type 0} (value : X → ℤ) (n m : ℕ) (xs : List X) (part : Bor (List X)) (cut : m ≡ min n (length xs)) (is : part.now ≡ take m xs) where
  entries_of : map value (take m xs) ≡ held value n xs
  entries_of = ap (λ k. map value (take k xs)) cut ∙ held_cut value n xs

  handed : (all : Bool) → MatchBool all (AllWithin (λ x. is_some (natural (value x)) ≡ true) (take m xs) 0 (length (take m xs))) ((k : ℕ) × (k < length (take m xs)) × HoldsAt (λ x. is_some (natural (value x)) ≡ false) (take m xs) k) → HandedOut value (held value n xs) (then_some all part)
  handed true h =
      let every : all_natural (held value n xs) ≡ true = sym (ap all_natural entries_of) ∙ all_read value (take m xs) h in
      (ap (map value) is ∙ entries_of ∙ naturals (held value n xs) every, every)
  handed false h = sym (ap all_natural entries_of) ∙ one_unread value (take m xs) h.0 h.1 h.2

  -- the first n entries are handed out where each of them is read as a number
  pub handed_out : (all : Bool) (o : Option (Bor (List X))) → o ≡ then_some all part → MatchBool all (AllWithin (λ x. is_some (natural (value x)) ≡ true) (take m xs) 0 (length (take m xs))) ((k : ℕ) × (k < length (take m xs)) × HoldsAt (λ x. is_some (natural (value x)) ≡ false) (take m xs) k) → HandedOut value (held value n xs) o
  handed_out all o e h = subst (HandedOut value (held value n xs)) (sym e) (handed all h)
