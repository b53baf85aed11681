-- What reading an entry tells of it, and the entries of a list.
use Rattle.std.proofs.Common.{◌≡◌, ℕ, zero, suc, ◌+◌, ◌<◌, ◌≤◌, List, [], ◌∷◌, map, length, get_or, drop, ℤ, pos, negsuc, Some, None, Option, unwrap_or, refl, ap, ◌∙◌, arith, true, false}
use Rattle.std.proofs.lemmas.List.{get_or-map, drop_more, length-map}
use Rattle.std.proofs.lemmas.Bool.Decides.{nat_tests}
use Rattle.ptype.specs.Integers.{natural, amount, natural_at, amount_at}
use Rattle.ptype.specs.Searches.{is_within, is_below}

-- what is left of the integers of xs begins with the one of the element at i
pub next : {X : Type 0} (f : X → ℤ) (xs : List X) (i : ℕ) (d : X) → i < length xs → drop i (map f xs) ≡ f (get_or xs i d) ∷ drop (i + 1) (map f xs)
next f xs i d h = drop_more (map f xs) i (f d) (omega (arith, length-map xs f)) ∙ ap (λ y. y ∷ drop (i + 1) (map f xs)) (get_or-map f xs i d (f d) h)

-- the list has at i what the element at i is
pub at_in : {X : Type 0} (f : X → ℤ) (xs : List X) (i : ℕ) (d : X) → i < length xs → natural (f (get_or xs i d)) ≡ natural_at (map f xs) i
at_in f [] i d h = absurd (omega arith)
at_in f (y ∷ xs) zero d h = refl
at_in f (y ∷ xs) (suc i) d h = at_in f xs i d (omega arith)

pub at_past : {X : Type 0} (f : X → ℤ) (xs : List X) (i : ℕ) → length xs ≤ i → natural_at (map f xs) i ≡ None
at_past f [] i h = refl
at_past f (y ∷ xs) zero h = absurd (omega arith)
at_past f (y ∷ xs) (suc i) h = at_past f xs i (omega arith)

pub amount_or : (z : ℤ) → unwrap_or (natural z) 0 ≡ amount z
amount_or (pos n) = refl
amount_or (negsuc n) = refl

-- an entry that is read as 0 where it is negative
pub amount_read : (n : ℕ) (o : Option ℕ) (z : ℤ) → n ≡ unwrap_or o 0 → o ≡ natural z → n ≡ amount z
amount_read n o z e is = e ∙ ap (λ p. unwrap_or p 0) is ∙ amount_or z

-- the entry at a place, read as 0 where it is negative or not there
pub entry_or : (zs : List ℤ) (i : ℕ) → unwrap_or (natural_at zs i) 0 ≡ amount_at zs i
entry_or [] i = refl
entry_or (z ∷ zs) zero = amount_or z
entry_or (z ∷ zs) (suc i) = entry_or zs i

pub entry_read : (zs : List ℤ) (i n : ℕ) (o : Option ℕ) → n ≡ unwrap_or o 0 → o ≡ natural_at zs i → n ≡ amount_at zs i
entry_read zs i n o e is = e ∙ ap (λ p. unwrap_or p 0) is ∙ entry_or zs i

pub entry_at : (zs : List ℤ) (i n : ℕ) → Some n ≡ natural_at zs i → n ≡ amount_at zs i
entry_at zs i n e = ap (λ p. unwrap_or p 0) e ∙ entry_or zs i

-- what a number that was read, or its absence, tells of the tests that the searches make
pub within : (low high n : ℕ) (z : ℤ) → Some n ≡ natural z → low ≤ n → n ≤ high → is_within low high z ≡ true
within low high n (pos m) e a b = let s : n ≡ m = cc in grind (arith, nat_tests)
within low high n (negsuc m) e a b = let z : ◌≡◌ {A = ℕ} 0 1 = cc in absurd (omega arith)

pub under_low : (low high n : ℕ) (z : ℤ) → Some n ≡ natural z → n < low → is_within low high z ≡ false
under_low low high n (pos m) e a = let s : n ≡ m = cc in grind (arith, nat_tests)
under_low low high n (negsuc m) e a = refl

pub over_high : (low high n : ℕ) (z : ℤ) → Some n ≡ natural z → high < n → is_within low high z ≡ false
over_high low high n (pos m) e a = let s : n ≡ m = cc in grind (arith, nat_tests)
over_high low high n (negsuc m) e a = refl

pub negative : (low high : ℕ) (z : ℤ) → None ≡ natural z → is_within low high z ≡ false
negative low high (pos m) e = let z : ◌≡◌ {A = ℕ} 0 1 = cc in absurd (omega arith)
negative low high (negsuc m) e = refl

pub below : (limit n : ℕ) (z : ℤ) → Some n ≡ natural z → n < limit → is_below limit z ≡ true
below limit n (pos m) e a = let s : n ≡ m = cc in grind (arith, nat_tests)
below limit n (negsuc m) e a = let z : ◌≡◌ {A = ℕ} 0 1 = cc in absurd (omega arith)

pub not_below : (limit n : ℕ) (z : ℤ) → Some n ≡ natural z → limit ≤ n → is_below limit z ≡ false
not_below limit n (pos m) e a = let s : n ≡ m = cc in grind (arith, nat_tests)
not_below limit n (negsuc m) e a = refl

pub negative_below : (limit : ℕ) (z : ℤ) → None ≡ natural z → is_below limit z ≡ false
negative_below limit (pos m) e = let z : ◌≡◌ {A = ℕ} 0 1 = cc in absurd (omega arith)
negative_below limit (negsuc m) e = refl
