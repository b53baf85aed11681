-- What is known of integers among which no one is negative, falls or passes a limit.
use Rattle.std.proofs.Common.{◌≡◌, ℕ, zero, suc, ◌+◌, ◌<◌, ◌≤◌, Bool, true, false, cond, List, [], ◌∷◌, length, get_or, ℤ, pos, negsuc, Some, None, refl, ◌∙◌, arith}
use Rattle.std.proofs.lemmas.Bool.Decides.{nat_tests}
use Rattle.ptype.specs.Integers.{natural, amount, natural_at, amount_at}
use Rattle.ptype.specs.Searches.{is_within, first_fall}

pub record Inside (low limit : ℕ) (z : ℤ) : Type 0 where
  pub above : low ≤ amount z
  pub below : amount z ≤ limit
  pub is : natural z ≡ Some (amount z)

pub inside : (low limit : ℕ) (z : ℤ) → is_within low limit z ≡ true → Inside low limit z
inside low limit (pos n) e = record { above = grind (arith, nat_tests); below = grind (arith, nat_tests); is = refl }
inside low limit (negsuc n) e = let z : ◌≡◌ {A = ℕ} 0 1 = cc in absurd (omega arith)

-- the first of them is inside, and so are the others behind it
pub record Parts (limit low p : ℕ) (z : ℤ) (zs : List ℤ) : Type 0 where
  pub first : is_within low limit z ≡ true
  pub rest : first_fall limit (amount z) (p + 1) zs ≡ None

pub parts : (limit low p : ℕ) (z : ℤ) (zs : List ℤ) → first_fall limit low p (z ∷ zs) ≡ None → Parts limit low p z zs
unfolding first_fall
parts limit low p z zs e = by (is_within low limit z) refl e
  where
    by : (b : Bool) → is_within low limit z ≡ b → cond b (first_fall limit (amount z) (p + 1) zs) (Some p) ≡ None → Parts limit low p z zs
    by true y r = record { first = y; rest = r }
    by false y r = let n : ◌≡◌ {A = ℕ} 0 1 = cc in absurd (omega arith)

pub each : (limit low p : ℕ) (zs : List ℤ) → first_fall limit low p zs ≡ None → (i : ℕ) → i < length zs → Inside low limit (get_or zs i (pos 0))
each limit low p [] e i h = absurd (omega arith)
each limit low p (z ∷ zs) e zero h = inside low limit z (parts limit low p z zs e).first
each limit low p (z ∷ zs) e (suc i) h =
    let q = parts limit low p z zs e in
    let f = inside low limit z q.first in
    let r = each limit (amount z) (p + 1) zs q.rest i (omega arith) in
    record { above = omega (arith, f.above, r.above); below = r.below; is = r.is }

-- an earlier one is at most a later one
pub ordered : (limit low p : ℕ) (zs : List ℤ) → first_fall limit low p zs ≡ None → (i j : ℕ) → i ≤ j → j < length zs → amount_at zs i ≤ amount_at zs j
ordered limit low p [] e i j le h = absurd (omega arith)
ordered limit low p (z ∷ zs) e zero zero le h = omega arith
ordered limit low p (z ∷ zs) e zero (suc j) le h = (each limit (amount z) (p + 1) zs (parts limit low p z zs e).rest j (omega arith)).above
ordered limit low p (z ∷ zs) e (suc i) zero le h = absurd (omega arith)
ordered limit low p (z ∷ zs) e (suc i) (suc j) le h = ordered limit (amount z) (p + 1) zs (parts limit low p z zs e).rest i j (omega arith) (omega arith)

-- what is read at a place
pub read : (limit low p : ℕ) (zs : List ℤ) → first_fall limit low p zs ≡ None → (i : ℕ) → i < length zs → natural_at zs i ≡ Some (amount_at zs i)
read limit low p zs e i h = natural_in zs i h ∙ (each limit low p zs e i h).is
  where
    natural_in : (zs : List ℤ) (i : ℕ) → i < length zs → natural_at zs i ≡ natural (get_or zs i (pos 0))
    natural_in [] i h = absurd (omega arith)
    natural_in (z ∷ zs) zero h = refl
    natural_in (z ∷ zs) (suc i) h = natural_in zs i (omega arith)
