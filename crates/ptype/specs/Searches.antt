-- Searches over integers: the place of the first that breaks a rule, if one does.
use Rattle.std.specs.Prelude.{ℕ, ◌+◌, ◌-◌, ◌^◌, Bool, true, false, cond, ◌&&◌, List, [], ◌∷◌, ℤ, pos, negsuc, Some, None, Option, nat_le, nat_lt}
use Rattle.ptype.specs.Integers.{amount}

-- neither negative nor at or above the limit
abbrev pub is_below : ℕ → ℤ → Bool
is_below limit (pos n) = nat_lt n limit
is_below limit (negsuc n) = false

-- neither negative nor outside low and high
abbrev pub is_within : ℕ → ℕ → ℤ → Bool
is_within low high (pos n) = nat_le low n && nat_le n high
is_within low high (negsuc n) = false

-- the first number with a set flag that is negative or not below the limit; the first number has place p
unfoldable pub first_not_below : ℕ → ℕ → List Bool → List ℤ → Option ℕ
first_not_below limit p fs [] = None
first_not_below limit p [] (z ∷ zs) = None
first_not_below limit p (true ∷ fs) (z ∷ zs) = cond (is_below limit z) (first_not_below limit (p + 1) fs zs) (Some p)
first_not_below limit p (false ∷ fs) (z ∷ zs) = first_not_below limit (p + 1) fs zs

-- the first number that is negative, falls below the one before it, or passes the limit; low stands before the first, which has place p
unfoldable pub first_fall : ℕ → ℕ → ℕ → List ℤ → Option ℕ
first_fall limit low p [] = None
first_fall limit low p (z ∷ zs) = cond (is_within low limit z) (first_fall limit (amount z) (p + 1) zs) (Some p)

-- the first length that is negative or runs past what is left; the first has place p
unfoldable pub first_overrun : ℕ → ℕ → List ℤ → Option ℕ
first_overrun left p [] = None
first_overrun left p (z ∷ zs) = cond (is_within 0 left z) (first_overrun (left - amount z) (p + 1) zs) (Some p)

-- the sum of all numbers, a negative one counting 0
unfoldable pub total : List ℤ → ℕ
total [] = 0
total (z ∷ zs) = amount z + total zs

-- a sum where it is below 2^64
abbrev pub in_u64 : ℕ → Option ℕ
in_u64 n = cond (nat_lt n (2 ^ 64)) (Some n) None
