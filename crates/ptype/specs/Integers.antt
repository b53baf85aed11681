-- Integers as natural numbers.
use Rattle.std.specs.Prelude.{ℕ, zero, suc, List, [], ◌∷◌, map, ℤ, pos, negsuc, Some, None, Option, slice_index_or}

-- the number itself, or none where it is negative
abbrev pub natural : ℤ → Option ℕ
natural (pos n) = Some n
natural (negsuc n) = None

-- the number itself, or 0 where it is negative
abbrev pub amount : ℤ → ℕ
amount (pos n) = n
amount (negsuc n) = 0

-- the natural numbers as integers
abbrev pub integers_of : List ℕ → List ℤ
integers_of ns = map pos ns

-- the number at a place: none from the length on, and none where it is negative
abbrev pub natural_at : List ℤ → ℕ → Option ℕ
natural_at [] i = None
natural_at (z ∷ zs) zero = natural z
natural_at (z ∷ zs) (suc i) = natural_at zs i

-- the number at a place as a natural number: 0 from the length on, and 0 where it is negative
abbrev pub amount_at : List ℤ → ℕ → ℕ
amount_at zs i = amount (slice_index_or zs i (pos 0))
