-- The tally of rows, from their flags and lengths.
use Rattle.std.specs.Prelude.{ℕ, ◌+◌, ◌*◌, ◌/◌, max, Bool, cond, List, [], ◌∷◌, length, sum, ◌==◌}
use Rattle.mask.specs.Masks.{set_count}
use Rattle.array.specs.declared.tally.Tally.{Tally}

-- thousandths of the rows that are valid, to the nearest, the half rounded up; 1000 without rows
abbrev pub completeness : ℕ → ℕ → ℕ
completeness valid rows = cond (rows == 0) 1000 ((2000 * valid + rows) / (2 * rows))

-- the greatest of some lengths, 0 of none
unfoldable pub longest_of : List ℕ → ℕ
longest_of [] = 0
longest_of (n ∷ ns) = max n (longest_of ns)

abbrev pub tally_of : List Bool → List ℕ → Tally
tally_of valid lengths = record {
  rows = length lengths;
  valid = set_count valid;
  bytes = sum lengths;
  longest = longest_of lengths;
  complete = completeness (set_count valid) (length lengths);
}
