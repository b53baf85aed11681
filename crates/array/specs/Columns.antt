-- The rows of a column, by Arrow's variable-size binary layout: slot i is the heap from offset i up to offset i + 1.
use Rattle.std.specs.Prelude.{ℕ, ◌+◌, ◌-◌, Bool, false, cond, List, map, length, ℤ, slice_index_or}
use Rattle.std.specs.List.{between, range_with_len}
use Rattle.ptype.specs.Integers.{amount_at}
use Rattle.slots.specs.Rows.{Row, null, bytes}

-- a column has one row less than offsets; without offsets it has none
abbrev pub row_count : List ℤ → ℕ
row_count offsets = length offsets - 1

abbrev pub slot_bytes : List ℤ → List ℕ → ℕ → List ℕ
slot_bytes offsets heap i = between (amount_at offsets i) (amount_at offsets (i + 1)) heap

-- row i: the slot's bytes where its flag is set, else null
abbrev pub column_row : List ℤ → List ℕ → List Bool → ℕ → Row
column_row offsets heap valid i = cond (slice_index_or valid i false) (bytes (slot_bytes offsets heap i)) null

abbrev pub column_rows : List ℤ → List ℕ → List Bool → List Row
column_rows offsets heap valid = map (column_row offsets heap valid) (range_with_len 0 (row_count offsets))

-- the lengths of the slots, hidden bytes counted
abbrev pub slot_length : List ℤ → ℕ → ℕ
slot_length offsets i = amount_at offsets (i + 1) - amount_at offsets i

abbrev pub slot_lengths : List ℤ → List ℕ
slot_lengths offsets = map (slot_length offsets) (range_with_len 0 (row_count offsets))
