-- A record of 16 bytes: byte 0 is 1 for a value and 0 for a null, byte 1 is the length, then come the bytes, then zeros.
use Rattle.std.specs.Prelude.{ℕ, Bool, cond, ◌&&◌, List, length, take, drop, Some, None, Option, ◌==◌, nat_le, slice_index}
use Rattle.std.specs.List.{list_all}
use Rattle.slots.specs.Rows.{Row, null, bytes}

abbrev pub all_zero : List ℕ → Bool
all_zero bs = list_all (λ b. b == 0) bs

-- a value of at most 14 bytes with zeros behind them; a null has length 0
abbrev pub field_row : ℕ → ℕ → List ℕ → Option Row
field_row kind len rest =
    cond (nat_le len 14 && all_zero (drop len rest))
    (cond (kind == 1) (Some (bytes (take len rest))) (cond (kind == 0 && len == 0) (Some null) None))
    None

-- the row of a record, or none where it is short, long or malformed
abbrev pub record_row : List ℕ → Option Row
record_row bs = cond (length bs == 16) (field_row (slice_index bs 0) (slice_index bs 1) (drop 2 bs)) None
