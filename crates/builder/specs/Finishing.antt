-- The record of a finished column.
use Rattle.std.specs.Prelude.{ℕ, Bool, true, false, cond, List, length, ◌==◌}
use Rattle.mask.specs.Masks.{set_count}
use Rattle.slots.specs.Slots.{Slot, byte_count, flags_of}
use Rattle.builder.specs.declared.finished.Finished.{Finished}
use Rattle.builder.specs.declared.finished.Validity.{Validity}
use Rattle.builder.specs.declared.finished.Validity.TheVariants.{NonNullable, AllValid, AllInvalid, Bits}

-- the number of each case
abbrev pub validity_number : Validity → ℕ
validity_number NonNullable = 0
validity_number AllValid = 1
validity_number AllInvalid = 2
validity_number Bits = 3

-- no validity where not nullable; else all rows valid, all null, or bits
abbrev pub validity_of : Bool → ℕ → ℕ → Validity
validity_of false rows valid = NonNullable
validity_of true rows valid = cond (valid == rows) AllValid (cond (valid == 0) AllInvalid Bits)

abbrev pub record_of : Bool → ℕ → ℕ → ℕ → Finished
record_of nullable rows bytes valid = record { rows = rows; bytes = bytes; valid = valid; validity = validity_of nullable rows valid }

-- the record of a column of these slots
abbrev pub finished_of : Bool → List Slot → Finished
finished_of nullable ss = record_of nullable (length ss) (byte_count ss) (set_count (flags_of ss))
