-- A finished column as other software sees it: offsets of any kind, the heap cut at the record's bytes, validity as the record says.
use Rattle.std.specs.Prelude.{◌≡◌, ℕ, ◌+◌, true, cond, List, [], map, length, take, Some, None, Option, slice_index_or}
use Rattle.std.specs.Borrow.{Bor}
use Rattle.std.specs.List.{range_with_len}
use Rattle.std.specs.Option.{option_map}
use Rattle.builder.specs.declared.finished.Validity.{Validity}
use Rattle.builder.specs.declared.finished.Validity.TheVariants.{NonNullable, AllValid, AllInvalid, Bits}
use Rattle.builder.specs.States.{State}
use Rattle.integers.specs.Slices.{integers}
use Rattle.integers.specs.declared.slices.IntegerSlice.{IntegerSlice}
use Rattle.mask.specs.declared.mask.Mask.{Mask}
use Rattle.mask.specs.declared.mask.Mask.TheVariants.{AllTrue, AllFalse, Values}
use Rattle.ptype.specs.Integers.{integers_of}
use Rattle.refusal.specs.Refusals.{Code, code, first_refusal}
use Rattle.slots.specs.Slots.{Slot, slot, byte_count}
use Rattle.utf8.specs.Reading.{first_fault}
use Rattle.history.specs.Running.{finished_state}

-- the mask by which a column with this validity, so many rows and these bit bytes is opened
abbrev pub ValidityIs : Validity → ℕ → List ℕ → Option Mask → Type 0
ValidityIs NonNullable rows bits mask = mask ≡ None
ValidityIs AllValid rows bits mask = mask ≡ Some (AllTrue rows)
ValidityIs AllInvalid rows bits mask = mask ≡ Some (AllFalse rows)
ValidityIs Bits rows bits mask = (part : Bor (List ℕ)) × ((mask ≡ Some (Values rows part)) × (part.now ≡ bits))

-- what is handed to other software: a slice of any kind whose numbers are the store's offsets, and the mask
pub record HandedOver (m : State) (slice : IntegerSlice) (mask : Option Mask) : Type 0 where
  pub numbers : integers slice ≡ integers_of m.offsets
  pub validity : ValidityIs (finished_state m).validity (finished_state m).rows m.bits mask

-- the heap cut at the record's bytes
abbrev pub finished_heap : State → List ℕ
finished_heap m = take (finished_state m).bytes m.heap

-- 18 at slot i where it is valid and not UTF-8, with the place of its first bad character behind the bytes of the slots before it
abbrev pub slot_text : List Slot → ℕ → Option Code
slot_text ss i = cond (slice_index_or ss i (slot true [])).valid (option_map (λ k. code 18 i (byte_count (take i ss) + k)) (first_fault (slice_index_or ss i (slot true [])).content)) None

-- the first of these, if any
abbrev pub slots_text : List Slot → Option Code
slots_text ss = first_refusal (map (slot_text ss) (range_with_len 0 (length ss)))
