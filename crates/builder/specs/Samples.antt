-- Worked examples of appends: what is answered, and what is left.
use Rattle.std.specs.Prelude.{◌≡◌, ℕ, true, false, List, [], ◌∷◌, replicate, ℤ, pos, Some, None, Option}
use Rattle.mask.specs.declared.mask.Mask.TheVariants.{AllTrue}
use Rattle.refusal.specs.Refusals.{Code, code}
use Rattle.slots.specs.Slots.{Slot, slot}
use Rattle.builder.specs.Bulk.{values_checks, value_slots}
use Rattle.builder.specs.Calls.{append_answer, appended}
use Rattle.builder.specs.Making.{made}
use Rattle.builder.specs.States.{State}

-- an empty nullable builder with space: 8 rows, 16 heap bytes, 32-bit signed offsets
abbrev pub empty_sample : State
empty_sample = made true 9 2147483647 (replicate 16 0) (0 ∷ [])

-- three bytes, cut by two ends
abbrev pub three_bytes : List ℕ
three_bytes = 0x61 ∷ 0x62 ∷ 0x63 ∷ []

abbrev pub ends_answer : List ℤ → Option Code
ends_answer ends = append_answer empty_sample (values_checks three_bytes ends (AllTrue 2)) (value_slots three_bytes ends (AllTrue 2))

pub record ValuesExamples : Type 0 where
  pub ends_1_3 : ends_answer (pos 1 ∷ pos 3 ∷ []) ≡ None
  pub ends_1_3_offsets : (appended empty_sample None (value_slots three_bytes (pos 1 ∷ pos 3 ∷ []) (AllTrue 2))).offsets ≡ 0 ∷ 1 ∷ 3 ∷ []
  pub ends_2_1 : ends_answer (pos 2 ∷ pos 1 ∷ []) ≡ Some (code 7 1 0)
  pub ends_1_2 : ends_answer (pos 1 ∷ pos 2 ∷ []) ≡ Some (code 8 0 0)

-- a builder over 8-bit signed offsets, whose greatest is 127, with 200 heap bytes
abbrev pub small_offsets : State
small_offsets = made false 3 127 (replicate 200 0) (0 ∷ [])

-- one valid slot of so many bytes
abbrev pub one_of : ℕ → List Slot
one_of n = slot true (replicate n 0x61) ∷ []

pub record TopExamples : Type 0 where
  pub takes_127 : append_answer small_offsets [] (one_of 127) ≡ None
  pub one_more : append_answer (appended small_offsets None (one_of 127)) [] (one_of 1) ≡ Some (code 4 0 0)
