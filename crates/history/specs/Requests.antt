-- What a call asks of a builder, by its arguments alone; what it answers and leaves, by the same definitions as in the calls' own contracts.
use Rattle.std.specs.Prelude.{ℕ, ◌+◌, true, false, List, [], ◌∷◌, length, replicate, ℤ, Option}
use Rattle.builder.specs.Bulk.{values_checks, value_slots, checks_before, decoded_answer, decoded_slots, decoded}
use Rattle.builder.specs.Calls.{append_answer, appended}
use Rattle.builder.specs.States.{State}
use Rattle.compute.specs.Indices.{picked_slots}
use Rattle.compute.specs.Selections.{Selection, by_number, by_run, by_mask, starts_of, lengths_of, selection_indices, select_answer, selected}
use Rattle.integers.specs.Slices.{integers}
use Rattle.mask.specs.Masks.{flags, covered}
use Rattle.mask.specs.declared.mask.Mask.{Mask}
use Rattle.refusal.specs.Refusals.{Code, first_refusal}
use Rattle.slots.specs.Rows.{Row}
use Rattle.slots.specs.Slots.{Slot, slot}
use Rattle.history.specs.declared.call.Call.{Call}
use Rattle.history.specs.declared.call.Call.TheVariants.{AppendValue, AppendNValues, PushNulls, AppendValues, AppendDecoded, Take, GatherSlices, Filter}

-- one value; n equal values; n nulls; bytes with ends and a mask; a byte count, a slack, lengths, a mask and what a decoder means; a selection from rows
pub data Request : Type 0 where
  value : List ℕ → Request
  equal_values : List ℕ → ℕ → Request
  nulls : ℕ → Request
  values : List ℕ → List ℤ → Mask → Request
  decoding : ℕ → ℕ → List ℤ → Mask → Option (List ℕ) → Request
  select : List Row → Selection → Request

-- what a call asks, where sources and decoders mean these rows and lists
abbrev pub request_of : {R D : Type 0} → (R → List Row) → (D → Option (List ℕ)) → Call R D → Request
request_of rows means (AppendValue v) = value v.now
request_of rows means (AppendNValues v n) = equal_values v.now n
request_of rows means (PushNulls n) = nulls n
request_of rows means (AppendValues v ends validity) = values v.now (integers ends) validity
request_of rows means (AppendDecoded count slack lengths validity decoder) = decoding count slack (integers lengths) validity (means decoder)
request_of rows means (Take source indices validity) = select (rows source.now) (by_number (integers indices) (flags validity) (covered validity))
request_of rows means (GatherSlices source starts lengths declared) = select (rows source.now) (by_run (starts_of starts) (lengths_of lengths (length (starts_of starts))) declared)
request_of rows means (Filter source mask) = select (rows source.now) (by_mask (flags mask) (covered mask))

-- the slots that a request names
abbrev pub named_slots : Request → List Slot
named_slots (value bs) = slot true bs ∷ []
named_slots (equal_values bs n) = replicate n (slot true bs)
named_slots (nulls n) = replicate n (slot false [])
named_slots (values bs ends mask) = value_slots bs ends mask
named_slots (decoding count slack lengths mask means) = decoded_slots means lengths mask
named_slots (select rows s) = picked_slots rows (selection_indices s)

-- what is answered
abbrev pub request_answer : State → Request → Option Code
request_answer m (value bs) = append_answer m [] (slot true bs ∷ [])
request_answer m (equal_values bs n) = append_answer m [] (replicate n (slot true bs))
request_answer m (nulls n) = append_answer m [] (replicate n (slot false []))
request_answer m (values bs ends mask) = append_answer m (values_checks bs ends mask) (value_slots bs ends mask)
request_answer m (decoding count slack lengths mask means) = decoded_answer m count slack lengths mask means
request_answer m (select rows s) = select_answer m rows s

-- and what is left
abbrev pub request_after : State → Request → Option Code → State
request_after m (value bs) answer = appended m answer (slot true bs ∷ [])
request_after m (equal_values bs n) answer = appended m answer (replicate n (slot true bs))
request_after m (nulls n) answer = appended m answer (replicate n (slot false []))
request_after m (values bs ends mask) answer = appended m answer (value_slots bs ends mask)
request_after m (decoding count slack lengths mask means) answer = decoded m (first_refusal (checks_before m count slack lengths mask)) answer (count + slack) (decoded_slots means lengths mask)
request_after m (select rows s) answer = selected m rows s answer
