-- What a call that names slots answers, and what it leaves.
use Rattle.std.specs.Prelude.{ℕ, ◌+◌, ◌≤◌, cond, List, [], ◌∷◌, ◌++◌, length, Some, None, Option}
use Rattle.refusal.specs.Refusals.{Code, first_refusal}
use Rattle.slots.specs.Slots.{Slot, byte_count}
use Rattle.builder.specs.Space.{memory_check, space_checks}
use Rattle.builder.specs.States.{State, add_slots}

-- how many of the slots are null
unfoldable pub null_count : List Slot → ℕ
null_count [] = 0
null_count (s ∷ ss) = cond s.valid 0 1 + null_count ss

-- the space checks for these slots
abbrev pub space_for : State → List Slot → List (Option Code)
space_for m ss = space_checks m.nullable m.capacity m.rows m.used (length m.heap) m.top (length ss) (null_count ss) (byte_count ss) (byte_count ss)

-- the answer of a call that names these slots: 1, then checks of its own, then space
abbrev pub append_answer : State → List (Option Code) → List Slot → Option Code
append_answer m checks ss = first_refusal (memory_check m ∷ (checks ++ space_for m ss))

-- accepted, the slots are added; refused, nothing changes
abbrev pub appended : State → Option Code → List Slot → State
appended m None ss = add_slots m ss
appended m (Some c) ss = m

-- these slots fit
pub record Fits (m : State) (ss : List Slot) : Type 0 where
  pub entries : length ss ≤ m.free
  pub rows : m.rows + length ss ≤ m.capacity
  pub heap : m.used + byte_count ss ≤ length m.heap
  pub left : m.used + byte_count ss ≤ m.heap_left
  pub below : m.used + byte_count ss ≤ m.top

-- so many rows with so many bytes fit, wherever the bytes stand
pub record RowsFit (m : State) (count size : ℕ) : Type 0 where
  pub entries : count ≤ m.free
  pub rows : m.rows + count ≤ m.capacity
  pub left : m.used + size ≤ m.heap_left
  pub below : m.used + size ≤ m.top
