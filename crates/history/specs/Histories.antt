-- Histories on builder and memory: each entry's answer and what it leaves, by the definitions in the calls' contracts.
use Rattle.std.specs.Prelude.{ℕ, ◌+◌, Bool, not, List, [], ◌∷◌, ◌++◌, length, take, Option, slice_index}
use Rattle.builder.specs.States.{State}
use Rattle.mask.specs.Masks.{bit_flags}
use Rattle.refusal.specs.Refusals.{Code, rule, refuse_if}
use Rattle.slots.specs.Slots.{Slot}
use Rattle.history.specs.Books.{Figures, same_figures, Entry, own, elsewhere, added_by}
use Rattle.history.specs.Requests.{request_answer}
use Rattle.history.specs.Runs.{step}

-- the figures of the memory that a call is given
abbrev pub figures_of : State → Figures
figures_of m = record { offset_count = length m.offsets; last_offset = slice_index m.offsets m.rows; free_entries = m.free; heap_bytes = length m.heap; bit_count = length m.bits }

-- the figures that the builder was left with
abbrev pub figures_left : State → Figures
figures_left m = record { offset_count = m.rows + 1; last_offset = m.used; free_entries = m.free_left; heap_bytes = m.heap_left; bit_count = m.bits_left }

-- a call on other memory is refused with 1 and changes nothing
abbrev pub entry_answer : State → Entry → Option Code
entry_answer m (own r) = request_answer m r
entry_answer m (elsewhere f r) = refuse_if (not (same_figures f (figures_left m))) (rule 1)

abbrev pub entry_after : State → Entry → State
entry_after m (own r) = step m r
entry_after m (elsewhere f r) = m

unfoldable pub state_after : State → List Entry → State
state_after m [] = m
state_after m (e ∷ es) = state_after (entry_after m e) es

unfoldable pub entry_answers : State → List Entry → List (Option Code)
entry_answers m [] = []
entry_answers m (e ∷ es) = entry_answer m e ∷ entry_answers (entry_after m e) es

-- the slots that the accepted calls added
abbrev pub added_at : State → Entry → List Slot
added_at m (own r) = added_by (request_answer m r) r
added_at m (elsewhere f r) = []

unfoldable pub added_slots : State → List Entry → List Slot
added_slots m [] = []
added_slots m (e ∷ es) = added_at m e ++ added_slots (entry_after m e) es

-- a column as it is read from a store, a heap and bits: offsets, used heap, row bits
pub record Column : Type 0 where
  pub offsets : List ℕ
  pub heap : List ℕ
  pub row_bits : List Bool

abbrev pub column_of : State → Column
column_of m = record { offsets = m.offsets; heap = take m.used m.heap; row_bits = bit_flags m.rows m.bits }
