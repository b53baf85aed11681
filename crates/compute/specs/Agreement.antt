-- That the three ways of selecting agree, and which refusals are a selection's own.
use Rattle.std.specs.Prelude.{◌≡◌, ℕ, Bool, true, not, ◌||◌, List, length, is_some, Some, None, Option, ◌==◌}
use Rattle.builder.specs.Space.{memory_check}
use Rattle.builder.specs.States.{State, state_of}
use Rattle.builder.specs.declared.builder.VarBinBuilder.{VarBinBuilder}
use Rattle.mask.specs.Masks.{bit_flags}
use Rattle.refusal.specs.Refusals.{Code}
use Rattle.slots.specs.Rows.{Row}
use Rattle.compute.specs.Selections.{Selection, expansion, select_answer, selected}

-- a builder with the memory that it is given: what the store tells, the heap, the bit bytes
pub record Holding : Type 0 where
  pub builder : VarBinBuilder
  pub offsets : List ℕ
  pub free : ℕ
  pub top : ℕ
  pub heap : List ℕ
  pub bits : List ℕ

abbrev pub state_in : Holding → State
state_in h = state_of (λ s. s.offsets) (λ s. s.free) (λ s. s.top) h.builder h h.heap h.bits

-- the memory is the builder's own: it is as the builder was left
abbrev pub Owned : State → Type 0
Owned m = None ≡ memory_check m

-- builders are alike when they agree in these eight figures, whatever else differs
pub record Alike (m n : State) : Type 0 where
  pub same_nullable : m.nullable ≡ n.nullable
  pub same_capacity : m.capacity ≡ n.capacity
  pub same_offsets : m.offsets ≡ n.offsets
  pub same_free : m.free ≡ n.free
  pub same_top : m.top ≡ n.top
  pub same_used : m.used ≡ n.used
  pub same_heap_length : length m.heap ≡ length n.heap
  pub same_row_bits : bit_flags m.rows m.bits ≡ bit_flags n.rows n.bits

-- the number of an answer, 0 where the call was accepted
abbrev pub number_of : Option Code → ℕ
number_of None = 0
number_of (Some c) = c.number

-- the refusals of a selection's own checks
abbrev pub is_own_number : ℕ → Bool
is_own_number n = n == 6 || (n == 8 || (n == 11 || n == 12))

-- accepted, or refused for want of space
abbrev pub is_space_number : ℕ → Bool
is_space_number n = n == 0 || (n == 5 || (n == 2 || (n == 3 || n == 4)))

-- two selections that expand to the same row indices, from the same rows, into builders alike, each with its own memory
pub record SameIndices (h k : Holding) (rows : List Row) (s t : Selection) : Type 0 where
  pub indices : List (Option ℕ)
  pub first_expands : expansion (length rows) s ≡ Some indices
  pub second_expands : expansion (length rows) t ≡ Some indices
  pub first_owned : Owned (state_in h)
  pub second_owned : Owned (state_in k)
  pub alike : Alike (state_in h) (state_in k)

pub record SelectionsAgree : Type 0 where
  -- both are accepted, or both refused with the same number, entry and byte
  pub same_answer : (h k : Holding) (rows : List Row) (s t : Selection) → SameIndices h k rows s t → select_answer (state_in h) rows s ≡ select_answer (state_in k) rows t
  -- and the builders are alike after
  pub alike_after : (h k : Holding) (rows : List Row) (s t : Selection) → SameIndices h k rows s t → Alike (selected (state_in h) rows s (select_answer (state_in h) rows s)) (selected (state_in k) rows t (select_answer (state_in k) rows t))
  -- with its own memory, a selection is refused with 6, 8, 11 or 12 exactly when it has no expansion
  pub own_refusals : (m : State) (rows : List Row) (s : Selection) → Owned m → is_own_number (number_of (select_answer m rows s)) ≡ not (is_some (expansion (length rows) s))
  -- and otherwise only space can refuse it
  pub else_space : (m : State) (rows : List Row) (s : Selection) → Owned m → is_some (expansion (length rows) s) ≡ true → is_space_number (number_of (select_answer m rows s)) ≡ true
