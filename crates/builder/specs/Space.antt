-- The checks that every append and selection shares: the memory as it was left, and space for the slots that it names.
use Rattle.std.specs.Prelude.{ℕ, ◌+◌, ◌<◌, ◌≤◌, Bool, not, ◌&&◌, List, [], ◌∷◌, length, Option, ◌==◌, nat_lt, slice_index}
use Rattle.refusal.specs.Refusals.{Code, rule, refuse_if}
use Rattle.builder.specs.States.{State}

-- the store holds rows + 1 offsets, the last is the used byte count, and the rest is as the builder was left
abbrev pub is_own_memory : State → Bool
is_own_memory m =
    (length m.offsets == m.rows + 1)
    && (slice_index m.offsets m.rows == m.used
    && (m.free == m.free_left
    && (length m.heap == m.heap_left && length m.bits == m.bits_left)))

-- 1: other memory
abbrev pub memory_check : State → Option Code
memory_check m = refuse_if (not (is_own_memory m)) (rule 1)

-- space for so many rows, of which so many are null, with so many bytes, and so many heap bytes asked for
abbrev pub space_checks : Bool → ℕ → ℕ → ℕ → ℕ → ℕ → ℕ → ℕ → ℕ → ℕ → List (Option Code)
space_checks nullable capacity held used heap top rows nulls bytes asked =
    refuse_if (not nullable && nat_lt 0 nulls) (rule 5)
    ∷ refuse_if (nat_lt capacity (held + rows)) (rule 2)
    ∷ refuse_if (nat_lt heap (used + asked)) (rule 3)
    ∷ refuse_if (nat_lt top (used + bytes)) (rule 4)
    ∷ []

-- there is space for one slot of n bytes
pub record Room (m : State) (n : ℕ) : Type 0 where
  pub entry : 0 < m.free
  pub row : m.rows < m.capacity
  pub fits : m.used + n ≤ length m.heap
  pub left : m.used + n ≤ m.heap_left
  pub below : m.used + n ≤ m.top

-- there is space for one row of n bytes, wherever the bytes stand
pub record RowRoom (m : State) (n : ℕ) : Type 0 where
  pub entry : 0 < m.free
  pub row : m.rows < m.capacity
  pub left : m.used + n ≤ m.heap_left
  pub below : m.used + n ≤ m.top
