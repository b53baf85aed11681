-- The three ways to select, what each asks, and the one meaning behind them.
use Rattle.std.specs.Prelude.{ℕ, ◌+◌, Bool, cond, not, ◌||◌, List, [], ◌∷◌, length, replicate, ℤ, pos, Some, None, Option, ◌==◌, nat_le}
use Rattle.std.specs.Option.{option_map}
use Rattle.builder.specs.Bulk.{counts_check}
use Rattle.builder.specs.Calls.{append_answer, appended}
use Rattle.builder.specs.States.{State}
use Rattle.integers.specs.Slices.{integers, widened}
use Rattle.integers.specs.declared.unsigned.UnsignedSlice.{UnsignedSlice}
use Rattle.ptype.specs.Integers.{amount}
use Rattle.ptype.specs.Searches.{first_not_below, total}
use Rattle.refusal.specs.Refusals.{Code, code, rule, refuse_if, first_refusal}
use Rattle.slots.specs.Rows.{Row}
use Rattle.compute.specs.Indices.{take_indices, gather_indices, filter_indices, picked_slots}
use Rattle.compute.specs.declared.gather.RunLengths.{RunLengths}
use Rattle.compute.specs.declared.gather.RunLengths.TheVariants.{Each, Same}

-- by number: the indices, a flag for each, and whether the mask has a bit for each flag;
-- by run: starts, lengths, and how many rows are declared;
-- by mask: the flags, and whether the mask has a bit for each
pub data Selection : Type 0 where
  by_number : List ℤ → List Bool → Bool → Selection
  by_run : List ℤ → List ℤ → ℕ → Selection
  by_mask : List Bool → Bool → Selection

-- starts, and the lengths of so many runs: one for each, or the same for all
abbrev pub starts_of : UnsignedSlice → List ℤ
starts_of s = integers (widened s)

abbrev pub lengths_of : RunLengths → ℕ → List ℤ
lengths_of (Each s) count = integers (widened s)
lengths_of (Same n) count = replicate count (pos n)

-- a run of length 0 is inside wherever it starts
abbrev pub is_inside : ℕ → ℕ → ℕ → Bool
is_inside count start len = len == 0 || nat_le (start + len) count

-- the first run that leaves a source of so many rows; the first run has place p
unfoldable pub first_outside : ℕ → ℕ → List ℤ → List ℤ → Option ℕ
first_outside count p [] lens = None
first_outside count p (s ∷ starts) [] = None
first_outside count p (s ∷ starts) (n ∷ lens) = cond (is_inside count (amount s) (amount n)) (first_outside count (p + 1) starts lens) (Some p)

-- what a selection asks of itself, from a source of so many rows:
-- by number: 6 counts differ; 11 at the first set index that is negative or not below the count;
-- by run: 6 counts differ; 11 at the first run that leaves the source; 8 the declared rows differ;
-- by mask: 6 too few bytes; 12 the mask is not as long as the source
abbrev pub selection_checks : ℕ → Selection → List (Option Code)
selection_checks count (by_number zs fs enough) =
    counts_check zs fs enough
    ∷ option_map (λ i. code 11 i 0) (first_not_below count 0 fs zs)
    ∷ []
selection_checks count (by_run starts lens declared) =
    refuse_if (not (length starts == length lens)) (rule 6)
    ∷ option_map (λ i. code 11 i 0) (first_outside count 0 starts lens)
    ∷ refuse_if (not (total lens == declared)) (rule 8)
    ∷ []
selection_checks count (by_mask fs enough) =
    refuse_if (not enough) (rule 6)
    ∷ refuse_if (not (length fs == count)) (rule 12)
    ∷ []

abbrev pub selection_indices : Selection → List (Option ℕ)
selection_indices (by_number zs fs enough) = take_indices fs zs
selection_indices (by_run starts lens declared) = gather_indices starts lens
selection_indices (by_mask fs enough) = filter_indices 0 fs

-- what a selection expands to: its row indices, or nothing where its own checks refuse it
abbrev pub unless_refused : Option Code → List (Option ℕ) → Option (List (Option ℕ))
unless_refused None indices = Some indices
unless_refused (Some c) indices = None

abbrev pub expansion : ℕ → Selection → Option (List (Option ℕ))
expansion count s = unless_refused (first_refusal (selection_checks count s)) (selection_indices s)

-- the one meaning of all three: 1, the selection's own checks, space; accepted, the picked slots are added
abbrev pub select_answer : State → List Row → Selection → Option Code
select_answer m rows s = append_answer m (selection_checks (length rows) s) (picked_slots rows (selection_indices s))

abbrev pub selected : State → List Row → Selection → Option Code → State
selected m rows s answer = appended m answer (picked_slots rows (selection_indices s))
