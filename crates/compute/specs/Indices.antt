-- Row indices: which rows a selection picks, in order. A row index is the number of a row, or none for a null.
use Rattle.std.specs.Prelude.{ℕ, ◌+◌, ◌-◌, Bool, true, false, List, [], ◌∷◌, ◌++◌, map, drop, ℤ, Some, None, Option}
use Rattle.std.specs.List.{slice_get, range_with_len}
use Rattle.std.specs.Option.{unwrap_or}
use Rattle.builder.specs.Surveys.{in_word}
use Rattle.ptype.specs.Integers.{amount}
use Rattle.slots.specs.Rows.{Row, null}
use Rattle.slots.specs.Slots.{Slot, row_slot}

-- by number: a number with a set flag is a row's, one with an unset flag stands for a null
unfoldable pub take_indices : List Bool → List ℤ → List (Option ℕ)
take_indices [] zs = []
take_indices (f ∷ fs) [] = []
take_indices (true ∷ fs) (z ∷ zs) = Some (amount z) ∷ take_indices fs zs
take_indices (false ∷ fs) (z ∷ zs) = None ∷ take_indices fs zs

-- one run: its rows in order
abbrev pub run_indices : ℕ → ℕ → List (Option ℕ)
run_indices start len = map Some (range_with_len start len)

-- by run: the rows of each run, one run after the other
unfoldable pub gather_indices : List ℤ → List ℤ → List (Option ℕ)
gather_indices [] lens = []
gather_indices (s ∷ starts) [] = []
gather_indices (s ∷ starts) (n ∷ lens) = run_indices (amount s) (amount n) ++ gather_indices starts lens

-- an index as 64 bits hold it: no source has a row past them
abbrev pub in_word_index : Option ℕ → Option ℕ
in_word_index None = None
in_word_index (Some i) = Some (in_word i)

-- what is left of runs of which the first `row` rows of the first run were read
unfoldable pub rest_indices : List ℤ → List ℤ → ℕ → List (Option ℕ)
rest_indices [] lens row = []
rest_indices (s ∷ starts) [] row = []
rest_indices (s ∷ starts) (n ∷ lens) row = run_indices (amount s + row) (amount n - row) ++ gather_indices starts lens

abbrev pub runs_left : ℕ → ℕ → List ℤ → List ℤ → List (Option ℕ)
runs_left run row starts lens = map in_word_index (rest_indices (drop run starts) (drop run lens) row)

-- by mask: the set rows in order; the first flag is that of row p
unfoldable pub filter_indices : ℕ → List Bool → List (Option ℕ)
filter_indices p [] = []
filter_indices p (true ∷ fs) = Some p ∷ filter_indices (p + 1) fs
filter_indices p (false ∷ fs) = filter_indices (p + 1) fs

-- the row at an index: null for a null index, and for a row that is not there
abbrev pub picked_row : List Row → Option ℕ → Row
picked_row rows None = null
picked_row rows (Some i) = unwrap_or (slice_get rows i) null

-- what a selection appends: a null index or a null row becomes a null slot without bytes, any other a valid slot with the row's bytes
abbrev pub picked_slot : List Row → Option ℕ → Slot
picked_slot rows index = row_slot (picked_row rows index)

abbrev pub picked_slots : List Row → List (Option ℕ) → List Slot
picked_slots rows indices = map (picked_slot rows) indices
