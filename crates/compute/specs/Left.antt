-- Runs as lists, and what is left to read of row indices, for each way of selecting.
use Rattle.std.specs.Prelude.{ℕ, List, length, drop, ℤ, Option}
use Rattle.integers.specs.Slices.{integers}
use Rattle.mask.specs.Masks.{flags}
use Rattle.compute.specs.Indices.{take_indices, filter_indices, runs_left}
use Rattle.compute.specs.Selections.{lengths_of}
use Rattle.compute.specs.declared.filter.MaskIndices.{MaskIndices}
use Rattle.compute.specs.declared.gather.RunIndices.{RunIndices}
use Rattle.compute.specs.declared.gather.Runs.{Runs}
use Rattle.compute.specs.declared.take.TakeIndices.{TakeIndices}

abbrev pub left_to_take : TakeIndices → List (Option ℕ)
left_to_take s = take_indices (drop s.at (flags s.validity)) (drop s.at (integers s.indices))

abbrev pub run_starts : Runs → List ℤ
run_starts s = integers s.starts

abbrev pub run_lengths : Runs → List ℤ
run_lengths s = lengths_of s.lengths (length (integers s.starts))

abbrev pub left_of_runs : RunIndices → List (Option ℕ)
left_of_runs s = runs_left s.run s.row (run_starts s.runs) (run_lengths s.runs)

abbrev pub left_of_mask : MaskIndices → List (Option ℕ)
left_of_mask s = filter_indices s.from (drop s.from (flags s.mask))
