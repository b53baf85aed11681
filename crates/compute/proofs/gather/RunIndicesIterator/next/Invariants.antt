-- The indices that are left stay while runs without rows are passed over.
use Rattle.std.proofs.Common.{◌≡◌, ◌-◌, length}
use Rattle.integers.specs.Slices.{integers}
use Rattle.compute.specs.Indices.{runs_left}
use Rattle.compute.specs.Selections.{lengths_of}
use Rattle.compute.proofs.gather.RunIndicesIterator.next.Given as goal

abbrev pub invariant-loop-self : goal.invariant-loop-self
invariant-loop-self l =
    runs_left l.self.run l.self.row (integers l.self.runs.starts) (lengths_of l.self.runs.lengths (length (integers l.self.runs.starts)))
    ≡ runs_left l.initial.self.run l.initial.self.row (integers l.initial.self.runs.starts) (lengths_of l.initial.self.runs.lengths (length (integers l.initial.self.runs.starts)))

abbrev pub decreases-loop-self : goal.decreases-loop-self
decreases-loop-self l = length (integers l.self.runs.starts) - l.self.run
