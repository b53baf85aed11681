-- Each offset so far is a boundary.
use Rattle.integers.specs.Slices.{integers}
use Rattle.tiling.proofs.Decided.{BoundariesTo}
use Rattle.tiling.proofs.all_boundaries.Given as goal

abbrev pub invariant-loop-i : goal.invariant-loop-i
invariant-loop-i l = BoundariesTo (integers l.offsets) l.bytes l.i
