-- The longest of the slots so far.
use Rattle.std.proofs.Common.{◌≡◌}
use Rattle.integers.specs.Slices.{integers}
use Rattle.array.specs.Tallies.{longest_of}
use Rattle.array.proofs.Tallying.{front}
use Rattle.array.proofs.view.VarBinArray.longest.Given as goal

abbrev pub invariant-loop-i : goal.invariant-loop-i
invariant-loop-i l = l.longest ≡ longest_of (front (integers l.self.offsets) l.i)
