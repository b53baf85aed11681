-- What is left of the lengths gives the answer.
use Rattle.std.proofs.Common.{◌≡◌, map, drop}
use Rattle.ptype.specs.Searches.{first_overrun}
use Rattle.ptype.proofs.entries.Entries.first_overrun.Given as goal

abbrev pub invariant-loop-i : goal.invariant-loop-i
invariant-loop-i g l = let zs = map g.T.IntegerPType.value l.self.values.now in first_overrun l.left l.i (drop l.i zs) ≡ first_overrun l.bytes 0 zs
