-- What is left of the entries gives the answer.
use Rattle.std.proofs.Common.{◌≡◌, map, drop}
use Rattle.ptype.specs.Searches.{first_fall}
use Rattle.ptype.proofs.entries.Entries.first_fall.Given as goal

abbrev pub invariant-loop-i : goal.invariant-loop-i
invariant-loop-i g l = let zs = map g.T.IntegerPType.value l.self.values.now in first_fall l.limit l.last l.i (drop l.i zs) ≡ first_fall l.limit l.low 0 zs
