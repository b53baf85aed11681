-- What is left of the entries and flags gives the answer.
use Rattle.std.proofs.Common.{◌≡◌, map, drop}
use Rattle.mask.specs.Masks.{flags}
use Rattle.ptype.specs.Searches.{first_not_below}
use Rattle.ptype.proofs.entries.Entries.first_not_below.Given as goal

abbrev pub invariant-loop-i : goal.invariant-loop-i
invariant-loop-i g l = let zs = map g.T.IntegerPType.value l.self.values.now in first_not_below l.limit l.i (drop l.i (flags l.mask)) (drop l.i zs) ≡ first_not_below l.limit 0 (flags l.mask) zs
