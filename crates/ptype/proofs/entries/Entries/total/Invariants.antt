-- The sum so far and the sum of what is left are the whole.
use Rattle.std.proofs.Common.{◌≡◌, ◌+◌, ◌^◌, ◌<◌, map, drop}
use Rattle.ptype.specs.Searches.{total}
use Rattle.ptype.proofs.entries.Entries.total.Given as goal

abbrev pub invariant-loop-value : goal.invariant-loop-value
invariant-loop-value g l = let zs = map g.T.IntegerPType.value l.self.values.now in (l.sum + total (drop l.value-index zs) ≡ total zs) × (l.sum < 2 ^ 64)
