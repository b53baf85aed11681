-- The entries so far are copied.
use Rattle.std.proofs.Common.{◌≡◌}
use Rattle.ptype.specs.Integers.{integers_of}
use Rattle.offsets.specs.Stores.{held, amounts}
use Rattle.offsets.proofs.widening.copy_entries.Given as goal

abbrev pub invariant-loop-i : goal.invariant-loop-i
invariant-loop-i g l = held g.B.IntegerPType.value l.i l.to ≡ integers_of (amounts (held g.A.IntegerPType.value l.i l.entry-items))
