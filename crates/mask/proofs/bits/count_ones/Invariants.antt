-- What the loop over the whole bytes keeps.
use Rattle.std.proofs.Common.{length}
use Rattle.mask.proofs.Ones.{Counted}
use Rattle.mask.proofs.bits.count_ones.Given as goal

abbrev pub invariant-loop-byte : goal.invariant-loop-byte
invariant-loop-byte l = Counted l.bytes l.whole (length l.yielded) l.byte-iterator.n l.byte-iterator.iter.rest.now l.total
