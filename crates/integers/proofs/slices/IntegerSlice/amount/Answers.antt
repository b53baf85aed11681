-- The number that is read, or 0.
use Rattle.integers.specs.Slices.{integers}
use Rattle.ptype.proofs.Naturals.{entry_read}
use Rattle.integers.proofs.slices.IntegerSlice.amount.Goals as goal

pub returns : goal.returns
returns c = entry_read (integers c.args.self) c.args.i c.unwrap_or.result c.get.result c.unwrap_or.ensures c.get.ensures
