-- An accepted offset takes the next entry.
use Rattle.std.proofs.Common.{arith}
use Rattle.offsets.proofs.Held.{offsets_more}
use Rattle.offsets.proofs.fixed.FixedOffsetsOffsetStore.push.Goals as goal

pub returns-clause-after : goal.returns-clause-after
returns-clause-after g c = offsets_more g.T.IntegerPType.value c.args.self.now.used c.args.self.now.entries.now c.write_entry.new.entries c.args.offset (omega arith) c.write_entry.ensures
