-- Below the number of offsets an entry is read, and past it there is none.
use Rattle.std.proofs.Common.{rules}
use Rattle.offsets.proofs.Held.{offset_read}
use Rattle.offsets.proofs.fixed.FixedOffsetsOffsetStore.get.Goals as goal

pub returns : goal.returns
returns g c = offset_read g.T.IntegerPType.value c.args.self.now.used c.args.self.now.entries.now c.args.i c.len.result _ c.then.result c.len.ensures c.then.ensures.variant c.then.ensures.some (λ m h. search rules)
