-- Below the number of offsets an entry is read, at either width, and past it there is none.
use Rattle.std.proofs.Common.{rules}
use Rattle.offsets.proofs.Widths.{offset_read}
use Rattle.offsets.proofs.widening.OffsetsOffsetStore.get.Goals as goal

pub returns : goal.returns
returns g c =
    let s = c.args.self.now in
    offset_read g.N.IntegerPType.value g.N.Wide.IntegerPType.value s.widened s.used s.narrow.now s.wide.now c.args.i c.len.result _ c.then.result c.len.ensures c.then.ensures.variant c.then.ensures.some (λ m h. search rules)
