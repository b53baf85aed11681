-- Each row has room, and the others fit behind it.
use Rattle.std.proofs.Common.{◌<◌, length, arith, rules}
use Rattle.integers.specs.Slices.{integers}
use Rattle.mask.specs.Masks.{flags}
use Rattle.builder.specs.States.{state_of, state_with}
use Rattle.builder.proofs.Laying.{room, more, ends}
use Rattle.builder.proofs.Lent.{then_same}
use Rattle.builder.proofs.decoded.place_lengths.Goals as goal

pub place_row-requires : goal.place_row-requires
place_row-requires g c =
    let s = g.S.OffsetStore in
    let zs = integers c.args.lengths in
    let m0 = state_with s.offsets s.free s.top c.args.b.now c.args.memory.now in
    let m = state_with s.offsets s.free s.top c.loop-i.b c.loop-i.memory in
    let h : c.loop-i.i < length zs = omega (arith, c.len-i-end.ensures) in
    let r = room m0 m (flags c.args.validity) zs c.loop-i.i h c.requires.counts c.loop-i.invariant.0 c.amount-size.result c.amount-size.ensures in
    record { entry = r.entry; row = r.row; left = r.left; below = r.below }

pub loop-i-preserved : goal.loop-i-preserved
loop-i-preserved g c =
    let s = g.S.OffsetStore in
    let zs = integers c.args.lengths in
    let m0 = state_with s.offsets s.free s.top c.args.b.now c.args.memory.now in
    let m = state_with s.offsets s.free s.top c.loop-i.b c.loop-i.memory in
    let heap = c.loop-i.memory.heap.now in
    let m1 = state_of s.offsets s.free s.top c.place_row.new.b c.place_row.new.store heap c.place_row.new.bits in
    let h : c.loop-i.i < length zs = omega (arith, c.len-i-end.ensures) in
    (more m0 m (flags c.args.validity) zs c.loop-i.i h c.requires.counts c.loop-i.invariant.0 m1 c.value.result c.amount-size.result c.value.ensures c.amount-size.ensures (c.place_row.ensures heap), then_same _ _ _ c.loop-i.invariant.1 (search rules))

pub returns : goal.returns
returns g c =
    let s = g.S.OffsetStore in
    let zs = integers c.args.lengths in
    let m0 = state_with s.offsets s.free s.top c.args.b.now c.args.memory.now in
    let m = state_with s.offsets s.free s.top c.loop-i.b c.loop-i.memory in
    record { after = ends m0 m (flags c.args.validity) zs c.loop-i.i (omega (arith, c.len-i-end.ensures, c.requires.counts)) c.loop-i.invariant.0; same = c.loop-i.invariant.1 }
