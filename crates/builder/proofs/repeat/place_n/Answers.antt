-- Each slot has room, and the others fit behind it.
use Rattle.std.proofs.Common.{◌+◌, ◌-◌, ◌∷◌, replicate, subst}
use Rattle.slots.specs.Slots.{slot_of}
use Rattle.builder.specs.Calls.{Fits}
use Rattle.builder.specs.States.{state_with}
use Rattle.builder.proofs.Filling.{Filling, first_room, more, ends, one_of, none_of}
use Rattle.builder.proofs.Lent.{then_same}
use Rattle.builder.proofs.repeat.place_n.Goals as goal

pub place-requires : goal.place-requires
place-requires g c =
    let s = g.S.OffsetStore in
    let m = state_with s.offsets s.free s.top c.loop-i.b c.loop-i.memory in
    let x = slot_of c.args.slot in
    let rest = replicate (c.args.n - (c.loop-i._i + 1)) x in
    let f : Fits m (x ∷ rest) = subst (Fits m) (one_of c.args.n c.loop-i._i x c.loop-i-test.true) c.loop-i.invariant.filling.fits in
    first_room m x rest f

pub loop-i-preserved : goal.loop-i-preserved
loop-i-preserved g c =
    let s = g.S.OffsetStore in
    let x = slot_of c.args.slot in
    let m0 = state_with s.offsets s.free s.top c.args.b.now c.args.memory.now in
    let m = state_with s.offsets s.free s.top c.loop-i.b c.loop-i.memory in
    record {
      filling = more m0 (replicate c.args.n x) m x (replicate (c.args.n - (c.loop-i._i + 1)) x) _ (subst (Filling m0 (replicate c.args.n x) m) (one_of c.args.n c.loop-i._i x c.loop-i-test.true) c.loop-i.invariant.filling) c.place.ensures.after;
      same = then_same _ _ _ c.loop-i.invariant.same c.place.ensures.same;
    }

pub returns : goal.returns
returns g c =
    let s = g.S.OffsetStore in
    let x = slot_of c.args.slot in
    let m0 = state_with s.offsets s.free s.top c.args.b.now c.args.memory.now in
    let m = state_with s.offsets s.free s.top c.loop-i.b c.loop-i.memory in
    record {
      after = ends m0 (replicate c.args.n x) m (subst (Filling m0 (replicate c.args.n x) m) (none_of c.args.n c.loop-i._i x c.loop-i-test.false) c.loop-i.invariant.filling);
      same = c.loop-i.invariant.same;
    }
