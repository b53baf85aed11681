-- Each row has room, and the others fit behind it.
use Rattle.std.proofs.Common.{◌∷◌, sym, ap, ◌∙◌, subst}
use Rattle.builder.specs.Calls.{Fits}
use Rattle.builder.specs.States.{state_with}
use Rattle.builder.proofs.Filling.{Filling, first_room, more, ends}
use Rattle.builder.proofs.Lent.{then_same}
use Rattle.slots.specs.Slots.{slot_of}
use Rattle.compute.specs.Indices.{picked_slots}
use Rattle.compute.proofs.select.place_rows.Goals as goal

pub place-requires : goal.place-requires
place-requires g c =
    let s = g.S.OffsetStore in
    let m = state_with s.offsets s.free s.top c.loop-index.b c.loop-index.memory in
    let rows = g.R.RowSource.rows c.args.source.now in
    let rest = picked_slots rows (g.N.RowIndices.left c.next.new.self) in
    let x = slot_of c.slot_at.result in
    let first = ap (picked_slots rows) (g.met.N.RowIndices.reads _ _ _ c.in-Some.ensures.steps) ∙ sym (ap (λ y. y ∷ rest) c.slot_at.ensures) in
    let f : Fits m (x ∷ rest) = subst (Fits m) first c.loop-index.invariant.filling.fits in
    first_room m x rest f

pub loop-index-preserved : goal.loop-index-preserved
loop-index-preserved g c =
    let s = g.S.OffsetStore in
    let m0 = state_with s.offsets s.free s.top c.args.b.now c.args.memory.now in
    let m = state_with s.offsets s.free s.top c.loop-index.b c.loop-index.memory in
    let m1 = state_with s.offsets s.free s.top c.place.new.b c.place.new.memory in
    let rows = g.R.RowSource.rows c.args.source.now in
    let rest = picked_slots rows (g.N.RowIndices.left c.next.new.self) in
    let all = picked_slots rows (g.N.RowIndices.left c.args.indices) in
    let x = slot_of c.slot_at.result in
    let first = ap (picked_slots rows) (g.met.N.RowIndices.reads _ _ _ c.in-Some.ensures.steps) ∙ sym (ap (λ y. y ∷ rest) c.slot_at.ensures) in
    record {
      filling = more m0 all m x rest m1 (subst (Filling m0 all m) first c.loop-index.invariant.filling) c.place.ensures.after;
      same = then_same _ _ _ c.loop-index.invariant.same c.place.ensures.same;
    }

pub returns : goal.returns
returns g c =
    let s = g.S.OffsetStore in
    let m0 = state_with s.offsets s.free s.top c.args.b.now c.args.memory.now in
    let m = state_with s.offsets s.free s.top c.loop-index.b c.loop-index.memory in
    let rows = g.R.RowSource.rows c.args.source.now in
    let all = picked_slots rows (g.N.RowIndices.left c.args.indices) in
    let none = (g.met.N.RowIndices.reads _ _ _ c.in-None.ensures.steps).0 in
    record {
      after = ends m0 all m (subst (λ ns. Filling m0 all m (picked_slots rows ns)) none c.loop-index.invariant.filling);
      same = c.loop-index.invariant.same;
    }
