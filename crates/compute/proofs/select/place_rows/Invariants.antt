-- The slots that are left still fit, and lead to the same end.
use Rattle.builder.specs.States.{state_with}
use Rattle.builder.proofs.Filling.{Placing}
use Rattle.compute.specs.Indices.{picked_slots}
use Rattle.compute.proofs.select.place_rows.Given as goal

abbrev pub invariant-loop-index : goal.invariant-loop-index
invariant-loop-index g l =
    let s = g.S.OffsetStore in
    let rows = g.R.RowSource.rows l.source in
    Placing (state_with s.offsets s.free s.top l.initial.b l.initial.memory) (picked_slots rows (g.N.RowIndices.left l.fn.indices))
    (state_with s.offsets s.free s.top l.b l.memory) (picked_slots rows (g.N.RowIndices.left l.index-iterator)) l.initial.memory l.memory
