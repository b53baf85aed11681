-- What was counted and what is left come to the whole.
use Rattle.compute.specs.Indices.{picked_slots}
use Rattle.compute.proofs.Surveying.{Surveying}
use Rattle.compute.proofs.select.survey_rows.Given as goal

abbrev pub invariant-loop-index : goal.invariant-loop-index
invariant-loop-index g l =
    let rows = g.R.RowSource.rows l.source in
    Surveying l.rows l.nulls l.bytes (picked_slots rows (g.N.RowIndices.left l.index-iterator)) (picked_slots rows (g.N.RowIndices.left l.fn.indices))
