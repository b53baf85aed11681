-- One row more: a value with its bytes, or a null.
use Rattle.std.proofs.Common.{subst}
use Rattle.slots.specs.Rows.{null, bytes}
use Rattle.compute.specs.Indices.{picked_slots}
use Rattle.compute.proofs.Surveying.{Surveying, a_value, a_null, ends, first_slot}
use Rattle.compute.proofs.select.survey_rows.Goals as goal

pub loop-index-preserved-in-Some-row_at : goal.loop-index-preserved-in-Some-row_at
loop-index-preserved-in-Some-row_at g c =
    let rows = g.R.RowSource.rows c.args.source.now in
    let before = g.N.RowIndices.left c.loop-index.index-iterator in
    let after = g.N.RowIndices.left c.next.new.self in
    let all = picked_slots rows (g.N.RowIndices.left c.args.indices) in
    let first = first_slot rows before after c.in-Some.index (bytes c.in-Some-row_at.value.now) (g.met.N.RowIndices.reads _ _ _ c.in-Some.ensures.steps) c.in-Some-row_at.ensures in
    a_value c.loop-index.rows c.loop-index.nulls c.loop-index.bytes (picked_slots rows after) all c.saturating_add-rows.result c.saturating_add-rows.ensures c.in-Some-row_at.value.now c.saturating_add-bytes.result c.saturating_add-bytes.ensures
    (subst (λ ss. Surveying c.loop-index.rows c.loop-index.nulls c.loop-index.bytes ss all) first c.loop-index.invariant)

pub loop-index-preserved : goal.loop-index-preserved
loop-index-preserved g c =
    let rows = g.R.RowSource.rows c.args.source.now in
    let before = g.N.RowIndices.left c.loop-index.index-iterator in
    let after = g.N.RowIndices.left c.next.new.self in
    let all = picked_slots rows (g.N.RowIndices.left c.args.indices) in
    let first = first_slot rows before after c.in-Some.index null (g.met.N.RowIndices.reads _ _ _ c.in-Some.ensures.steps) c.in-None-row_at.ensures in
    a_null c.loop-index.rows c.loop-index.nulls c.loop-index.bytes (picked_slots rows after) all c.saturating_add-rows.result c.saturating_add-rows.ensures c.saturating_add-nulls.result c.saturating_add-nulls.ensures
    (subst (λ ss. Surveying c.loop-index.rows c.loop-index.nulls c.loop-index.bytes ss all) first c.loop-index.invariant)

pub returns : goal.returns
returns g c =
    let rows = g.R.RowSource.rows c.args.source.now in
    let all = picked_slots rows (g.N.RowIndices.left c.args.indices) in
    let none = (g.met.N.RowIndices.reads _ _ _ c.in-None.ensures.steps).0 in
    ends c.loop-index.rows c.loop-index.nulls c.loop-index.bytes all (subst (λ ns. Surveying c.loop-index.rows c.loop-index.nulls c.loop-index.bytes (picked_slots rows ns) all) none c.loop-index.invariant)
