-- A row that does not have the byte is passed.
use Rattle.std.proofs.Common.{◌∙◌}
use Rattle.utf8.proofs.Table.{lacks_low, lacks_high}
use Rattle.utf8.proofs.reader.after_lead.Goals as goal
use Rattle.utf8.proofs.reader.after_lead.Goals.{else-row-byte-via-then-row-byte+else-byte-row, else-row-byte-via-else-row-byte}

pub loop-row-preserved : goal.loop-row-preserved
loop-row-preserved c =
    elim c.else-row-byte.branch [
      | else-row-byte-via-then-row-byte+else-byte-row w ↦ lacks_high _ c.loop-row.row-index c.args.byte _ c.loop-row-test.true w.if-byte-row.false ∙ c.loop-row.invariant
      | else-row-byte-via-else-row-byte w ↦ lacks_low _ c.loop-row.row-index c.args.byte _ c.loop-row-test.true w.if-row-byte.false ∙ c.loop-row.invariant
    ]
