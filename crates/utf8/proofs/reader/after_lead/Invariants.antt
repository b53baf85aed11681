-- What the loop over the table keeps.
use Rattle.std.proofs.Common.{◌≡◌, drop}
use Rattle.utf8.specs.Grammar.{rows}
use Rattle.utf8.specs.Reading.{after_lead}
use Rattle.utf8.proofs.reader.after_lead.Given as goal

-- the rows of the code's table that are left tell what the grammar's rows tell
abbrev pub invariant-loop-row : goal.invariant-loop-row
invariant-loop-row l = after_lead (drop l.row-index l.row-items) l.byte ≡ after_lead rows l.byte
