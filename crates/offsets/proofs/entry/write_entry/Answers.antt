-- A write changes one number of the list.
use Rattle.offsets.proofs.Held.{written}
use Rattle.offsets.proofs.entry.write_entry.Goals as goal

pub returns-then-i-entries : goal.returns-then-i-entries
returns-then-i-entries g c = written g.T.IntegerPType.value c.args.entries.now c.args.i c.in-Some.entry c.args.offset c.in-Some.ensures.1
