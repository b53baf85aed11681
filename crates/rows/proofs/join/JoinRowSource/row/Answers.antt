-- Past the most that a source shows.
use Rattle.rows.proofs.Places.{joined_past}
use Rattle.rows.proofs.join.JoinRowSource.row.Goals as goal

pub returns-then-i-ge-MOST_ROWS : goal.returns-then-i-ge-MOST_ROWS
returns-then-i-ge-MOST_ROWS g c = joined_past (g.A.RowSource.rows c.args.self.now.first) (g.B.RowSource.rows c.args.self.now.second) c.args.i c.if-i-ge-MOST_ROWS.true
