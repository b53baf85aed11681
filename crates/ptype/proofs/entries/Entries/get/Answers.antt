-- An entry within the slice is read.
use Rattle.std.proofs.Common.{ap, ◌∙◌, arith}
use Rattle.ptype.specs.Integers.{natural}
use Rattle.ptype.proofs.Naturals.{at_in}
use Rattle.ptype.proofs.entries.Entries.get.Goals as goal

pub returns : goal.returns
returns g c =
    let found = c.in-Some.ensures.lookup in
    c.to_u64.ensures.value ∙ ap (λ y. natural (g.T.IntegerPType.value y)) found.1
    ∙ at_in g.T.IntegerPType.value c.args.self.now.values.now c.args.i c.in-Some.value.now (omega arith)
