-- The length of a run, from the list or the same for all.
use Rattle.std.proofs.Common.{sym, ap, ◌∙◌}
use Rattle.integers.specs.Slices.{integers}
use Rattle.ptype.specs.Integers.{amount_at}
use Rattle.compute.specs.Selections.{lengths_of}
use Rattle.compute.proofs.gather.RunLengths.length_at.Goals as goal

pub returns-in-Each : goal.returns-in-Each
returns-in-Each c count h =
    c.amount.ensures
    ∙ ap (λ s. amount_at (integers s) c.args.i) c.from.ensures
    ∙ sym (ap (λ l. amount_at (lengths_of l count) c.args.i) c.in-Each.is)
