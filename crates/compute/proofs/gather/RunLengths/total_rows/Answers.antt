-- The same length times the number of runs.
use Rattle.std.proofs.Common.{◌*◌, sym, ap, ◌∙◌}
use Rattle.ptype.specs.Searches.{total, in_u64}
use Rattle.compute.specs.Selections.{lengths_of}
use Rattle.compute.proofs.Steps.{total_same, checked_fits}
use Rattle.compute.proofs.gather.RunLengths.total_rows.Goals as goal

pub returns-in-Same : goal.returns-in-Same
returns-in-Same c =
    checked_fits (c.args.count * c.in-Same.n) c.checked_mul.result c.checked_mul.ensures
    ∙ sym (ap (λ l. in_u64 (total (lengths_of l c.args.count))) c.in-Same.is ∙ ap in_u64 (total_same c.args.count c.in-Same.n))
