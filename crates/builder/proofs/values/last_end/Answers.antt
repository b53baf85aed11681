-- The last end of all, or none.
use Rattle.std.proofs.Common.{◌-◌, sym, ap, ◌∙◌, arith}
use Rattle.integers.specs.Slices.{integers}
use Rattle.ptype.specs.Integers.{amount_at}
use Rattle.builder.proofs.Cuts.{last_none, last_at}
use Rattle.builder.proofs.values.last_end.Goals as goal

pub returns-then-count-eq0 : goal.returns-then-count-eq0
returns-then-count-eq0 c = last_none (integers c.args.ends) (sym c.len-count.ensures ∙ c.if-count-eq0.true)

pub returns-else-count-eq0 : goal.returns-else-count-eq0
returns-else-count-eq0 c =
    let zs = integers c.args.ends in
    c.amount.ensures
    ∙ ap (λ n. amount_at zs (n - 1)) c.len-count.ensures
    ∙ last_at zs 0 (omega (arith, c.len-count.ensures, c.if-count-eq0.false))
