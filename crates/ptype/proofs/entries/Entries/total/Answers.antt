-- The sum so far goes on, or what is summed no longer fits.
use Rattle.std.proofs.Common.{◌≡◌, ◌+◌, map, drop, ◌∙◌, arith}
use Rattle.ptype.specs.Searches.{total}
use Rattle.ptype.proofs.Steps.{total_step, total_all, fits, fits_not}
use Rattle.ptype.proofs.entries.Entries.total.Given as given
use Rattle.ptype.proofs.entries.Entries.total.Goals as goal
use Rattle.ptype.proofs.entries.Entries.total.Goals.{After-unwrap_or}

-- the number that is summed next is a part of what is left
told : (g : given.Over) (c : After-unwrap_or g) → let zs = map g.T.IntegerPType.value c.args.self.now.values.now in total (drop c.loop-value.value-index zs) ≡ c.unwrap_or.result + total (drop (c.loop-value.value-index + 1) zs)
told g c =
    let s = total_step g.T.IntegerPType.value c.args.self.now.values.now c.loop-value.value-index c.value-item.result c.value-item.is c.loop-value-test.true c.to_u64.result c.to_u64.ensures.value in
    omega (arith, c.unwrap_or.ensures)

pub returns-in_err-sum : goal.returns-in_err-sum
returns-in_err-sum g c =
    let s = told g (goal.at.returns-in_err-sum g c).After-unwrap_or in
    c.from_residual.ensures ∙ fits_not _ (omega (arith, c.in_err-sum.ensures))

pub loop-value-preserved : goal.loop-value-preserved
loop-value-preserved g c =
    let s = told g (goal.at.loop-value-preserved g c).After-unwrap_or in
    (omega (arith, c.in_ok-sum.ensures), omega (arith, c.in_ok-sum.ensures))

pub returns : goal.returns
returns g c =
    let s = total_all g.T.IntegerPType.value c.args.self.now.values.now c.loop-value.value-index c.loop-value-test.false in
    fits c.loop-value.sum _ c.loop-value.invariant.1 (omega arith)
