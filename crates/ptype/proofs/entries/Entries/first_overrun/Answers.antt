-- Each length goes on with the search or is its answer.
use Rattle.std.proofs.Common.{◌≡◌, ◌+◌, map, drop, arith}
use Rattle.std.proofs.lemmas.Bool.Decides.{nat_tests}
use Rattle.ptype.specs.Searches.{first_overrun}
use Rattle.ptype.proofs.Steps.{overrun_from, overrun_step}
use Rattle.ptype.proofs.entries.Entries.first_overrun.Given as given
use Rattle.ptype.proofs.entries.Entries.first_overrun.Goals as goal
use Rattle.ptype.proofs.entries.Entries.first_overrun.Goals.{After-to_u64}

-- what the length at i makes of the search
told : (g : given.Over) (c : After-to_u64 g) → let zs = map g.T.IntegerPType.value c.args.self.now.values.now in first_overrun c.loop-i.left c.loop-i.i (drop c.loop-i.i zs) ≡ overrun_from c.loop-i.left c.loop-i.i (drop (c.loop-i.i + 1) zs) c.to_u64.result
told g c = overrun_step g.T.IntegerPType.value c.args.self.now.values.now c.loop-i.i c.value-item.result c.value-item.is c.loop-i-test.true c.to_u64.result c.to_u64.ensures.value c.loop-i.left

pub returns-then-n-left : goal.returns-then-n-left
returns-then-n-left g c = let s = told g (goal.at.returns-then-n-left g c).After-to_u64 in grind (arith, nat_tests)

pub returns-in-None : goal.returns-in-None
returns-in-None g c = let s = told g (goal.at.returns-in-None g c).After-to_u64 in grind (arith, nat_tests)

pub loop-i-preserved : goal.loop-i-preserved
loop-i-preserved g c = let s = told g (goal.at.loop-i-preserved g c).After-to_u64 in grind (arith, nat_tests)
