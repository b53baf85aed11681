-- The number of an entry goes on with the search or is its answer.
use Rattle.std.proofs.Common.{◌≡◌, ◌+◌, map, drop, arith}
use Rattle.std.proofs.lemmas.Bool.Decides.{nat_tests}
use Rattle.ptype.specs.Searches.{first_fall}
use Rattle.ptype.proofs.Steps.{fall_from, fall_step}
use Rattle.ptype.proofs.entries.Entries.first_fall.Given as given
use Rattle.ptype.proofs.entries.Entries.first_fall.Goals as goal
use Rattle.ptype.proofs.entries.Entries.first_fall.Goals.{After-to_u64}

-- what the number at i makes of the search
told : (g : given.Over) (c : After-to_u64 g) → let zs = map g.T.IntegerPType.value c.args.self.now.values.now in first_fall c.args.limit c.loop-i.last c.loop-i.i (drop c.loop-i.i zs) ≡ fall_from c.args.limit c.loop-i.last c.loop-i.i (drop (c.loop-i.i + 1) zs) c.to_u64.result
told g c = fall_step g.T.IntegerPType.value c.args.self.now.values.now c.loop-i.i c.value-item.result c.value-item.is c.loop-i-test.true c.to_u64.result c.to_u64.ensures.value c.args.limit c.loop-i.last

pub returns-then-n-last : goal.returns-then-n-last
returns-then-n-last g c = let s = told g (goal.at.returns-then-n-last g c).After-to_u64 in grind (arith, nat_tests)

pub returns-then-n-limit : goal.returns-then-n-limit
returns-then-n-limit g c = let s = told g (goal.at.returns-then-n-limit g c).After-to_u64 in grind (arith, nat_tests)

pub returns-in-None : goal.returns-in-None
returns-in-None g c = let s = told g (goal.at.returns-in-None g c).After-to_u64 in grind (arith, nat_tests)

pub loop-i-preserved : goal.loop-i-preserved
loop-i-preserved g c = let s = told g (goal.at.loop-i-preserved g c).After-to_u64 in grind (arith, nat_tests)
