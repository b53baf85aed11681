-- Each entry goes on with the search, is passed over, or is its answer.
use Rattle.std.proofs.Common.{◌≡◌, ℕ, ◌+◌, Bool, map, get_or, drop, false, Option, refl, arith}
use Rattle.std.proofs.lemmas.Bool.Decides.{nat_tests}
use Rattle.mask.specs.Masks.{flags}
use Rattle.ptype.specs.Integers.{natural}
use Rattle.ptype.specs.Searches.{first_not_below}
use Rattle.ptype.proofs.Steps.{not_below_from, not_below_step}
use Rattle.ptype.proofs.entries.Entries.first_not_below.Given as given
use Rattle.ptype.proofs.entries.Entries.first_not_below.Goals as goal
use Rattle.ptype.proofs.entries.Entries.first_not_below.Goals.{After-value-item, then-value+in-Some+else-n-limit, else-value}

-- what the flag and the number at i make of the search
told : (g : given.Over) (c : After-value-item g) (b : Bool) (o : Option ℕ) → b ≡ get_or (flags c.args.mask) c.loop-i.i false → o ≡ natural (g.T.IntegerPType.value c.value-item.result) → let zs = map g.T.IntegerPType.value c.args.self.now.values.now in first_not_below c.args.limit c.loop-i.i (drop c.loop-i.i (flags c.args.mask)) (drop c.loop-i.i zs) ≡ not_below_from c.args.limit c.loop-i.i (drop (c.loop-i.i + 1) (flags c.args.mask)) (drop (c.loop-i.i + 1) zs) b o
told g c b o set is = not_below_step g.T.IntegerPType.value c.args.self.now.values.now c.loop-i.i c.value-item.result c.value-item.is c.loop-i-test.true o is c.args.limit (flags c.args.mask) b set

pub returns-then-n-limit : goal.returns-then-n-limit
returns-then-n-limit g c = let s = told g (goal.at.returns-then-n-limit g c).After-value-item _ _ c.if-value.ensures c.to_u64.ensures.value in grind (arith, nat_tests)

pub returns-in-None : goal.returns-in-None
returns-in-None g c = let s = told g (goal.at.returns-in-None g c).After-value-item _ _ c.if-value.ensures c.to_u64.ensures.value in grind (arith, nat_tests)

pub loop-i-preserved : goal.loop-i-preserved
loop-i-preserved g c =
    elim c.if-value.branch [
      | then-value+in-Some+else-n-limit w ↦ let s = told g (goal.at.loop-i-preserved g c).After-value-item _ _ w.if-value.ensures w.to_u64.ensures.value in grind (arith, nat_tests)
      | else-value w ↦ let s = told g (goal.at.loop-i-preserved g c).After-value-item _ _ w.if-value.ensures refl in grind (arith, nat_tests)
    ]
