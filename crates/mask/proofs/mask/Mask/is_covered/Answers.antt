-- Bytes enough for the flags.
use Rattle.std.proofs.Common.{arith}
use Rattle.std.proofs.lemmas.Bool.Decides.{nat_tests}
use Rattle.mask.proofs.mask.Mask.is_covered.Goals as goal

pub returns-in-Values : goal.returns-in-Values
returns-in-Values c = simp c.in-Values.is (grind (arith, nat_tests))
