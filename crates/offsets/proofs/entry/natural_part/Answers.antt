-- The part is handed out where each of its entries is read as a number.
use Rattle.std.proofs.Common.{◌≡◌, true, false, take, is_some, refl, rules}
use Rattle.std.proofs.lemmas.Iterator.{cases_from_all, YieldsList-from_slice}
use Rattle.ptype.specs.Integers.{natural}
use Rattle.offsets.proofs.Parts.{handed_out}
use Rattle.offsets.proofs.entry.natural_part.Goals as goal

pub returns : goal.returns
returns g c =
    let value = g.T.IntegerPType.value in
    let xs = c.args.entries.now in
    let m = c.min.result in
    handed_out value c.args.n m xs _ c.min.ensures refl c.all.result c.then_some.result c.then_some.ensures
    (cases_from_all _ _ _ (λ x. is_some (natural (value x)) ≡ true) (λ x. is_some (natural (value x)) ≡ false) c.all.ensures.ran (YieldsList-from_slice (take m xs) c.iter.ensures.rest) (λ x q k. search rules) (λ x q k. search rules))
