-- The loop over the table: where the row at a place does not have the byte, the rows after it tell.
use Rattle.std.proofs.Common.{◌≡◌, ℕ, ◌+◌, ◌<◌, cond, ◌&&◌, leb, List, length, get_or, drop, arith}
use Rattle.std.proofs.lemmas.Bool.Decides.{nat_tests}
use Rattle.std.proofs.lemmas.List.{at_drop_more}
use Rattle.utf8.specs.declared.lead.Lead.{Lead}
use Rattle.utf8.specs.Reading.{after_lead, awaiting}

module _ (rs : List Lead) (i b : ℕ) (d : Lead) (h : i < length rs) where
  -- the row at i
  abbrev r : Lead
  r = get_or rs i d

  here : after_lead (drop i rs) b ≡ cond (leb r.first b && leb b r.last) (awaiting r.tails r.low r.high) (after_lead (drop (i + 1) rs) b)
  here = at_drop_more (λ l. after_lead l b) rs i d h

  pub lacks_low : b < r.first → after_lead (drop (i + 1) rs) b ≡ after_lead (drop i rs) b
  lacks_low low = let f = here in grind (arith, nat_tests)

  pub lacks_high : r.last < b → after_lead (drop (i + 1) rs) b ≡ after_lead (drop i rs) b
  lacks_high high = let f = here in grind (arith, nat_tests)
