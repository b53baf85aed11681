-- What it tells that a check of opening lets a column pass.
use Rattle.std.proofs.Common.{◌≡◌, ℕ, ◌≤◌, Bool, true, false, not, ◌&&◌, ◌||◌, eqb, ltb, List, length, ℤ, is_some, Some, None, Option, refl, arith}
use lib.ListN.{length-replicate}
use Rattle.std.specs.Option.{option_map}
use Rattle.std.proofs.lemmas.Bool.Decides.{nat_tests}
use Rattle.mask.specs.Masks.{flags, covered}
use Rattle.mask.specs.declared.mask.Mask.{Mask}
use Rattle.ptype.specs.Searches.{first_fall}
use Rattle.refusal.specs.Refusals.{Code, code, refuse_if}
use Rattle.array.specs.Opening.{row_flags, limits_check, validity_check, layout_check}

-- a test that did not refuse came out false
passed : (b : Bool) (c : Code) → None ≡ refuse_if b c → b ≡ false
passed true c e = let z : ◌≡◌ {A = ℕ} 0 1 = cc in absurd (omega arith)
passed false c e = refl

-- in each the first part only names the check, so that the search finds the lemma
pub few : (rows heap : ℕ) → None ≡ limits_check rows heap → (limits_check rows heap ≡ limits_check rows heap) × (rows ≤ 16777216)
few rows heap e = let p = passed (ltb 16777216 rows || ltb 68719476736 heap) _ e in (refl, grind (arith, nat_tests))

pub rising : (zs : List ℤ) (heap : ℕ) → None ≡ layout_check zs heap → is_some (first_fall heap 0 0 zs) ≡ false
rising zs heap e = by (first_fall heap 0 0 zs) e
  where
    by : (o : Option ℕ) → None ≡ option_map (λ i. code 17 i 0) o → is_some o ≡ false
    by None e = refl
    by (Some i) e = let z : ◌≡◌ {A = ℕ} 0 1 = cc in absurd (omega arith)

pub valid : (nullable : Bool) (mask : Option Mask) (rows : ℕ) → None ≡ validity_check nullable mask rows → (validity_check nullable mask rows ≡ validity_check nullable mask rows) × (length (row_flags mask rows) ≡ rows)
valid nullable None rows e = (refl, length-replicate rows true)
valid nullable (Some m) rows e = (refl, counted nullable (covered m) (passed (not (nullable && (eqb (length (flags m)) rows && covered m))) _ e))
  where
    counted : (n k : Bool) → not (n && (eqb (length (flags m)) rows && k)) ≡ false → length (flags m) ≡ rows
    counted n k p = grind (arith, nat_tests)
