-- The search at its start, from one byte to the next, and at each of its ends.
use Rattle.std.proofs.Common.{◌≡◌, ℕ, ◌+◌, ◌-◌, ◌*◌, ◌%◌, ◌^◌, ◌∙◌, ap, inl, inr, arith, rules}
use Rattle.mask.proofs.Seek.{before_from, seek, none_here, hit, place, not_found}
use Rattle.mask.proofs.bits.next_one.Goals as goal

pub loop-i-init : goal.loop-i-init
loop-i-init c = (λ k lt. before_from c.args.bytes.now c.args.from k (omega arith), ap (λ (r : ℕ). 255 * 2 ^ r % 256) (omega arith))

pub returns-in_err-byte : goal.returns-in_err-byte
returns-in_err-byte c =
    let past = c.in_err-byte.ensures.lookup in
    c.from_residual.ensures ∙ not_found _ _ _ _ c.loop-i.invariant.0 (inr (omega arith))

pub returns-then-byte-ne0 : goal.returns-then-byte-ne0
returns-then-byte-ne0 c =
    c.then_some.ensures ∙ place _ _ _ _ (hit _ _ _ (seek _ _ _ _ _ c.loop-i.invariant.0 (omega arith) c.loop-i.invariant.1 (search rules) (search rules)) (search rules))

pub loop-i-preserved : goal.loop-i-preserved
loop-i-preserved c =
    let behind : 0 ≡ c.args.from - 8 * (c.loop-i.i + 1) = omega arith in (
      none_here _ _ _ (seek _ _ _ c.in_ok-byte.field-0.now _ c.loop-i.invariant.0 (omega arith) c.loop-i.invariant.1 (search rules) (search rules)) (search rules),
      ap (λ (r : ℕ). 255 * 2 ^ r % 256) behind,
    )

pub returns : goal.returns
returns c = not_found _ _ _ _ c.loop-i.invariant.0 (inl (omega (arith, c.div_ceil-i-end.ensures)))
