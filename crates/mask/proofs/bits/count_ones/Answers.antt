-- The count after a whole byte, after the byte that holds the last bits, and where the bytes end before. It is at most n, so it fits.
use Rattle.std.proofs.Common.{arith, rules}
use Rattle.std.proofs.lemmas.List.{length_push}
use Rattle.mask.proofs.Ones.{flags_le, step, last, no_last}
use Rattle.mask.proofs.bits.count_ones.Goals as goal

pub loop-byte-preserved : goal.loop-byte-preserved
loop-byte-preserved c = rw length_push (step _ _ _ _ _ _ _ _ _ c.loop-byte.invariant c.in-Some.ensures.steps.0 c.in-Some.ensures.steps.1 (search rules))

pub returns-in-Some-get : goal.returns-in-Some-get
returns-in-Some-get c = last _ _ _ _ _ _ _ c.loop-byte.invariant c.in-None.ensures.steps (search rules) (search rules) (search rules)

pub returns-in_default : goal.returns-in_default
returns-in_default c = no_last _ _ _ _ _ _ c.loop-byte.invariant c.in-None.ensures.steps (search rules)

pub overflow_add-total : goal.overflow_add-total
overflow_add-total c =
    let s = step _ _ _ _ _ _ c.in-Some.byte.now c.next.new.self.n _ c.loop-byte.invariant c.in-Some.ensures.steps.0 c.in-Some.ensures.steps.1 (search rules) in
    omega (arith, s.counted, s.within, flags_le)

pub overflow_add-total-in-Some-get : goal.overflow_add-total-in-Some-get
overflow_add-total-in-Some-get c =
    let e = last _ c.args.n _ _ _ _ c.in-Some-get.byte.now c.loop-byte.invariant c.in-None.ensures.steps (search rules) (search rules) (search rules) in
    omega (arith, e, flags_le)
