-- Each row goes on with the walk, or is refused.
use Rattle.std.proofs.Common.{ap, ◌∙◌, arith}
use Rattle.mask.specs.Masks.{flags}
use Rattle.integers.specs.Slices.{integers}
use Rattle.utf8.specs.Reading.{first_fault}
use Rattle.array.proofs.Texts.{bad_inside, stop}
use Rattle.array.proofs.text.check_text.Goals as goal

pub overflow_add-result : goal.overflow_add-result
overflow_add-result c =
    let from = c.amount-from.ensures in
    omega (arith, bad_inside (integers c.args.offsets) c.args.heap.now c.loop-i.i c.in-Err.bad.valid_up_to c.slot_at.result.now c.requires (omega arith) c.slot_at.ensures.bytes c.in-Err.ensures.grammar.0)

pub returns-in-Err : goal.returns-in-Err
returns-in-Err c =
    let from = c.amount-from.ensures in
    stop (integers c.args.offsets) c.args.heap.now (flags c.args.validity) c.loop-i.i c.amount-from.result c.in-Err.bad.valid_up_to (omega arith) c.if-value.ensures (c.in-Err.ensures.value ∙ ap first_fault c.slot_at.ensures.bytes) from
    ∙ c.loop-i.invariant
