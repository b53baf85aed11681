-- The figures of equal slots.
use Rattle.std.proofs.Common.{◌≡◌, cond, sym, ap, ◌∙◌, arith}
use Rattle.slots.specs.Slots.{slot_of}
use Rattle.builder.proofs.Spaces.{survey_equal}
use Rattle.builder.proofs.repeat.survey_repeated.Goals as goal
use Rattle.builder.proofs.repeat.survey_repeated.Goals.{then-slot, else-slot}

pub returns : goal.returns
returns c =
    let s = slot_of c.args.slot in
    let nulls : c.if-slot.result ≡ cond s.valid 0 c.args.n = elim c.if-slot.branch [ then-slot w ↦ w.result-is ∙ sym (ap (λ t. cond t 0 c.args.n) w.if-slot.true) | else-slot w ↦ w.result-is ∙ sym (ap (λ t. cond t 0 c.args.n) w.if-slot.false) ] in
    survey_equal c.args.n c.if-slot.result c.saturating_mul.result s (omega arith) nulls c.saturating_mul.ensures
