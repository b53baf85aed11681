-- What the checks say of the picked slots.
use Rattle.std.proofs.Common.{length, refl, ap, ◌∙◌, rules}
use Rattle.integers.specs.Slices.{integers}
use Rattle.mask.specs.Masks.{flags, covered}
use Rattle.std.proofs.lemmas.Result.{err_from_is_err_and}
use Rattle.builder.specs.States.{state_with}
use Rattle.builder.proofs.Lent.{same}
use Rattle.builder.proofs.Spaces.{own_answer}
use Rattle.refusal.specs.Refusals.{code_of, first_refusal}
use Rattle.compute.specs.Indices.{picked_slots}
use Rattle.compute.specs.Selections.{Selection, selection_checks, selection_indices, by_number}
use Rattle.compute.proofs.Agreeing.{selections_agree}
use Rattle.compute.proofs.take.take.Goals as goal

pub returns-in_err-check_memory : goal.returns-in_err-check_memory
returns-in_err-check_memory g c = search (rules, selections_agree, same c.args.memory.now)

pub returns-in_err-check_indices : goal.returns-in_err-check_indices
returns-in_err-check_indices g c =
    let s = g.S.OffsetStore in
    let m = state_with s.offsets s.free s.top c.args.builder.now c.args.memory.now in
    let rows = g.R.RowSource.rows c.args.source.now in
    let chosen : Selection = by_number (integers c.args.indices) (flags c.args.validity) (covered c.args.validity) in
    let p = err_from_is_err_and c.from_residual-in_err-check_indices.result c.from_residual-in_err-check_indices.ensures.1 in
    rw (p.1, p.2) (record { answer = own_answer m (selection_checks (length rows) chosen) (picked_slots rows (selection_indices chosen)) (code_of c.in_err-check_indices.field-0.0) c.in_ok-check_memory.ensures (c.in_err-check_indices.ensures ∙ ap (λ n. first_refusal (selection_checks n chosen)) c.len.ensures); after = refl; same = same c.args.memory.now; agree = selections_agree })

pub returns : goal.returns
returns g c = search (rules, selections_agree)
