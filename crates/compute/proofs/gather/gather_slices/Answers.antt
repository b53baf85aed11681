-- What the checks say of the picked slots.
use Rattle.std.proofs.Common.{◌≡◌, length, ap, ◌∙◌, arith}
use Rattle.builder.specs.States.{state_with}
use Rattle.builder.specs.Calls.{space_for, appended}
use Rattle.builder.proofs.Spaces.{space_answer}
use Rattle.integers.specs.Slices.{integers}
use Rattle.refusal.specs.Refusals.{answer, first_refusal}
use Rattle.compute.specs.Indices.{gather_indices, rest_indices, runs_left, picked_slots}
use Rattle.compute.specs.Left.{left_of_runs}
use Rattle.compute.specs.Selections.{Selection, selection_checks, by_run, starts_of, lengths_of}
use Rattle.compute.proofs.Steps.{rest_none, same_picked}
use Rattle.compute.proofs.gather.gather_slices.Goals as goal

pub returns : goal.returns
returns g c =
    let s = g.S.OffsetStore in
    let m = state_with s.offsets s.free s.top c.args.builder.now c.args.memory.now in
    let rows = g.R.RowSource.rows c.args.source.now in
    let zs = starts_of c.args.starts in
    let ls = lengths_of c.args.lengths (length zs) in
    let chosen : Selection = by_run zs ls c.args.declared in
    let passes = c.in_ok-check.ensures ∙ (λ t. first_refusal (selection_checks (c.len.ensures t) (by_run (integers (c.from.ensures t)) (lengths_of c.args.lengths (length (integers (c.from.ensures t)))) c.args.declared))) in
    let picked : picked_slots rows (left_of_runs c.indices.result) ≡ picked_slots rows (gather_indices zs ls) =
    ap (picked_slots rows) (c.indices.ensures ∙ (λ t. runs_left 0 0 (integers (c.from.ensures t)) (lengths_of c.args.lengths (length (integers (c.from.ensures t))))))
    ∙ same_picked rows (rest_indices zs ls 0) (omega (arith, c.len.ensures, c.len.type_inv))
    ∙ ap (picked_slots rows) (rest_none zs ls) in
    record {
      answer = space_answer m (selection_checks (length rows) chosen) (picked_slots rows (gather_indices zs ls)) _ c.in_ok-check_memory.ensures passes (c.select.ensures.answer ∙ ap (λ ss. first_refusal (space_for m ss)) picked);
      after = c.select.ensures.after ∙ ap (appended m (answer c.select.result)) picked;
      same = c.select.ensures.same;
    }
