-- What the checks say of the slots that the ends cut.
use Rattle.std.proofs.Common.{refl, ◌∙◌, rules}
use Rattle.integers.specs.Slices.{integers}
use Rattle.std.proofs.lemmas.Result.{err_from_is_err_and}
use Rattle.refusal.specs.Refusals.{code_of}
use Rattle.builder.specs.Bulk.{values_checks, value_slots}
use Rattle.builder.specs.States.{state_with}
use Rattle.builder.proofs.Cuts.{cut, cut_survey}
use Rattle.builder.proofs.Lent.{same}
use Rattle.builder.proofs.Samples.{values_examples}
use Rattle.builder.proofs.Spaces.{survey_fits, survey_answer, own_answer}
use Rattle.builder.proofs.builder.VarBinBuilder.append_values.Goals as goal

pub returns-in_err-check_memory : goal.returns-in_err-check_memory
returns-in_err-check_memory g c = search (rules, values_examples, same c.args.memory.now)

pub returns-in_err-check_ends : goal.returns-in_err-check_ends
returns-in_err-check_ends g c =
    let s = g.S.OffsetStore in
    let m = state_with s.offsets s.free s.top c.args.self.now c.args.memory.now in
    let zs = integers c.args.ends in
    let bs = c.args.values.now in
    let p = err_from_is_err_and c.from_residual-in_err-check_ends.result c.from_residual-in_err-check_ends.ensures.1 in
    rw (p.1, p.2) (record { answer = own_answer m (values_checks bs zs c.args.validity) (value_slots bs zs c.args.validity) (code_of c.in_err-check_ends.field-0.0) c.in_ok-check_memory.ensures c.in_err-check_ends.ensures; after = refl; same = same c.args.memory.now; examples = values_examples })

pub place_values-requires : goal.place_values-requires
place_values-requires g c =
    let s = g.S.OffsetStore in
    let b = c.args.self.now in
    let m = state_with s.offsets s.free s.top b c.args.memory.now in
    let zs = integers c.args.ends in
    let bs = c.args.values.now in
    let k = cut bs zs c.args.validity c.in_ok-check_ends.ensures in
    record {
      fit = survey_fits m (value_slots bs zs c.args.validity) c.survey_flags-survey.result (record { few = b.limit; small = b.few; entries = b.entries }) c.in_ok-check_memory.ensures (c.survey_flags-survey.ensures ∙ cut_survey bs zs c.args.validity k) c.in_ok-check_space.ensures;
      rise = k.rise;
      counts = k.counts;
    }

pub returns : goal.returns
returns g c =
    let s = g.S.OffsetStore in
    let b = c.args.self.now in
    let m = state_with s.offsets s.free s.top b c.args.memory.now in
    let zs = integers c.args.ends in
    let bs = c.args.values.now in
    let k = cut bs zs c.args.validity c.in_ok-check_ends.ensures in
    record {
      answer = survey_answer m (value_slots bs zs c.args.validity) c.survey_flags-survey.result (record { few = b.limit; small = b.few; entries = b.entries }) c.in_ok-check_memory.ensures (c.survey_flags-survey.ensures ∙ cut_survey bs zs c.args.validity k) (values_checks bs zs c.args.validity) _ c.in_ok-check_ends.ensures c.in_ok-check_space.ensures;
      after = c.place_values.ensures.after;
      same = c.place_values.ensures.same;
      examples = values_examples;
    }

pub returns-in_err-check_space : goal.returns-in_err-check_space
returns-in_err-check_space g c =
    let s = g.S.OffsetStore in
    let b = c.args.self.now in
    let m = state_with s.offsets s.free s.top b c.args.memory.now in
    let zs = integers c.args.ends in
    let bs = c.args.values.now in
    let k = cut bs zs c.args.validity c.in_ok-check_ends.ensures in
    let p = err_from_is_err_and c.from_residual-in_err-check_space.result c.from_residual-in_err-check_space.ensures.1 in
    rw (p.1, p.2) (record {
      answer = survey_answer m (value_slots bs zs c.args.validity) c.survey_flags-survey.result (record { few = b.limit; small = b.few; entries = b.entries }) c.in_ok-check_memory.ensures (c.survey_flags-survey.ensures ∙ cut_survey bs zs c.args.validity k) (values_checks bs zs c.args.validity) _ c.in_ok-check_ends.ensures c.in_err-check_space.ensures;
      after = refl;
      same = same c.args.memory.now;
      examples = values_examples;
    })
