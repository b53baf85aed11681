-- Each call in its turn, and its outcome in its place.
use Rattle.std.proofs.Common.{◌≡◌, ◌≤◌, map, length, take, subst, arith, length-take}
use Rattle.builder.specs.States.{state_with}
use Rattle.builder.proofs.Lent.{then_same}
use Rattle.history.specs.Requests.{request_of}
use Rattle.history.specs.Running.{Carried}
use Rattle.history.specs.Runs.{answers_of}
use Rattle.history.proofs.Turns.{more, ends_memory, ends_told, request_at, requests_long}
use Rattle.history.proofs.runner.carry_all.Goals as goal

pub loop-i-preserved : goal.loop-i-preserved
loop-i-preserved g c =
    let s = g.S.OffsetStore in
    let f = request_of g.R.RowSource.rows g.D.Decoder.means in
    let n = c.min-count.result in
    let calls = c.args.calls.now in
    let m0 = state_with s.offsets s.free s.top c.args.builder.now c.args.memory.now in
    let m = state_with s.offsets s.free s.top c.loop-i.builder c.loop-i.memory in
    let le : n ≤ length calls = omega (arith, c.min-count.ensures) in
    let here = c.loop-i-test.true in
    (more m0 (map f (take n calls)) c.args.outcomes.now c.loop-i.i m c.loop-i.outcomes c.loop-i.invariant.0 (f c.call-item.result) _ c.carry_out.result (omega (arith, requests_long f calls n le, length-take n calls, here)) (omega (arith, c.min-count.ensures, length-take n calls, here)) (request_at f (take n calls) c.loop-i.i c.call-item.result here c.call-item.is) c.carry_out.ensures.answer c.carry_out.ensures.after, then_same _ _ _ c.loop-i.invariant.1 c.carry_out.ensures.same)

pub returns : goal.returns
returns g c =
    let s = g.S.OffsetStore in
    let f = request_of g.R.RowSource.rows g.D.Decoder.means in
    let n = c.min-count.result in
    let calls = c.args.calls.now in
    let m0 = state_with s.offsets s.free s.top c.args.builder.now c.args.memory.now in
    let m = state_with s.offsets s.free s.top c.loop-i.builder c.loop-i.memory in
    let long = requests_long f calls n (omega (arith, c.min-count.ensures)) in
    let last : c.loop-i.i ≡ n = omega (arith, c.min-count.ensures, length-take n calls, c.loop-i-test.false) in
    record {
      count = c.min-count.ensures;
      memory = ends_memory m0 (map f (take n calls)) c.args.outcomes.now c.loop-i.i m c.loop-i.outcomes c.loop-i.invariant.0 (omega (arith, long));
      told = subst (λ k. Carried k (answers_of m0 (map f (take n calls))) c.args.outcomes.now c.loop-i.outcomes) last (ends_told m0 (map f (take n calls)) c.args.outcomes.now c.loop-i.i m c.loop-i.outcomes c.loop-i.invariant.0 (omega (arith, long)));
      same = c.loop-i.invariant.1;
    }
