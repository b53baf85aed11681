-- From making to the record.
use Rattle.std.proofs.Common.{rules}
use Rattle.builder.specs.Making.{made}
use Rattle.builder.specs.States.{state_of, state_with}
use Rattle.history.specs.Requests.{request_of}
use Rattle.history.proofs.Proved.{histories_follow}
use Rattle.history.proofs.Turns.{settled}
use Rattle.history.proofs.runner.run_history.Goals as goal

pub returns-in_err-builder : goal.returns-in_err-builder
returns-in_err-builder g c = search (rules, histories_follow)

pub returns-clause-theorem : goal.returns-clause-theorem
returns-clause-theorem g c = histories_follow

pub returns-clause-run : goal.returns-clause-run
returns-clause-run g c =
    let s = g.S.OffsetStore in
    let f = request_of g.R.RowSource.rows g.D.Decoder.means in
    let m1 = state_with s.offsets s.free s.top c.carry_all-carried.new.builder c.carry_all-carried.new.memory in
    let m = state_of s.offsets s.free s.top c.in_ok-builder.builder c.new.new.store c.args.heap.now c.args.bits.now in
    let m0 = made c.args.dtype.nullable (s.free c.args.store.now) (s.top c.args.store.now) c.args.heap.now c.args.bits.now in
    let ran = settled f c.args.calls.now c.args.outcomes.now c.carry_all-carried.new.outcomes c.carry_all-carried.result c.finish.result m0 m m1 c.in_ok-builder.ensures.after c.carry_all-carried.ensures.count c.carry_all-carried.ensures.memory c.carry_all-carried.ensures.told c.finish.ensures in
    search (rules, ran)
