-- Where the run stands after i calls.
use Rattle.std.proofs.Common.{map, take}
use Rattle.builder.specs.States.{state_with, SameMemory}
use Rattle.history.specs.Requests.{request_of}
use Rattle.history.proofs.Turns.{Sofar}
use Rattle.history.proofs.runner.carry_all.Given as goal

abbrev pub invariant-loop-i : goal.invariant-loop-i
invariant-loop-i g l =
    let s = g.S.OffsetStore in
    Sofar (state_with s.offsets s.free s.top l.initial.builder l.initial.memory) (map (request_of g.R.RowSource.rows g.D.Decoder.means) (take l.count l.calls)) l.initial.outcomes l.i
    (state_with s.offsets s.free s.top l.builder l.memory) l.outcomes
    × SameMemory l.initial.memory l.memory
