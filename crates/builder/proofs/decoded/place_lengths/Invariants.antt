-- The rows that are left still fit, and lead to the same end.
use Rattle.integers.specs.Slices.{integers}
use Rattle.mask.specs.Masks.{flags}
use Rattle.builder.specs.States.{state_with, SameMemory}
use Rattle.builder.proofs.Laying.{Laying}
use Rattle.builder.proofs.decoded.place_lengths.Given as goal

abbrev pub invariant-loop-i : goal.invariant-loop-i
invariant-loop-i g l =
    let s = g.S.OffsetStore in
    Laying (state_with s.offsets s.free s.top l.initial.b l.initial.memory) (state_with s.offsets s.free s.top l.b l.memory) (flags l.validity) (integers l.lengths) l.i
    × SameMemory l.initial.memory l.memory
