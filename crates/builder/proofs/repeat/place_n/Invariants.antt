-- The slots that are left still fit, and lead to the same end.
use Rattle.std.proofs.Common.{◌-◌, replicate}
use Rattle.slots.specs.Slots.{slot_of}
use Rattle.builder.specs.States.{state_with}
use Rattle.builder.proofs.Filling.{Placing}
use Rattle.builder.proofs.repeat.place_n.Given as goal

abbrev pub invariant-loop-i : goal.invariant-loop-i
invariant-loop-i g l =
    let s = g.S.OffsetStore in
    Placing (state_with s.offsets s.free s.top l.initial.b l.initial.memory) (replicate l.n (slot_of l.slot))
    (state_with s.offsets s.free s.top l.b l.memory) (replicate (l.n - l._i) (slot_of l.slot)) l.initial.memory l.memory
