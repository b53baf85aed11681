-- The slots that are left still fit, and lead to the same end; the ends that are left still rise.
use Rattle.std.proofs.Common.{◌≡◌, ◌≤◌, length, drop, None}
use Rattle.integers.specs.Slices.{integers}
use Rattle.mask.specs.Masks.{flags}
use Rattle.ptype.specs.Searches.{first_fall}
use Rattle.builder.specs.Bulk.{cut_slots, value_slots}
use Rattle.builder.specs.States.{state_with, SameMemory}
use Rattle.builder.proofs.Filling.{Filling}
use Rattle.builder.proofs.values.place_values.Given as goal

abbrev pub invariant-loop-i : goal.invariant-loop-i
invariant-loop-i g l =
    let s = g.S.OffsetStore in
    Filling (state_with s.offsets s.free s.top l.initial.b l.initial.memory) (value_slots l.values (integers l.ends) l.validity)
    (state_with s.offsets s.free s.top l.b l.memory) (cut_slots l.from (drop l.i (integers l.ends)) (drop l.i (flags l.validity)) l.values)
    × (first_fall (length l.values) l.from l.i (drop l.i (integers l.ends)) ≡ None)
    × (l.from ≤ length l.values)
    × SameMemory l.initial.memory l.memory
