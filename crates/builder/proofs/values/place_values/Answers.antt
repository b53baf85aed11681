-- Each slot has room between its ends, and the others fit behind it.
use Rattle.std.proofs.Common.{◌+◌, ◌<◌, ◌≤◌, ◌∷◌, length, drop, ap, ◌∙◌, subst, arith}
use Rattle.std.specs.List.{between}
use Rattle.integers.specs.Slices.{integers}
use Rattle.mask.specs.Masks.{flags}
use Rattle.ptype.specs.Searches.{first_fall}
use Rattle.slots.specs.Slots.{slot}
use Rattle.builder.specs.Bulk.{cut_slots, value_slots}
use Rattle.builder.specs.Calls.{Fits}
use Rattle.builder.specs.States.{state_with}
use Rattle.builder.proofs.Cuts.{rises, cut_read, cut_all}
use Rattle.builder.proofs.Filling.{Filling, first_room, more, ends}
use Rattle.builder.proofs.Lent.{then_same}
use Rattle.builder.proofs.values.place_values.Given.{Over}
use Rattle.builder.proofs.values.place_values.Goals as goal
use Rattle.builder.proofs.values.place_values.Goals.{After-value}

-- the end that was read is not below the one before it, and within the bytes
told : (g : Over) (c : After-value g) → (c.loop-i.from ≤ c.amount-end.result) × (c.amount-end.result ≤ length c.args.values.now)
told g c =
    let zs = integers c.args.ends in
    let h : c.loop-i.i < length zs = omega (arith, c.len-i-end.ensures) in
    let r = rises (length c.args.values.now) c.loop-i.from c.loop-i.i zs h c.loop-i.invariant.1 in
    let e = c.amount-end.ensures in
    (omega (arith, e, r.above), omega (arith, e, r.below))

pub slice_bounds-slot-count : goal.slice_bounds-slot-count
slice_bounds-slot-count g c = omega (arith, (told g c).0)

pub slice_bounds-slot-start : goal.slice_bounds-slot-start
slice_bounds-slot-start g c = omega (arith, (told g c).0)

pub slice_bounds-slot-end : goal.slice_bounds-slot-end
slice_bounds-slot-end g c = (told g c).1

pub place-requires : goal.place-requires
place-requires g c =
    let s = g.S.OffsetStore in
    let zs = integers c.args.ends in
    let fs = flags c.args.validity in
    let bs = c.args.values.now in
    let m = state_with s.offsets s.free s.top c.loop-i.b c.loop-i.memory in
    let x = slot c.value.result (between c.loop-i.from c.amount-end.result bs) in
    let rest = cut_slots c.amount-end.result (drop (c.loop-i.i + 1) zs) (drop (c.loop-i.i + 1) fs) bs in
    let e = c.amount-end.ensures in
    let f : Fits m (x ∷ rest) = subst (Fits m) (cut_read c.loop-i.from c.loop-i.i zs fs bs c.amount-end.result c.value.result (omega (arith, c.len-i-end.ensures)) c.requires.counts e c.value.ensures) c.loop-i.invariant.0.fits in
    first_room m x rest f

pub loop-i-preserved : goal.loop-i-preserved
loop-i-preserved g c =
    let s = g.S.OffsetStore in
    let zs = integers c.args.ends in
    let fs = flags c.args.validity in
    let bs = c.args.values.now in
    let m0 = state_with s.offsets s.free s.top c.args.b.now c.args.memory.now in
    let m = state_with s.offsets s.free s.top c.loop-i.b c.loop-i.memory in
    let m1 = state_with s.offsets s.free s.top c.place.new.b c.place.new.memory in
    let all = value_slots bs zs c.args.validity in
    let x = slot c.value.result (between c.loop-i.from c.amount-end.result bs) in
    let rest = cut_slots c.amount-end.result (drop (c.loop-i.i + 1) zs) (drop (c.loop-i.i + 1) fs) bs in
    let e = c.amount-end.ensures in
    let h : c.loop-i.i < length zs = omega (arith, c.len-i-end.ensures) in
    let r = rises (length bs) c.loop-i.from c.loop-i.i zs h c.loop-i.invariant.1 in
    let f : Filling m0 all m (x ∷ rest) = subst (Filling m0 all m) (cut_read c.loop-i.from c.loop-i.i zs fs bs c.amount-end.result c.value.result h c.requires.counts e c.value.ensures) c.loop-i.invariant.0 in (
      more m0 all m x rest m1 f c.place.ensures.after,
      ap (λ n. first_fall (length bs) n (c.loop-i.i + 1) (drop (c.loop-i.i + 1) zs)) e ∙ r.rest,
      omega (arith, e, r.below),
      then_same _ _ _ c.loop-i.invariant.3 c.place.ensures.same,
    )

pub returns : goal.returns
returns g c =
    let s = g.S.OffsetStore in
    let zs = integers c.args.ends in
    let fs = flags c.args.validity in
    let bs = c.args.values.now in
    let m0 = state_with s.offsets s.free s.top c.args.b.now c.args.memory.now in
    let m = state_with s.offsets s.free s.top c.loop-i.b c.loop-i.memory in
    let all = value_slots bs zs c.args.validity in
    record {
      after = ends m0 all m (subst (Filling m0 all m) (cut_all c.loop-i.from c.loop-i.i zs (drop c.loop-i.i fs) bs (omega (arith, c.len-i-end.ensures))) c.loop-i.invariant.0);
      same = c.loop-i.invariant.3;
    }
