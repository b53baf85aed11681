-- What the checks say before and behind the decode, and what the heap holds on each way out.
use Rattle.std.proofs.Common.{◌≡◌, ℕ, ◌+◌, ◌-◌, ◌≤◌, List, length, take, drop, Some, None, refl, ap, ◌∙◌, arith, length-append, length-drop, length-take, rules}
use borrow.Rule.Slice.PartMut.{put_mid}
use Rattle.std.proofs.lemmas.Result.{err_from_is_err_and}
use Rattle.integers.specs.Slices.{integers}
use Rattle.refusal.specs.Refusals.{code_of}
use Rattle.builder.specs.Bulk.{checks_before, decode_checks, decoded_slots, decoded}
use Rattle.builder.specs.States.{state_with}
use Rattle.builder.proofs.Decodes.{before, rows_fit, told, answered, refused, accepted}
use Rattle.builder.proofs.Lent.{same}
use Rattle.builder.proofs.Spaces.{Limits, before_some}
use Rattle.builder.proofs.builder.VarBinBuilder.append_decoded.Given.{Over}
use Rattle.builder.proofs.builder.VarBinBuilder.append_decoded.Goals as goal
use Rattle.builder.proofs.builder.VarBinBuilder.append_decoded.Goals.{In_ok-check_decode}

pub returns-in_err-check_decode : goal.returns-in_err-check_decode
returns-in_err-check_decode g c =
    let s = g.S.OffsetStore in
    let m = state_with s.offsets s.free s.top c.args.self.now c.args.memory.now in
    let zs = integers c.args.lengths in
    let means = g.D.Decoder.means c.args.decoder.now in
    let size = c.args.num_bytes + c.args.slack in
    let e = code_of c.in_err-check_decode.field-0.0 in
    let p = err_from_is_err_and c.from_residual.result c.from_residual.ensures.1 in
    rw (p.1, p.2) (record {
      answer = before_some (checks_before m c.args.num_bytes c.args.slack zs c.args.validity) (decode_checks means size c.args.num_bytes zs) e c.in_err-check_decode.ensures;
      after = ap (λ o. decoded m o (Some e) size (decoded_slots means zs c.args.validity)) c.in_err-check_decode.ensures;
      same = same c.args.memory.now;
      kept = refl;
    })

-- a part that is as long as it was leaves the whole as long as it was
put_long : (at size : ℕ) (heap part : List ℕ) → length part ≡ length (take size (drop at heap)) → length (put_mid at size heap part) ≡ length heap
put_long at size heap part e = simp (length-append, length-take, length-drop) (omega (arith, e, length-take size (drop at heap), length-drop at heap))

-- the part that a decoder is lent lies within the heap, and the heap within its limit
lent : (g : Over) (c : In_ok-check_decode g) → (c.args.self.now.used + (c.args.num_bytes + c.args.slack) ≤ length c.args.memory.now.heap.now) × (length c.args.memory.now.heap.now ≤ 68719476736)
lent g c =
    let s = g.S.OffsetStore in
    let b = c.args.self.now in
    let m = state_with s.offsets s.free s.top b c.args.memory.now in
    let f = before m c.args.num_bytes c.args.slack (integers c.args.lengths) c.args.validity (record { few = b.limit; small = b.few; entries = b.entries }) c.in_ok-check_decode.ensures in
    (f.heap, omega (arith, f.own_memory.heap, b.limit))

pub place_lengths-requires : goal.place_lengths-requires
place_lengths-requires g c =
    let s = g.S.OffsetStore in
    let b = c.args.self.now in
    let m = state_with s.offsets s.free s.top b c.args.memory.now in
    let zs = integers c.args.lengths in
    let means = g.D.Decoder.means c.args.decoder.now in
    let limits : Limits m = record { few = b.limit; small = b.few; entries = b.entries } in
    let f = before m c.args.num_bytes c.args.slack zs c.args.validity limits c.in_ok-check_decode.ensures in
    let t = told means _ c.args.num_bytes zs c.in_default.ensures.answer in
    record { fit = rows_fit m c.args.num_bytes c.args.slack zs c.args.validity limits _ f t.all; counts = f.counts }

pub returns : goal.returns
returns g c =
    let s = g.S.OffsetStore in
    let b = c.args.self.now in
    let m = state_with s.offsets s.free s.top b c.args.memory.now in
    let zs = integers c.args.lengths in
    let means = g.D.Decoder.means c.args.decoder.now in
    let w = b.used + (c.args.num_bytes + c.args.slack) - b.used in
    let n = length (take w (drop b.used c.args.memory.now.heap.now)) in
    let limits : Limits m = record { few = b.limit; small = b.few; entries = b.entries } in
    let passes = c.in_ok-check_decode.ensures in
    let f = before m c.args.num_bytes c.args.slack zs c.args.validity limits passes in
    let long : n ≡ c.args.num_bytes + c.args.slack = simp (length-take, length-drop) (omega (arith, f.heap)) in
    let wide : w ≡ c.args.num_bytes + c.args.slack = omega arith in
    let kept = c.place_lengths.ensures.same in
    let decoded : length c.decode_part.new.part ≡ n = search rules in
    record {
      answer = answered m c.args.num_bytes c.args.slack zs c.args.validity means c.decode_part.new.part w n limits passes wide long None c.in_default.ensures.answer;
      after = c.place_lengths.ensures.after ∙ accepted m c.args.num_bytes c.args.slack zs c.args.validity means c.decode_part.new.part w n limits passes wide long c.in_default.ensures.answer c.in_default.ensures.part;
      same = record {
        same_store = kept.same_store;
        same_heap = kept.same_heap;
        same_bits = kept.same_bits;
        heap_place = kept.heap_place;
        bits_place = kept.bits_place;
        heap_length = kept.heap_length ∙ put_long b.used w c.args.memory.now.heap.now c.decode_part.new.part decoded;
        bits_length = kept.bits_length;
      };
      kept = c.in_default.ensures.kept;
    }

pub returns-in-Err : goal.returns-in-Err
returns-in-Err g c =
    let s = g.S.OffsetStore in
    let b = c.args.self.now in
    let m = state_with s.offsets s.free s.top b c.args.memory.now in
    let zs = integers c.args.lengths in
    let means = g.D.Decoder.means c.args.decoder.now in
    let w = b.used + (c.args.num_bytes + c.args.slack) - b.used in
    let n = length (take w (drop b.used c.args.memory.now.heap.now)) in
    let limits : Limits m = record { few = b.limit; small = b.few; entries = b.entries } in
    let passes = c.in_ok-check_decode.ensures in
    let f = before m c.args.num_bytes c.args.slack zs c.args.validity limits passes in
    let long : n ≡ c.args.num_bytes + c.args.slack = simp (length-take, length-drop) (omega (arith, f.heap)) in
    let wide : w ≡ c.args.num_bytes + c.args.slack = omega arith in
    let decoded : length c.decode_part.new.part ≡ n = search rules in
    record {
      answer = answered m c.args.num_bytes c.args.slack zs c.args.validity means c.decode_part.new.part w n limits passes wide long _ c.in-Err.ensures.answer;
      after = refused m c.args.num_bytes c.args.slack zs c.args.validity means c.decode_part.new.part w n limits passes wide long (code_of c.in-Err.refusal) c.in-Err.ensures.part;
      same = record {
        same_store = refl;
        same_heap = refl;
        same_bits = refl;
        heap_place = refl;
        bits_place = refl;
        heap_length = put_long b.used w c.args.memory.now.heap.now c.decode_part.new.part decoded;
        bits_length = refl;
      };
      kept = c.in-Err.ensures.kept;
    }
