-- The bytes first, and then the row of the heap that they left.
use Rattle.std.proofs.Common.{length, ap, ◌∙◌, rules}
use Rattle.builder.specs.States.{state_of, add_row}
use Rattle.builder.proofs.place.place.Goals as goal

pub returns : goal.returns
returns g c =
    let s = g.S.OffsetStore in
    let memory = c.args.memory.now in
    record {
      after =
          c.place_row.ensures c.put_bytes.new.heap
          ∙ ap (λ heap. add_row (state_of s.offsets s.free s.top c.args.b.now memory.store.now heap memory.bits.now) c.args.slot.valid (length c.args.slot.bytes.now)) c.put_bytes.ensures;
      same = search rules;
    }
