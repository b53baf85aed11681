-- The two offsets are in order and within the heap.
use Rattle.std.proofs.Common.{◌+◌, ◌-◌, length, take, drop, ap, ◌∙◌, add_comm, arith}
use Rattle.integers.specs.Slices.{integers}
use Rattle.array.proofs.Slots.{Read, read_both}
use Rattle.array.proofs.text.slot_at.Goals as goal
use Rattle.array.proofs.text.slot_at.Goals.{After-amount-to}

-- the two offsets as they were read
told : (c : After-amount-to) → Read (integers c.args.offsets) (length c.args.heap.now) c.args.i c.amount-from.result c.amount-to.result
told c = read_both (integers c.args.offsets) (length c.args.heap.now) c.args.i c.amount-from.result c.amount-to.result c.requires.rising c.requires.inside c.amount-from.ensures c.amount-to.ensures

pub slice_bounds-result-count : goal.slice_bounds-result-count
slice_bounds-result-count c = omega (arith, (told c).order)

pub slice_bounds-result-start : goal.slice_bounds-result-start
slice_bounds-result-start c = omega (arith, (told c).order)

pub slice_bounds-result-end : goal.slice_bounds-result-end
slice_bounds-result-end c = (told c).inside

pub returns : goal.returns
returns c =
    let d = told (goal.at.returns c).After-amount-to in
    record {
      bytes = λ k. take (d.second k - d.first k) (drop (d.first k) c.args.heap.now);
      place = λ k. (c.args.heap.ref_ptr.0, (add_comm c.amount-from.result c.args.heap.ref_ptr.1 ∙ ap (λ n. c.args.heap.ref_ptr.1 + n) d.first) k);
    }
