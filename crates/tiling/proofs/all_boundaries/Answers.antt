-- An offset that is no boundary is the answer, and one that is goes on.
use Rattle.std.proofs.Common.{Decides, arith}
use Rattle.ptype.specs.Integers.{amount_at}
use Rattle.integers.specs.Slices.{integers}
use Rattle.tiling.specs.Tiling.{Boundary}
use Rattle.tiling.proofs.Decided.{tried, no_boundary, boundary_more, all_tried}
use Rattle.tiling.proofs.all_boundaries.Goals as goal
use Rattle.tiling.proofs.all_boundaries.Goals.{After-is_char_boundary_at}

-- whether the offset at i is a boundary
told : (c : After-is_char_boundary_at) → Decides c.is_char_boundary_at.result (Boundary c.args.bytes.now (amount_at (integers c.args.offsets) c.loop-i.i))
told c = tried (integers c.args.offsets) c.args.bytes.now c.loop-i.i c.amount.result c.is_char_boundary_at.result (omega arith) c.amount.ensures c.requires c.is_char_boundary_at.ensures

pub returns-then-not-is_char_boundary_at : goal.returns-then-not-is_char_boundary_at
returns-then-not-is_char_boundary_at c =
    no_boundary (integers c.args.offsets) c.args.bytes.now c.loop-i.i c.is_char_boundary_at.result (told (goal.at.returns-then-not-is_char_boundary_at c).After-is_char_boundary_at)
    (omega arith) c.if-not-is_char_boundary_at.true

pub loop-i-preserved : goal.loop-i-preserved
loop-i-preserved c =
    boundary_more (integers c.args.offsets) c.args.bytes.now c.loop-i.i c.is_char_boundary_at.result (told (goal.at.loop-i-preserved c).After-is_char_boundary_at)
    c.if-not-is_char_boundary_at.false c.loop-i.invariant

pub returns : goal.returns
returns c = all_tried (integers c.args.offsets) c.args.bytes.now c.loop-i.i (omega arith) c.loop-i.invariant
