-- The next set row.
use Rattle.std.proofs.Common.{Some, arith}
use Rattle.mask.specs.Masks.{flags}
use Rattle.compute.specs.Left.{left_of_mask}
use Rattle.compute.proofs.Steps.{goes, mask_none, mask_past, mask_below, mask_some}
use Rattle.compute.proofs.filter.MaskIndicesIterator.next.Goals as goal

pub returns-then-self-len-clause-steps : goal.returns-then-self-len-clause-steps
returns-then-self-len-clause-steps c = let none = mask_past c.args.self.now.from (flags c.args.self.now.mask) (omega (arith, c.len.ensures)) in (none, none)

pub overflow_add-self : goal.overflow_add-self
overflow_add-self c = omega (arith, mask_below c.args.self.now.from c.in_ok-row.row (flags c.args.self.now.mask) c.in_ok-row.ensures, c.len.ensures)

pub returns : goal.returns
returns c =
    let step = mask_some c.args.self.now.from c.in_ok-row.row (flags c.args.self.now.mask) c.in_ok-row.ensures in
    record { steps = step; goes = goes left_of_mask c.args.self.now _ (Some c.in_ok-row.row) tt step }

pub returns-in_err-row-clause-steps : goal.returns-in_err-row-clause-steps
returns-in_err-row-clause-steps c = let none = mask_none c.args.self.now.from (flags c.args.self.now.mask) c.in_err-row.ensures in rw c.from_residual.ensures (none, none)
