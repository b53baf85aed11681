-- The number at the place where its flag is set, else a null.
use Rattle.std.proofs.Common.{Some, None, arith}
use Rattle.integers.specs.Slices.{integers}
use Rattle.mask.specs.Masks.{flags}
use Rattle.compute.specs.Left.{left_to_take}
use Rattle.compute.proofs.Steps.{goes, take_set, take_unset, take_no_flag, take_no_number}
use Rattle.compute.proofs.take.TakeIndicesIterator.next.Goals as goal

pub returns-then-at-len-clause-steps : goal.returns-then-at-len-clause-steps
returns-then-at-len-clause-steps c = let none = take_no_number c.args.self.now.at (integers c.args.self.now.indices) (flags c.args.self.now.validity) (omega (arith, c.len.ensures)) in (none, none)

pub returns-then-at-len-2-clause-steps : goal.returns-then-at-len-2-clause-steps
returns-then-at-len-2-clause-steps c = let none = take_no_flag c.args.self.now.at (integers c.args.self.now.indices) (flags c.args.self.now.validity) (omega (arith, c.len-2.ensures)) in (none, none)

pub returns-then-value : goal.returns-then-value
returns-then-value c =
    let at = c.args.self.now.at in
    let zs = integers c.args.self.now.indices in
    let step = take_set at zs (flags c.args.self.now.validity) c.amount.result (omega (arith, c.len.ensures)) (omega (arith, c.len-2.ensures)) c.if-value.ensures c.amount.ensures in
    record { steps = step; goes = goes left_to_take c.args.self.now _ (Some c.amount.result) tt step }

pub returns-else-value : goal.returns-else-value
returns-else-value c =
    let step = take_unset c.args.self.now.at (integers c.args.self.now.indices) (flags c.args.self.now.validity) (omega (arith, c.len.ensures)) (omega (arith, c.len-2.ensures)) c.if-value.ensures in
    record { steps = step; goes = goes left_to_take c.args.self.now _ None tt step }
