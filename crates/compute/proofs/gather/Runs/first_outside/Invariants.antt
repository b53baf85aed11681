-- The runs before this one are inside, and so are the rows of this one before row j.
use Rattle.std.proofs.Common.{◌≡◌, ◌-◌, ◌≤◌, length, drop}
use Rattle.integers.specs.Slices.{integers}
use Rattle.compute.specs.Selections.{lengths_of, first_outside}
use Rattle.compute.proofs.gather.Runs.first_outside.Given as goal

abbrev pub invariant-loop-j : goal.invariant-loop-j
invariant-loop-j l = l.j ≤ l.count - l.start

abbrev pub invariant-loop-i : goal.invariant-loop-i
invariant-loop-i l =
    let zs = integers l.self.starts in
    let ls = lengths_of l.self.lengths (length zs) in
    first_outside l.count l.i (drop l.i zs) (drop l.i ls) ≡ first_outside l.count 0 zs ls
