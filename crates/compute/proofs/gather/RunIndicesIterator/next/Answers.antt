-- A row of the run is taken; a run without rows left is passed over.
use Rattle.std.proofs.Common.{Some, ◌+◌, ◌<◌, min, length, sym, ap, ◌∙◌, arith}
use Rattle.integers.specs.Slices.{integers}
use Rattle.compute.specs.Selections.{lengths_of}
use Rattle.compute.specs.Left.{left_of_runs}
use Rattle.compute.proofs.Steps.{goes, run_row, run_next, run_all}
use Rattle.compute.proofs.gather.RunIndicesIterator.next.Goals as goal

pub loop-self-preserved : goal.loop-self-preserved
loop-self-preserved c =
    let s = c.loop-self.self in
    let zs = integers s.runs.starts in
    let ls = lengths_of s.runs.lengths (length zs) in
    let h : s.run < length zs = omega (arith, c.len.ensures) in
    sym (run_next s.run s.row zs ls h c.length_at.result (c.length_at.ensures (length zs) h) c.if-row-length_at.false) ∙ c.loop-self.invariant

pub returns-then-row-length_at : goal.returns-then-row-length_at
returns-then-row-length_at c =
    let s = c.loop-self.self in
    let zs = integers s.runs.starts in
    let ls = lengths_of s.runs.lengths (length zs) in
    let h : s.run < length zs = omega (arith, c.len.ensures) in
    let start = c.amount-start.ensures in
    let step = sym c.loop-self.invariant ∙ run_row s.run s.row zs ls h c.length_at.result c.saturating_add.result (c.length_at.ensures (length zs) h) c.if-row-length_at.true (c.saturating_add.ensures ∙ ap (λ n. min (n + s.row) 18446744073709551615) start) in
    record { steps = step; goes = goes left_of_runs c.args.self.now _ (Some c.saturating_add.result) tt step }

pub returns-clause-steps : goal.returns-clause-steps
returns-clause-steps c =
    let s = c.loop-self.self in
    let zs = integers s.runs.starts in
    let none = run_all s.run s.row zs (lengths_of s.runs.lengths (length zs)) (omega (arith, c.len.ensures)) in
    (sym c.loop-self.invariant ∙ none, none)
