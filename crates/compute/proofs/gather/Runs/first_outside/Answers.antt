-- A run is passed where all its rows are inside, and found at its first row outside.
use Rattle.std.proofs.Common.{◌<◌, length, drop, sym, ◌∙◌, arith}
use Rattle.integers.specs.Slices.{integers}
use Rattle.compute.specs.Selections.{lengths_of}
use Rattle.compute.proofs.Steps.{outside_next, outside_found, outside_all, inside_by, outside_start, outside_row}
use Rattle.compute.proofs.gather.Runs.first_outside.Goals as goal

pub loop-i-preserved : goal.loop-i-preserved
loop-i-preserved c =
    let zs = integers c.args.self.starts in
    let ls = lengths_of c.args.self.lengths (length zs) in
    let h : c.loop-i.i < length zs = omega (arith, c.len-i-end.ensures) in
    let start = c.amount-start.ensures in
    let size = c.length_at-j-end.ensures (length zs) h in
    outside_next c.args.count c.loop-i.i c.amount-start.result c.length_at-j-end.result zs ls h start size (inside_by c.args.count c.amount-start.result c.length_at-j-end.result (omega (arith, c.loop-j.invariant))) ∙ c.loop-i.invariant

pub returns-then-start-count : goal.returns-then-start-count
returns-then-start-count c =
    let zs = integers c.args.self.starts in
    let ls = lengths_of c.args.self.lengths (length zs) in
    let h : c.loop-i.i < length zs = omega (arith, c.len-i-end.ensures) in
    let start = c.amount-start.ensures in
    let size = c.length_at-j-end.ensures (length zs) h in
    outside_found c.args.count c.loop-i.i c.amount-start.result c.length_at-j-end.result zs ls h start size (outside_start c.args.count c.amount-start.result c.length_at-j-end.result c.if-start-count.true (omega arith)) ∙ c.loop-i.invariant

pub returns-then-j-count : goal.returns-then-j-count
returns-then-j-count c =
    let zs = integers c.args.self.starts in
    let ls = lengths_of c.args.self.lengths (length zs) in
    let h : c.loop-i.i < length zs = omega (arith, c.len-i-end.ensures) in
    let start = c.amount-start.ensures in
    let size = c.length_at-j-end.ensures (length zs) h in
    outside_found c.args.count c.loop-i.i c.amount-start.result c.length_at-j-end.result zs ls h start size (outside_row c.args.count c.amount-start.result c.length_at-j-end.result c.loop-j.j c.if-j-count.true c.loop-j-test.true c.if-start-count.false) ∙ c.loop-i.invariant

pub returns-after-loop-i : goal.returns-after-loop-i
returns-after-loop-i c =
    let zs = integers c.args.self.starts in
    let ls = lengths_of c.args.self.lengths (length zs) in
    sym (outside_all c.args.count c.loop-i.i zs (drop c.loop-i.i ls) (omega (arith, c.len-i-end.ensures))) ∙ c.loop-i.invariant
