-- Each pair goes on with the walk or is a fault.
use Rattle.std.proofs.Common.{◌/◌, ◌≤◌, length, None, refl, arith}
use Rattle.std.proofs.lemmas.Bool.Decides.{nat_tests}
use Rattle.decoder.specs.Hexadecimal.{hex_bytes}
use Rattle.decoder.proofs.Pairs.{start, odd_refused, short_refused, fault_refused, bad_high, bad_low, good, done, answered, begins, begins_refused}
use Rattle.decoder.proofs.hex.HexDecoderDecoder.decode.Goals as goal
use Rattle.decoder.proofs.hex.HexDecoderDecoder.decode.Goals.{then-not-is_empty-via-then-not-is_empty, then-not-is_empty-via-else-not-is_empty+then-pairs-part}

pub returns-then-not-is_empty-clause-answer : goal.returns-then-not-is_empty-clause-answer
returns-then-not-is_empty-clause-answer c =
    let ds = c.args.self.now.digits.now in
    elim c.then-not-is_empty.branch [
      | then-not-is_empty-via-then-not-is_empty w ↦ odd_refused ds (length c.args.part.now) (grind (arith, nat_tests))
      | then-not-is_empty-via-else-not-is_empty+then-pairs-part w ↦ short_refused ds (length c.args.part.now) (omega arith)
    ]

pub returns-then-not-is_empty-clause-written : goal.returns-then-not-is_empty-clause-written
returns-then-not-is_empty-clause-written c = begins_refused (hex_bytes c.args.self.now.digits.now) None c.args.part.now refl

pub loop-i-init : goal.loop-i-init
loop-i-init c =
    let ds = c.args.self.now.digits.now in
    start ds c.args.part.now (length ds / 2) c.as_chunks.result.0.now (grind (arith, nat_tests)) c.as_chunks.ensures.front

pub returns-in_err-high-clause-answer : goal.returns-in_err-high-clause-answer
returns-in_err-high-clause-answer c =
    let all = hex_bytes c.args.self.now.digits.now in
    fault_refused all c.from_residual.result (length c.args.part.now) (bad_high c.as_chunks.result.0.now c.loop-i.part c.loop-i.i all (omega arith) c.loop-i.invariant c.in_err-high.ensures.value) c.from_residual.ensures

pub returns-in_err-high-clause-written : goal.returns-in_err-high-clause-written
returns-in_err-high-clause-written c = begins_refused (hex_bytes c.args.self.now.digits.now) c.from_residual.result c.loop-i.part c.from_residual.ensures

pub returns-in_err-low-clause-answer : goal.returns-in_err-low-clause-answer
returns-in_err-low-clause-answer c =
    let all = hex_bytes c.args.self.now.digits.now in
    fault_refused all c.from_residual-in_err-low.result (length c.args.part.now) (bad_low c.as_chunks.result.0.now c.loop-i.part c.loop-i.i all (omega arith) c.loop-i.invariant c.in_err-low.ensures.value) c.from_residual-in_err-low.ensures

pub returns-in_err-low-clause-written : goal.returns-in_err-low-clause-written
returns-in_err-low-clause-written c = begins_refused (hex_bytes c.args.self.now.digits.now) c.from_residual-in_err-low.result c.loop-i.part c.from_residual-in_err-low.ensures

pub loop-i-preserved : goal.loop-i-preserved
loop-i-preserved c = good c.as_chunks.result.0.now c.loop-i.part c.loop-i.i (hex_bytes c.args.self.now.digits.now) (omega arith) c.loop-i.invariant c.in_ok-high.high c.in_ok-low.low (omega arith) c.in_ok-high.ensures.value c.in_ok-low.ensures.value

pub returns-clause-answer : goal.returns-clause-answer
returns-clause-answer c =
    let ps = c.as_chunks.result.0.now in
    let room : length ps ≤ length c.loop-i.part = omega arith in
    answered (hex_bytes c.args.self.now.digits.now) c.loop-i.part (length ps) (length c.args.part.now) room (omega arith) (done ps c.loop-i.part c.loop-i.i (hex_bytes c.args.self.now.digits.now) (omega arith) c.loop-i.invariant)

pub returns-clause-written : goal.returns-clause-written
returns-clause-written c =
    let ps = c.as_chunks.result.0.now in
    begins (hex_bytes c.args.self.now.digits.now) c.loop-i.part (length ps) (done ps c.loop-i.part c.loop-i.i (hex_bytes c.args.self.now.digits.now) (omega arith) c.loop-i.invariant)
