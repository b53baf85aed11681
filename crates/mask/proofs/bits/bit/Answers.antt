-- The bit of the byte that holds it.
use Rattle.std.proofs.Common.{◌≡◌, ◌/◌, ◌%◌, get_or, ap, rules}
use Rattle.mask.specs.Bits.{bit_of}
use Rattle.mask.proofs.bits.bit.Goals as goal

pub returns-in-Some : goal.returns-in-Some
returns-in-Some c =
    let e : c.in-Some.byte.now ≡ get_or c.args.bytes.now (c.args.i / 8) 0 = search rules in
    ap (λ b. bit_of b (c.args.i % 8)) e
