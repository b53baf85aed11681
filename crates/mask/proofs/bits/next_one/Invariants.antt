-- What the search keeps from byte to byte.
use Rattle.std.proofs.Common.{◌≡◌, ℕ, ◌-◌, ◌*◌, ◌%◌, ◌^◌, ◌<◌, false}
use Rattle.mask.proofs.Seek.{bit_from}
use Rattle.mask.proofs.bits.next_one.Given as goal

-- no bit from the start on is set in the bytes before; of the byte that comes, the bits from the start on are kept
abbrev pub invariant-loop-i : goal.invariant-loop-i
invariant-loop-i l = ((k : ℕ) → k < 8 * l.i → bit_from l.bytes l.from k ≡ false) × (l.keep ≡ 255 * 2 ^ (l.from - 8 * l.i) % 256)
