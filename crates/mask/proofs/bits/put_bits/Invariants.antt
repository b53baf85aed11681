-- What the loop over the bits keeps.
use Rattle.std.proofs.Common.{◌≡◌, ◌+◌, ◌-◌, replicate}
use Rattle.mask.specs.Bits.{put_bits}
use Rattle.mask.proofs.bits.put_bits.Given as goal

-- what is still to be written gives the whole
abbrev pub invariant-loop-i : goal.invariant-loop-i
invariant-loop-i l = put_bits l.bytes l.i (replicate (l.from + l.n - l.i) l.v) ≡ put_bits l.initial.bytes l.from (replicate l.n l.v)
