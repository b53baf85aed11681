-- The rows that are left give the answer.
use Rattle.std.proofs.Common.{◌≡◌}
use Rattle.mask.specs.Masks.{flags}
use Rattle.integers.specs.Slices.{integers}
use Rattle.array.specs.Opening.{text_check}
use Rattle.array.proofs.Texts.{rest}
use Rattle.array.proofs.text.check_text.Given as goal

abbrev pub invariant-loop-i : goal.invariant-loop-i
invariant-loop-i l = rest (integers l.offsets) l.heap (flags l.validity) l.i ≡ text_check (integers l.offsets) l.heap (flags l.validity)
