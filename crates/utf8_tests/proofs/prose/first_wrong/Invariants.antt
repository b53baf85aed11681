-- Why the loop over the characters ends.
use Rattle.std.proofs.Common.{◌-◌, length}
use Rattle.utf8_tests.proofs.prose.first_wrong.Given as goal

-- the bytes that are left
abbrev pub decreases-loop-at : goal.decreases-loop-at
decreases-loop-at l = length l.bytes - l.at
