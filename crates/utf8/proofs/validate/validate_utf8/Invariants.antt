-- What the loop over the bytes keeps.
use Rattle.std.proofs.Common.{◌≡◌, drop}
use Rattle.utf8.specs.Reading.{fresh, read_all, reading}
use Rattle.utf8.proofs.Run.{Runs}
use Rattle.utf8.proofs.validate.validate_utf8.Given as goal

-- what is left to read leads to what the whole text leads to
abbrev pub invariant-loop-i : goal.invariant-loop-i
invariant-loop-i l = (read_all (reading l.reader) l.i (drop l.i l.bytes) ≡ read_all fresh 0 l.bytes) × Runs l.bytes
