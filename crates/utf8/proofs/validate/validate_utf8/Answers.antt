-- A new reader, and the laws of its run.
use Rattle.std.proofs.Common.{ap}
use Rattle.utf8.specs.Reading.{read_all}
use Rattle.utf8.proofs.Run.{runs}
use Rattle.utf8.proofs.validate.validate_utf8.Goals as goal

pub loop-i-init : goal.loop-i-init
loop-i-init c = (ap (λ m. read_all m 0 c.args.bytes.now) c.new-reader.ensures, runs _)
