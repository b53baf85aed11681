-- There are at most as many set flags as flags.
use Rattle.std.proofs.Common.{arith}
use Rattle.mask.specs.Masks.{flags}
use Rattle.mask.proofs.Flags.{count_le}
use Rattle.builder.proofs.values.survey_flags.Goals as goal

pub overflow_sub-result : goal.overflow_sub-result
overflow_sub-result c = omega (arith, count_le (flags c.args.validity), c.len-rows.ensures, c.true_count.ensures)
