-- The answer where all else is told, and the part of the heap that the first and the last offset cut out.
use Rattle.std.proofs.Common.{length, arith}
use Rattle.integers.specs.Slices.{integers}
use Rattle.tiling.proofs.Decided.{no_fall, rising_in, Ends, ends, no_text, by_boundaries}
use Rattle.tiling.proofs.offsets_tile_utf8.Goals as goal
use Rattle.tiling.proofs.offsets_tile_utf8.Goals.{After-unwrap_or-last}

-- what is known once the first and the last offset are read
told : (c : After-unwrap_or-last) → Ends (integers c.args.offsets) c.args.bytes.now c.in-Some.first c.unwrap_or-last.result
told c =
    ends (integers c.args.offsets) c.args.bytes.now c.len.result c.in-Some.first c.unwrap_or-last.result c.get-in-Some.result
    (no_fall (length c.args.bytes.now) (integers c.args.offsets) (cc))
    c.in-Some.ensures c.len.ensures c.get-in-Some.ensures c.unwrap_or-last.ensures

pub slice_bounds-validate_utf8-count : goal.slice_bounds-validate_utf8-count
slice_bounds-validate_utf8-count c = omega (arith, (told c).order)

pub slice_bounds-validate_utf8-start : goal.slice_bounds-validate_utf8-start
slice_bounds-validate_utf8-start c = omega (arith, (told c).order)

pub slice_bounds-validate_utf8-end : goal.slice_bounds-validate_utf8-end
slice_bounds-validate_utf8-end c = (told c).inside

pub all_boundaries-requires : goal.all_boundaries-requires
all_boundaries-requires c = rising_in (integers c.args.offsets) c.args.bytes.now (told (goal.at.all_boundaries-requires c).After-unwrap_or-last).rising

pub returns-in-Ok-clause-answer : goal.returns-in-Ok-clause-answer
returns-in-Ok-clause-answer c = by_boundaries (integers c.args.offsets) c.args.bytes.now c.in-Some.first c.unwrap_or-last.result (told (goal.at.returns-in-Ok-clause-answer c).After-unwrap_or-last) c.all_boundaries.result c.in-Ok.ensures.grammar c.all_boundaries.ensures

pub returns-in-Err-clause-answer : goal.returns-in-Err-clause-answer
returns-in-Err-clause-answer c = no_text (integers c.args.offsets) c.args.bytes.now c.in-Some.first c.unwrap_or-last.result (told (goal.at.returns-in-Err-clause-answer c).After-unwrap_or-last) c.in-Err.ensures.grammar.1
