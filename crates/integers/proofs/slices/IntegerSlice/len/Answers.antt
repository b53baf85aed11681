-- The list of integers is as long as the slice.
use Rattle.std.proofs.Common.{rules}
use Rattle.std.proofs.lemmas.List.{length-map}
use Rattle.integers.proofs.slices.IntegerSlice.len.Goals as goal

pub returns-in-U8 : goal.returns-in-U8
returns-in-U8 c = search (rules, length-map)

pub returns-in-U16 : goal.returns-in-U16
returns-in-U16 c = search (rules, length-map)

pub returns-in-U32 : goal.returns-in-U32
returns-in-U32 c = search (rules, length-map)

pub returns-in-U64 : goal.returns-in-U64
returns-in-U64 c = search (rules, length-map)
