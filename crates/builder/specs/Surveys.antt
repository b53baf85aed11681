-- What slots come to: how many, how many of them null, how many bytes.
use Rattle.std.specs.Prelude.{ℕ, min, List, length}
use Rattle.slots.specs.Slots.{Slot, byte_count}
use Rattle.builder.specs.Calls.{null_count}
use Rattle.builder.specs.declared.survey.Survey.{Survey}

-- a count as 64 bits hold it: past them it stays at the greatest
abbrev pub in_word : ℕ → ℕ
in_word n = min n 18446744073709551615

abbrev pub survey_of : List Slot → Survey
survey_of ss = record { rows = in_word (length ss); nulls = in_word (null_count ss); bytes = in_word (byte_count ss) }
