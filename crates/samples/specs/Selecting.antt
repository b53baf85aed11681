-- Selections from sample column K into an empty nullable builder with space: the answer with number, entry and byte, and what is left.
use Rattle.std.specs.Prelude.{◌≡◌, ℕ, Bool, true, false, List, [], ◌∷◌, pos, negsuc, Some, None, Option}
use Rattle.array.specs.Columns.{column_rows}
use Rattle.array.specs.Samples.{sample_k}
use Rattle.builder.specs.Samples.{empty_sample}
use Rattle.compute.specs.Selections.{Selection, by_number, by_run, by_mask, expansion, select_answer, selected}
use Rattle.mask.specs.Masks.{bit_flags}
use Rattle.refusal.specs.Refusals.{Code, code}
use Rattle.slots.specs.Rows.{Row}

abbrev pub rows_of_k : List Row
rows_of_k = column_rows sample_k.offsets sample_k.heap (bit_flags 3 sample_k.bits)

abbrev pub answer_to : Selection → Option Code
answer_to s = select_answer empty_sample rows_of_k s

abbrev pub offsets_after : Selection → List ℕ
offsets_after s = (selected empty_sample rows_of_k s (answer_to s)).offsets

-- the first n row bits after a selection
abbrev pub bits_after : ℕ → Selection → List Bool
bits_after n s = bit_flags n (selected empty_sample rows_of_k s (answer_to s)).bits

-- indices 1, null and 2
abbrev pub one_null_two : Selection
one_null_two = by_number (pos 1 ∷ pos 0 ∷ pos 2 ∷ []) (true ∷ false ∷ true ∷ []) true

-- one run
abbrev pub one_run : ℕ → ℕ → Selection
one_run start len = by_run (pos start ∷ []) (pos len ∷ []) len

-- rows 0 and 2 by number, by run and by mask
abbrev pub first_and_last : Selection
first_and_last = by_number (pos 0 ∷ pos 2 ∷ []) (true ∷ true ∷ []) true

abbrev pub two_runs : Selection
two_runs = by_run (pos 0 ∷ pos 2 ∷ []) (pos 1 ∷ pos 1 ∷ []) 2

abbrev pub two_of_three : Selection
two_of_three = by_mask (true ∷ false ∷ true ∷ []) true

pub record SelectionExamples : Type 0 where
  pub take_1_null_2 : answer_to one_null_two ≡ None
  pub take_1_null_2_offsets : offsets_after one_null_two ≡ 0 ∷ 0 ∷ 0 ∷ 3 ∷ []
  pub take_1_null_2_bits : bits_after 3 one_null_two ≡ false ∷ false ∷ true ∷ []
  pub take_negative : answer_to (by_number (negsuc 0 ∷ []) (true ∷ []) true) ≡ Some (code 11 0 0)
  pub take_null_99 : answer_to (by_number (pos 99 ∷ []) (false ∷ []) true) ≡ None
  pub take_null_99_offsets : offsets_after (by_number (pos 99 ∷ []) (false ∷ []) true) ≡ 0 ∷ 0 ∷ []
  pub take_null_99_bits : bits_after 1 (by_number (pos 99 ∷ []) (false ∷ []) true) ≡ false ∷ []
  pub run_0_of_3 : answer_to (one_run 0 3) ≡ None
  pub run_0_of_3_offsets : offsets_after (one_run 0 3) ≡ 0 ∷ 2 ∷ 2 ∷ 5 ∷ []
  pub run_99_of_0 : answer_to (one_run 99 0) ≡ None
  pub run_99_of_0_offsets : offsets_after (one_run 99 0) ≡ 0 ∷ []
  pub run_1_of_3 : answer_to (one_run 1 3) ≡ Some (code 11 0 0)
  pub filter_1_0_1 : answer_to two_of_three ≡ None
  pub filter_1_0_1_offsets : offsets_after two_of_three ≡ 0 ∷ 2 ∷ 5 ∷ []
  pub same_by_run : expansion 3 first_and_last ≡ expansion 3 two_runs
  pub same_by_mask : expansion 3 first_and_last ≡ expansion 3 two_of_three
  pub expands_to : expansion 3 first_and_last ≡ Some (Some 0 ∷ Some 2 ∷ [])
