-- What opening a column asks, in the order of checking.
use Rattle.std.specs.Prelude.{ℕ, ◌+◌, Bool, true, false, cond, not, ◌&&◌, ◌||◌, List, [], ◌∷◌, map, length, replicate, ℤ, Some, None, Option, ◌==◌, nat_lt, slice_index_or}
use Rattle.std.specs.List.{range_with_len}
use Rattle.std.specs.Option.{option_map}
use Rattle.mask.specs.Masks.{flags, covered}
use Rattle.mask.specs.declared.mask.Mask.{Mask}
use Rattle.ptype.specs.Integers.{amount_at}
use Rattle.ptype.specs.Searches.{first_fall}
use Rattle.refusal.specs.Refusals.{Code, code, rule, refuse_if, first_refusal}
use Rattle.utf8.specs.Reading.{first_fault}
use Rattle.array.specs.Columns.{row_count, slot_bytes}

-- the flags of the rows: a mask's, or all set where there is none
abbrev pub row_flags : Option Mask → ℕ → List Bool
row_flags None rows = replicate rows true
row_flags (Some m) rows = flags m

-- 14: over a limit
abbrev pub limits_check : ℕ → ℕ → Option Code
limits_check rows heap = refuse_if (nat_lt 16777216 rows || nat_lt 68719476736 heap) (rule 14)

-- 15: no offsets
abbrev pub some_check : ℕ → Option Code
some_check offsets = refuse_if (offsets == 0) (rule 15)

-- a mask exactly where nullable, of the row count, with a bit for each row
abbrev pub validity_fits : Bool → Option Mask → ℕ → Bool
validity_fits nullable None rows = not nullable
validity_fits nullable (Some m) rows = nullable && (length (flags m) == rows && covered m)

-- 16: validity that does not fit
abbrev pub validity_check : Bool → Option Mask → ℕ → Option Code
validity_check nullable mask rows = refuse_if (not (validity_fits nullable mask rows)) (rule 16)

-- 17 at the first offset that is negative, falls or leaves the heap
abbrev pub layout_check : List ℤ → ℕ → Option Code
layout_check offsets heap = option_map (λ i. code 17 i 0) (first_fall heap 0 0 offsets)

-- 18 at a valid row that is not UTF-8, with the heap place where its first bad character begins
abbrev pub row_text : List ℤ → List ℕ → List Bool → ℕ → Option Code
row_text offsets heap valid i = cond (slice_index_or valid i false) (option_map (λ k. code 18 i (amount_at offsets i + k)) (first_fault (slot_bytes offsets heap i))) None

abbrev pub text_check : List ℤ → List ℕ → List Bool → Option Code
text_check offsets heap valid = first_refusal (map (row_text offsets heap valid) (range_with_len 0 (row_count offsets)))

-- the answer of opening: the first check that refuses; text is judged only where the column is text
abbrev pub open_answer : Bool → Bool → List ℤ → List ℕ → Option Mask → Option Code
open_answer nullable is_text offsets heap mask =
    first_refusal (
    limits_check (row_count offsets) (length heap)
    ∷ some_check (length offsets)
    ∷ validity_check nullable mask (row_count offsets)
    ∷ layout_check offsets (length heap)
    ∷ cond is_text (text_check offsets heap (row_flags mask (row_count offsets))) None
    ∷ []
    )
