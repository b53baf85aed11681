-- Summing up slots one after the other, in counts that are held to 64 bits.
use Rattle.std.proofs.Common.{◌≡◌, ℕ, ◌+◌, ◌≤◌, min, true, false, List, [], ◌∷◌, length, Option, sym, ap, ◌∙◌, arith}
use Rattle.builder.specs.Calls.{null_count}
use Rattle.builder.specs.Surveys.{in_word, survey_of}
use Rattle.builder.specs.declared.survey.Survey.{Survey}
use Rattle.slots.specs.Rows.{Row}
use Rattle.slots.specs.Slots.{Slot, slot, row_slot, byte_count}
use Rattle.compute.specs.Indices.{picked_row, picked_slots}

-- these counts with what is left come to all
pub record Surveying (rows nulls size : ℕ) (left all : List Slot) : Type 0 where
  pub rows_go : in_word (rows + length left) ≡ in_word (length all)
  pub nulls_go : in_word (nulls + null_count left) ≡ in_word (null_count all)
  pub bytes_go : in_word (size + byte_count left) ≡ in_word (byte_count all)
  pub rows_fit : rows ≤ 18446744073709551615
  pub nulls_fit : nulls ≤ 18446744073709551615
  pub bytes_fit : size ≤ 18446744073709551615

pub begin : (ss : List Slot) → Surveying 0 0 0 ss ss
begin ss = record { rows_go = omega arith; nulls_go = omega arith; bytes_go = omega arith; rows_fit = omega arith; nulls_fit = omega arith; bytes_fit = omega arith }

module _ (rows nulls size : ℕ) (rest all : List Slot) (one : ℕ) (is : one ≡ min (rows + 1) 18446744073709551615) where
  pub a_value : (v : List ℕ) (more : ℕ) → more ≡ min (size + length v) 18446744073709551615 → Surveying rows nulls size (slot true v ∷ rest) all → Surveying one nulls more rest all
  unfolding null_count byte_count
  a_value v more e s = record { rows_go = omega (arith, s.rows_go, s.rows_fit); nulls_go = omega (arith, s.nulls_go); bytes_go = omega (arith, s.bytes_go, s.bytes_fit); rows_fit = omega arith; nulls_fit = s.nulls_fit; bytes_fit = omega arith }

  pub a_null : (more : ℕ) → more ≡ min (nulls + 1) 18446744073709551615 → Surveying rows nulls size (slot false [] ∷ rest) all → Surveying one more size rest all
  unfolding null_count byte_count
  a_null more e s = record { rows_go = omega (arith, s.rows_go, s.rows_fit); nulls_go = omega (arith, s.nulls_go, s.nulls_fit); bytes_go = omega (arith, s.bytes_go); rows_fit = omega arith; nulls_fit = omega arith; bytes_fit = s.bytes_fit }

pub ends : (rows nulls size : ℕ) (all : List Slot) → Surveying rows nulls size [] all → ◌≡◌ {A = Survey} (record { rows = rows; nulls = nulls; bytes = size }) (survey_of all)
unfolding null_count byte_count
ends rows nulls size all s =
    let a : rows ≡ in_word (length all) = omega (arith, s.rows_go, s.rows_fit) in
    let b : nulls ≡ in_word (null_count all) = omega (arith, s.nulls_go, s.nulls_fit) in
    let c : size ≡ in_word (byte_count all) = omega (arith, s.bytes_go, s.bytes_fit) in
    λ t. record { rows = a t; nulls = b t; bytes = c t }

-- the slots that are left, the first of them by the row that was read
pub first_slot : (rows : List Row) (before after : List (Option ℕ)) (index : Option ℕ) (row : Row) → before ≡ index ∷ after → row ≡ picked_row rows index → picked_slots rows before ≡ row_slot row ∷ picked_slots rows after
first_slot rows before after index row e r = ap (picked_slots rows) e ∙ sym (ap (λ x. row_slot x ∷ picked_slots rows after) r)
