-- Many slots at once, cut from bytes by their ends or by their lengths.
use Rattle.std.specs.Prelude.{ℕ, ◌+◌, ◌-◌, Bool, not, ◌&&◌, List, [], ◌∷◌, ◌++◌, length, take, replicate, ℤ, pos, Some, None, Option, ◌==◌}
use Rattle.std.specs.List.{between}
use Rattle.std.specs.Option.{option_map, unwrap_or}
use Rattle.decoder.specs.Decoding.{decode_answer}
use Rattle.mask.specs.Masks.{flags, covered, set_count}
use Rattle.mask.specs.declared.mask.Mask.{Mask}
use Rattle.ptype.specs.Integers.{amount}
use Rattle.ptype.specs.Searches.{first_fall, first_overrun, total}
use Rattle.refusal.specs.Refusals.{Code, code, rule, refuse_if, first_refusal}
use Rattle.slots.specs.Slots.{Slot, slot}
use Rattle.builder.specs.Calls.{appended}
use Rattle.builder.specs.Space.{memory_check, space_checks}
use Rattle.builder.specs.States.{State, put_bytes, with_heap}
use Rattle.builder.specs.Surveys.{in_word}
use Rattle.builder.specs.declared.survey.Survey.{Survey}

-- each slot runs from the end before it (`from` for the first) up to its own, and is valid where its flag is set
unfoldable pub cut_slots : ℕ → List ℤ → List Bool → List ℕ → List Slot
cut_slots from [] fs bs = []
cut_slots from (z ∷ zs) [] bs = []
cut_slots from (z ∷ zs) (f ∷ fs) bs = slot f (between from (amount z) bs) ∷ cut_slots (amount z) zs fs bs

-- where lengths end that are laid one behind the other from n on
unfoldable pub prefix_sums : ℕ → List ℤ → List ℤ
prefix_sums n [] = []
prefix_sums n (z ∷ zs) = pos (n + amount z) ∷ prefix_sums (n + amount z) zs

-- how many flags are unset
abbrev pub unset_count : List Bool → ℕ
unset_count fs = length fs - set_count fs

-- what slots with these flags and n bytes come to
abbrev pub flags_survey : List Bool → ℕ → Survey
flags_survey fs n = record { rows = in_word (length fs); nulls = in_word (unset_count fs); bytes = in_word n }

-- 6: numbers and flags differ in count, or the mask has too few bytes for its flags
abbrev pub counts_check : List ℤ → List Bool → Bool → Option Code
counts_check zs fs enough = refuse_if (not (length zs == length fs && enough)) (rule 6)

-- ---- by ends

-- the last end; low stands before the first
unfoldable pub last_end : ℕ → List ℤ → ℕ
last_end low [] = low
last_end low (z ∷ zs) = last_end (amount z) zs

-- 6; 7 at the first end that is negative, falls or passes the byte count; 8 the last end is not that count
abbrev pub values_checks : List ℕ → List ℤ → Mask → List (Option Code)
values_checks bs ends mask =
    counts_check ends (flags mask) (covered mask)
    ∷ option_map (λ i. code 7 i 0) (first_fall (length bs) 0 0 ends)
    ∷ refuse_if (not (last_end 0 ends == length bs)) (rule 8)
    ∷ []

abbrev pub value_slots : List ℕ → List ℤ → Mask → List Slot
value_slots bs ends mask = cut_slots 0 ends (flags mask) bs

-- ---- by lengths, from a decoder

-- before the decoder is asked: 1, 6, and space, for which heap bytes are asked with the slack
abbrev pub checks_before : State → ℕ → ℕ → List ℤ → Mask → List (Option Code)
checks_before m count slack lengths mask =
    memory_check m
    ∷ counts_check lengths (flags mask) (covered mask)
    ∷ space_checks m.nullable m.capacity m.rows m.used (length m.heap) m.top (length lengths) (unset_count (flags mask)) count (count + slack)

-- 9 the decoder refuses; 10 it told another count
abbrev pub told_check : Option ℕ → ℕ → Option Code
told_check None count = Some (rule 9)
told_check (Some told) count = refuse_if (not (told == count)) (rule 10)

-- what is judged of a decode into a part of `size` bytes: 9; 10; 7 at the first length that is negative or runs past; 8 another sum
abbrev pub decode_checks : Option (List ℕ) → ℕ → ℕ → List ℤ → List (Option Code)
decode_checks means size count lengths =
    told_check (decode_answer means size) count
    ∷ option_map (λ i. code 7 i 0) (first_overrun count 0 lengths)
    ∷ refuse_if (not (total lengths == count)) (rule 8)
    ∷ []

abbrev pub decoded_answer : State → ℕ → ℕ → List ℤ → Mask → Option (List ℕ) → Option Code
decoded_answer m count slack lengths mask means = first_refusal (checks_before m count slack lengths mask ++ decode_checks means (count + slack) count lengths)

-- the decoder's list, cut in order by the lengths
abbrev pub decoded_slots : Option (List ℕ) → List ℤ → Mask → List Slot
decoded_slots means lengths mask = cut_slots 0 (prefix_sums 0 lengths) (flags mask) (unwrap_or means [])

-- bytes with zeros from place n on
abbrev pub zeroed_from : ℕ → List ℕ → List ℕ
zeroed_from n bs = take n bs ++ replicate (length bs - n) 0

-- the part that a decode leaves: its list and zeros behind it, or zeros alone where it was refused
abbrev pub decoded_part : Option (List ℕ) → Option Code → ℕ → List ℕ
decoded_part means None size = unwrap_or means [] ++ replicate (size - length (unwrap_or means [])) 0
decoded_part means (Some c) size = replicate size 0

-- the n bytes behind the used ones are zero
abbrev pub wiped : State → ℕ → State
wiped m n = with_heap m (put_bytes m.heap m.used (replicate n 0))

-- refused before the decoder was asked, nothing changes; else the part is wiped, and the slots are added where the call is accepted
abbrev pub decoded : State → Option Code → Option Code → ℕ → List Slot → State
decoded m (Some c) answer size ss = m
decoded m None answer size ss = appended (wiped m size) answer ss
