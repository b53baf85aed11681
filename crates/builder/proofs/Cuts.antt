-- Slots that are cut from bytes: a step of the loop, and what they come to.
use Rattle.std.proofs.Common.{◌≡◌, ℕ, suc, ◌+◌, ◌-◌, ◌<◌, ◌≤◌, min, Bool, true, false, not, ◌&&◌, eqb, List, [], ◌∷◌, length, get_or, drop, ℤ, pos, Some, None, Option, sym, refl, ap, ◌∙◌, arith, length-drop, length-take}
use Rattle.std.specs.List.{between}
use Rattle.std.specs.Option.{option_map}
use Rattle.std.proofs.lemmas.List.{drop_more, drop_all}
use Rattle.std.proofs.lemmas.Bool.Decides.{nat_tests}
use Rattle.mask.specs.Masks.{flags, covered, set_count}
use Rattle.mask.specs.declared.mask.Mask.{Mask}
use Rattle.ptype.specs.Integers.{amount, amount_at}
use Rattle.ptype.specs.Searches.{first_fall}
use Rattle.ptype.proofs.Rising.{inside, parts}
use Rattle.refusal.specs.Refusals.{Code, code, rule, first_refusal}
use Rattle.slots.specs.Slots.{slot, byte_count}
use Rattle.builder.specs.Bulk.{cut_slots, unset_count, flags_survey, counts_check, last_end, values_checks}
use Rattle.builder.specs.Calls.{null_count}
use Rattle.builder.specs.Surveys.{survey_of}
use Rattle.builder.proofs.Spaces.{passed}

-- ---- the last end

pub last_none : (zs : List ℤ) → length zs ≡ 0 → 0 ≡ last_end 0 zs
unfolding last_end
last_none [] e = refl
last_none (z ∷ zs) e = absurd (omega arith)

pub last_at : (zs : List ℤ) (low : ℕ) → 0 < length zs → amount_at zs (length zs - 1) ≡ last_end low zs
unfolding last_end
last_at [] low h = absurd (omega arith)
last_at (z ∷ []) low h = refl
last_at (z ∷ y ∷ zs) low h =
    let e : suc (suc (length zs)) - 1 ≡ suc (length zs) = omega arith in
    let d : suc (length zs) - 1 ≡ length zs = omega arith in
    ap (amount_at (z ∷ y ∷ zs)) e ∙ sym (ap (amount_at (y ∷ zs)) d) ∙ last_at (y ∷ zs) (amount z) (omega arith)

-- ---- one slot of the loop

cut_more : (from i : ℕ) (zs : List ℤ) (fs : List Bool) (bs : List ℕ) → i < length zs → i < length fs → cut_slots from (drop i zs) (drop i fs) bs ≡ slot (get_or fs i false) (between from (amount_at zs i) bs) ∷ cut_slots (amount_at zs i) (drop (i + 1) zs) (drop (i + 1) fs) bs
unfolding cut_slots
cut_more from i zs fs bs h k = λ t. cut_slots from (drop_more zs i (pos 0) h t) (drop_more fs i false k t) bs

-- the same by what was read of the end and of the flag
pub cut_read : (from i : ℕ) (zs : List ℤ) (fs : List Bool) (bs : List ℕ) (end : ℕ) (valid : Bool) → i < length zs → length zs ≡ length fs → end ≡ amount_at zs i → valid ≡ get_or fs i false → cut_slots from (drop i zs) (drop i fs) bs ≡ slot valid (between from end bs) ∷ cut_slots end (drop (i + 1) zs) (drop (i + 1) fs) bs
cut_read from i zs fs bs end valid h same e v =
    cut_more from i zs fs bs h (omega arith)
    ∙ sym (λ t. slot (v t) (between from (e t) bs) ∷ cut_slots (e t) (drop (i + 1) zs) (drop (i + 1) fs) bs)

pub cut_all : (from i : ℕ) (zs : List ℤ) (fs : List Bool) (bs : List ℕ) → length zs ≤ i → cut_slots from (drop i zs) fs bs ≡ []
unfolding cut_slots
cut_all from i zs fs bs h = ap (λ l. cut_slots from l fs bs) (drop_all i zs h)

-- the end at i lies between the one before it and the limit, and the others rise behind it
pub record Rises (limit from i : ℕ) (zs : List ℤ) : Type 0 where
  pub above : from ≤ amount_at zs i
  pub below : amount_at zs i ≤ limit
  pub rest : first_fall limit (amount_at zs i) (i + 1) (drop (i + 1) zs) ≡ None

pub rises : (limit from i : ℕ) (zs : List ℤ) → i < length zs → first_fall limit from i (drop i zs) ≡ None → Rises limit from i zs
rises limit from i zs h e =
    let q = parts limit from i (get_or zs i (pos 0)) (drop (i + 1) zs) (sym (ap (first_fall limit from i) (drop_more zs i (pos 0) h)) ∙ e) in
    let n = inside from limit (get_or zs i (pos 0)) q.first in
    record { above = n.above; below = n.below; rest = q.rest }

-- ---- what the slots come to

pub cut_length : (from : ℕ) (zs : List ℤ) (fs : List Bool) (bs : List ℕ) → length zs ≡ length fs → length (cut_slots from zs fs bs) ≡ length fs
unfolding cut_slots
cut_length from [] fs bs e = e
cut_length from (z ∷ zs) [] bs e = absurd (omega arith)
cut_length from (z ∷ zs) (f ∷ fs) bs e = ap suc (cut_length (amount z) zs fs bs (omega arith))

nulls_and_set : (from : ℕ) (zs : List ℤ) (fs : List Bool) (bs : List ℕ) → length zs ≡ length fs → null_count (cut_slots from zs fs bs) + set_count fs ≡ length fs
unfolding cut_slots null_count
nulls_and_set from [] [] bs e = refl
nulls_and_set from [] (f ∷ fs) bs e = absurd (omega arith)
nulls_and_set from (z ∷ zs) [] bs e = absurd (omega arith)
nulls_and_set from (z ∷ zs) (true ∷ fs) bs e = let r = nulls_and_set (amount z) zs fs bs (omega arith) in omega arith
nulls_and_set from (z ∷ zs) (false ∷ fs) bs e = let r = nulls_and_set (amount z) zs fs bs (omega arith) in omega arith

pub cut_nulls : (from : ℕ) (zs : List ℤ) (fs : List Bool) (bs : List ℕ) → length zs ≡ length fs → null_count (cut_slots from zs fs bs) ≡ unset_count fs
cut_nulls from zs fs bs e = omega (arith, nulls_and_set from zs fs bs e)

-- a rising list of ends has its last behind the one before
pub cut_bytes : (from p : ℕ) (zs : List ℤ) (fs : List Bool) (bs : List ℕ) → length zs ≡ length fs → from ≤ length bs → first_fall (length bs) from p zs ≡ None → from + byte_count (cut_slots from zs fs bs) ≡ last_end from zs
unfolding cut_slots byte_count last_end
cut_bytes from p [] fs bs e le f = omega arith
cut_bytes from p (z ∷ zs) [] bs e le f = absurd (omega arith)
cut_bytes from p (z ∷ zs) (v ∷ fs) bs e le f =
    let q = parts (length bs) from p z zs f in
    let n = inside from (length bs) z q.first in
    let long : length (between from (amount z) bs) ≡ amount z - from = simp (length-take, length-drop) (omega (arith, n.above, n.below)) in
    let r = cut_bytes (amount z) (p + 1) zs fs bs (omega arith) n.below q.rest in
    omega (arith, n.above)

-- ---- what the checks tell where they pass

pub record Cut (bs : List ℕ) (zs : List ℤ) (mask : Mask) : Type 0 where
  pub counts : length zs ≡ length (flags mask)
  pub rise : first_fall (length bs) 0 0 zs ≡ None
  pub whole : last_end 0 zs ≡ length bs

pub same_counts : (zs : List ℤ) (fs : List Bool) (enough : Bool) → None ≡ counts_check zs fs enough → length zs ≡ length fs
same_counts zs fs enough e =
    let p = (passed (not (eqb (length zs) (length fs) && enough)) (rule 6) [] (single (counts_check zs fs enough) e)).here in grind (arith, nat_tests)
  where
    single : (o : Option Code) → None ≡ o → None ≡ first_refusal (o ∷ [])
    single None e = refl
    single (Some c) e = e

pub none_found : (o : Option ℕ) (k : ℕ → Code) (cs : List (Option Code)) → None ≡ first_refusal (option_map k o ∷ cs) → (o ≡ None) × (None ≡ first_refusal cs)
none_found None k cs e = (refl, e)
none_found (Some i) k cs e = let z : ◌≡◌ {A = ℕ} 0 1 = cc in absurd (omega arith)

pub cut : (bs : List ℕ) (zs : List ℤ) (mask : Mask) → None ≡ first_refusal (values_checks bs zs mask) → Cut bs zs mask
cut bs zs mask e =
    let a = passed (not (eqb (length zs) (length (flags mask)) && covered mask)) (rule 6) _ e in
    let b = none_found (first_fall (length bs) 0 0 zs) (λ i. code 7 i 0) _ a.rest in
    let c = passed (not (eqb (last_end 0 zs) (length bs))) (rule 8) [] b.1 in
    let same = a.here in
    let all = c.here in
    record { counts = grind (arith, nat_tests); rise = b.0; whole = grind (arith, nat_tests) }

pub cut_survey : (bs : List ℕ) (zs : List ℤ) (mask : Mask) → Cut bs zs mask → flags_survey (flags mask) (length bs) ≡ survey_of (cut_slots 0 zs (flags mask) bs)
cut_survey bs zs mask k =
    let rows = sym (cut_length 0 zs (flags mask) bs k.counts) in
    let nulls = sym (cut_nulls 0 zs (flags mask) bs k.counts) in
    let bytes : length bs ≡ byte_count (cut_slots 0 zs (flags mask) bs) = omega (arith, cut_bytes 0 0 zs (flags mask) bs k.counts (omega arith) k.rise, k.whole) in
    λ t. record { rows = min (rows t) 18446744073709551615; nulls = min (nulls t) 18446744073709551615; bytes = min (bytes t) 18446744073709551615 }
