-- The finished column, opened: its layout, its validity, its rows and its text, by the slots.
use Rattle.std.proofs.Common.{◌≡◌, ℕ, zero, suc, ◌+◌, ◌-◌, ◌*◌, ◌<◌, ◌≤◌, Bool, true, false, cond, not, ◌&&◌, ◌||◌, eqb, leb, List, [], ◌∷◌, ◌++◌, map, length, get_or, take, drop, replicate, ℤ, pos, Some, None, Option, sym, refl, ap, ◌∙◌, subst, arith, length-append, Bor}
use lib.ListN.{length-map, length-replicate}
use Rattle.std.specs.List.{between, range_with_len}
use Rattle.std.specs.Option.{option_map}
use Rattle.std.proofs.lemmas.List.{append_assoc, get_or-map, take_at, drop_at}
use Rattle.std.proofs.lemmas.Bool.{le-ltb, le-leb, ne_eqb, eq-eqb, eqb-true}
use Rattle.array.specs.Columns.{row_count, slot_bytes, column_row, column_rows}
use Rattle.array.specs.Opening.{row_flags, limits_check, some_check, validity_fits, validity_check, layout_check, row_text, text_check, open_answer}
use Rattle.builder.specs.Finishing.{validity_of}
use Rattle.builder.specs.Calls.{null_count}
use Rattle.builder.specs.States.{State}
use Rattle.builder.specs.declared.finished.Validity.TheVariants.{AllValid, AllInvalid, Bits}
use Rattle.builder.proofs.Laying.{heap_bytes}
use Rattle.integers.specs.Slices.{integers}
use Rattle.integers.specs.declared.slices.IntegerSlice.{IntegerSlice}
use Rattle.mask.specs.Masks.{set_count, bit_flags}
use Rattle.mask.specs.declared.mask.Mask.{Mask}
use Rattle.mask.specs.declared.mask.Mask.TheVariants.{AllTrue, AllFalse, Values}
use Rattle.mask.proofs.Flags.{count_le, length_bits}
use Rattle.ptype.specs.Integers.{amount_at, integers_of}
use Rattle.refusal.specs.Refusals.{Code, code, rule, refuse_if, first_refusal}
use Rattle.slots.specs.Rows.{null, bytes}
use Rattle.slots.specs.Slots.{Slot, slot, slot_row, byte_count, ends_from, offsets_from, heap_of, flags_of, valid_of}
use Rattle.tiling.proofs.Law.{never_fall}
use Rattle.utf8.specs.Reading.{first_fault}
use Rattle.history.specs.Finished.{ValidityIs, HandedOver, finished_heap, slot_text, slots_text}
use Rattle.history.specs.Theorem.{Made}
use Rattle.history.proofs.Following.{Follows, accepted, bits_long}
use Rattle.history.proofs.Whole.{row_flags_lem, used_part}

-- ---- what stands at each place of a column of slots

-- any slot, for places past the last
abbrev some : Slot
some = slot true []

offset_at : (n : ℕ) (ss : List Slot) (i : ℕ) → i ≤ length ss → amount_at (integers_of (offsets_from n ss)) i ≡ n + byte_count (take i ss)
unfolding ends_from byte_count
offset_at n ss zero h = sym (omega arith)
offset_at n [] (suc i) h = absurd (omega arith)
offset_at n (s ∷ ss) (suc i) h = offset_at (n + length s.content) ss i (omega arith) ∙ omega arith

content_at : (first : List ℕ) (ss : List Slot) (i : ℕ) → i < length ss → between (length first + byte_count (take i ss)) (length first + byte_count (take (suc i) ss)) (first ++ heap_of ss) ≡ (get_or ss i some).content
unfolding byte_count
content_at first [] i h = absurd (omega arith)
content_at first (s ∷ ss) zero h =
    let a : length first + 0 ≡ length first = omega arith in
    let b : length first + (length s.content + 0) - (length first + 0) ≡ length s.content = omega arith in
    (λ t. take (b t) (drop (a t) (first ++ (s.content ++ heap_of ss))))
    ∙ ap (take (length s.content)) (drop_at first (s.content ++ heap_of ss) (length first) refl)
    ∙ take_at s.content (heap_of ss) (length s.content) refl
content_at first (s ∷ ss) (suc i) h =
    let c = s.content in
    let l = length-append first c in
    let a : length first + (length c + byte_count (take i ss)) ≡ length (first ++ c) + byte_count (take i ss) = omega arith in
    let b : length first + (length c + byte_count (take (suc i) ss)) ≡ length (first ++ c) + byte_count (take (suc i) ss) = omega arith in
    (λ t. between (a t) (b t) (sym (append_assoc first c (heap_of ss)) t)) ∙ content_at (first ++ c) ss i (omega arith)

-- lists over the same places
map_places : {X : Type 0} (f h : ℕ → X) (a n : ℕ) → ((i : ℕ) → i < a + n → f i ≡ h i) → map f (range_with_len a n) ≡ map h (range_with_len a n)
map_places f h a zero e = refl
map_places f h a (suc n) e = λ t. e a (omega arith) t ∷ map_places f h (a + 1) n (λ i lt. e i (omega arith)) t

by_place : {X : Type 0} (f : Slot → X) (ss : List Slot) → map f ss ≡ map (λ i. f (get_or ss i some)) (range_with_len 0 (length ss))
by_place f [] = refl
by_place f (s ∷ ss) = ap (λ l. f s ∷ l) (by_place f ss ∙ shift 0 (length ss))
  where
    shift : (a n : ℕ) → map (λ i. f (get_or ss i some)) (range_with_len a n) ≡ map (λ i. f (get_or (s ∷ ss) i some)) (range_with_len (a + 1) n)
    shift a zero = refl
    shift a (suc n) = let p : suc a ≡ a + 1 = omega arith in λ t. f (get_or (s ∷ ss) (p t) some) ∷ shift (a + 1) n t

module _ (ss : List Slot) where
  abbrev zs : List ℤ
  zs = integers_of (offsets_from 0 ss)

  ends_long : (n : ℕ) (ts : List Slot) → length (ends_from n ts) ≡ length ts
  unfolding ends_from
  ends_long n [] = refl
  ends_long n (t ∷ ts) = ap suc (ends_long (n + length t.content) ts)

  row_count_lem : row_count zs ≡ length ss
  row_count_lem = omega (arith, length-map (offsets_from 0 ss) pos, ends_long 0 ss)

  bytes_at : (i : ℕ) → i < length ss → slot_bytes zs (heap_of ss) i ≡ (get_or ss i some).content
  bytes_at i h =
      let p : i + 1 ≡ suc i = omega arith in
      let a : amount_at zs i ≡ byte_count (take i ss) = offset_at 0 ss i (omega arith) ∙ omega arith in
      let b : amount_at zs (i + 1) ≡ byte_count (take (suc i) ss) = ap (amount_at zs) p ∙ offset_at 0 ss (suc i) (omega arith) ∙ omega arith in
      let c : byte_count (take i ss) ≡ 0 + byte_count (take i ss) = omega arith in
      let d : byte_count (take (suc i) ss) ≡ 0 + byte_count (take (suc i) ss) = omega arith in
      (λ t. between ((a ∙ c) t) ((b ∙ d) t) (heap_of ss)) ∙ content_at [] ss i h

  flag_at_place : (i : ℕ) → i < length ss → get_or (flags_of ss) i false ≡ (get_or ss i some).valid
  flag_at_place i h = get_or-map valid_of ss i some false h

  pub rows_are : column_rows zs (heap_of ss) (flags_of ss) ≡ map slot_row ss
  rows_are =
      ap (λ n. map (column_row zs (heap_of ss) (flags_of ss)) (range_with_len 0 n)) row_count_lem
      ∙ map_places (column_row zs (heap_of ss) (flags_of ss)) (λ i. slot_row (get_or ss i some)) 0 (length ss) (λ i h. λ t. cond (flag_at_place i (omega arith) t) (bytes (bytes_at i (omega arith) t)) null)
      ∙ sym (by_place slot_row ss)

  pub text_is : text_check zs (heap_of ss) (flags_of ss) ≡ slots_text ss
  text_is =
      ap (λ n. first_refusal (map (row_text zs (heap_of ss) (flags_of ss)) (range_with_len 0 n))) row_count_lem
      ∙ ap first_refusal (map_places (row_text zs (heap_of ss) (flags_of ss)) (slot_text ss) 0 (length ss) each)
    where
      each : (i : ℕ) → i < 0 + length ss → row_text zs (heap_of ss) (flags_of ss) i ≡ slot_text ss i
      each i h =
          let a : amount_at zs i ≡ byte_count (take i ss) = offset_at 0 ss i (omega arith) ∙ omega arith in
          λ t. cond (flag_at_place i (omega arith) t) (option_map (λ k. code 18 i (a t + k)) (first_fault (bytes_at i (omega arith) t))) None

-- ---- flags by the record's validity

all_set : (fs : List Bool) → set_count fs ≡ length fs → fs ≡ replicate (length fs) true
all_set [] e = refl
all_set (true ∷ fs) e = ap (λ l. true ∷ l) (all_set fs (omega arith))
all_set (false ∷ fs) e = absurd (omega (arith, count_le fs))

none_set : (fs : List Bool) → set_count fs ≡ 0 → fs ≡ replicate (length fs) false
none_set [] e = refl
none_set (true ∷ fs) e = absurd (omega arith)
none_set (false ∷ fs) e = ap (λ l. false ∷ l) (none_set fs e)

valid_and_null : (ss : List Slot) → set_count (flags_of ss) + null_count ss ≡ length ss
unfolding null_count
valid_and_null [] = refl
valid_and_null (s ∷ ss) = by s.valid (valid_and_null ss)
  where
    by : (v : Bool) → set_count (flags_of ss) + null_count ss ≡ length ss → set_count (v ∷ flags_of ss) + (cond v 0 1 + null_count ss) ≡ suc (length ss)
    by true r = omega arith
    by false r = omega arith

-- a mask as the record says fits the rows, and its flags are the slots'
pub record Fitting (nullable : Bool) (ss : List Slot) (mask : Option Mask) : Type 0 where
  pub fits : validity_fits nullable mask (length ss) ≡ true
  pub flags_are : row_flags mask (length ss) ≡ flags_of ss

module _ (ss : List Slot) (bits : List ℕ) (mask : Option Mask) (row_bits : bit_flags (length ss) bits ≡ flags_of ss) (enough : length ss ≤ 8 * length bits) where
  long : length (flags_of ss) ≡ length ss
  long = length-map ss valid_of

  as_none : null_count ss ≡ 0 → mask ≡ None → Fitting false ss mask
  as_none n e = record {
    fits = ap (λ k. validity_fits false k (length ss)) e;
    flags_are = ap (λ k. row_flags k (length ss)) e ∙ sym (all_set (flags_of ss) (omega (arith, valid_and_null ss, long)) ∙ ap (λ k. replicate k true) long);
  }

  as_true : set_count (flags_of ss) ≡ length ss → mask ≡ Some (AllTrue (length ss)) → Fitting true ss mask
  as_true n e = record {
    fits = ap (λ k. validity_fits true k (length ss)) e ∙ (λ t. eq-eqb (length (replicate (length ss) true)) (length ss) (length-replicate (length ss) true) t && true);
    flags_are = ap (λ k. row_flags k (length ss)) e ∙ sym (all_set (flags_of ss) (n ∙ sym long) ∙ ap (λ k. replicate k true) long);
  }

  as_false : set_count (flags_of ss) ≡ 0 → mask ≡ Some (AllFalse (length ss)) → Fitting true ss mask
  as_false n e = record {
    fits = ap (λ k. validity_fits true k (length ss)) e ∙ (λ t. eq-eqb (length (replicate (length ss) false)) (length ss) (length-replicate (length ss) false) t && true);
    flags_are = ap (λ k. row_flags k (length ss)) e ∙ sym (none_set (flags_of ss) n ∙ ap (λ k. replicate k false) long);
  }

  as_bits : (part : Bor (List ℕ)) → mask ≡ Some (Values (length ss) part) → part.now ≡ bits → Fitting true ss mask
  as_bits part e is =
      let n = length ss in
      let l : length (bit_flags n part.now) ≡ n = length_bits n part.now in
      let c : leb n (8 * length part.now) ≡ true = le-leb n (8 * length part.now) (omega (arith, ap length is)) in
      record {
        fits = ap (λ k. validity_fits true k n) e ∙ (λ t. eq-eqb (length (bit_flags n part.now)) n l t && c t);
        flags_are = ap (λ k. row_flags k n) e ∙ ap (bit_flags n) is ∙ row_bits;
      }

  pub fitting : (nullable : Bool) → (nullable ≡ false → null_count ss ≡ 0) → ValidityIs (validity_of nullable (length ss) (set_count (flags_of ss))) (length ss) bits mask → Fitting nullable ss mask
  fitting false none v = as_none (none refl) v
  fitting true none v = by (eqb (set_count (flags_of ss)) (length ss)) refl (eqb (set_count (flags_of ss)) 0) refl v
    where
      by : (a : Bool) → eqb (set_count (flags_of ss)) (length ss) ≡ a → (b : Bool) → eqb (set_count (flags_of ss)) 0 ≡ b → ValidityIs (cond a AllValid (cond b AllInvalid Bits)) (length ss) bits mask → Fitting true ss mask
      by true p b q v = as_true (eqb-true (set_count (flags_of ss)) (length ss) p) v
      by false p true q v = as_false (eqb-true (set_count (flags_of ss)) 0 q) v
      by false p false q v = as_bits v.0 v.1.0 v.1.1

-- ---- opening

only : (o : Option Code) → first_refusal (o ∷ []) ≡ o
only None = refl
only (Some c) = refl

module _ (nullable : Bool) (ss : List Slot) (mask : Option Mask) (fit : Fitting nullable ss mask) (few : length ss ≤ 16777216) (small : byte_count ss ≤ 68719476736) where
  abbrev column_offsets : List ℤ
  column_offsets = integers_of (offsets_from 0 ss)

  within_limits : limits_check (row_count column_offsets) (length (heap_of ss)) ≡ None
  within_limits = λ t. refuse_if (le-ltb 16777216 (row_count column_offsets) (omega (arith, row_count_lem ss)) t || le-ltb 68719476736 (length (heap_of ss)) (omega (arith, heap_bytes ss)) t) (rule 14)

  some_offsets : some_check (length column_offsets) ≡ None
  some_offsets = ap (λ b. refuse_if b (rule 15)) (ne_eqb (length column_offsets) 0 (λ e. absurd (omega arith)))

  valid_mask : validity_check nullable mask (row_count column_offsets) ≡ None
  valid_mask = ap (validity_check nullable mask) (row_count_lem ss) ∙ ap (λ b. refuse_if (not b) (rule 16)) fit.fits

  in_order : layout_check column_offsets (length (heap_of ss)) ≡ None
  in_order = ap (option_map (λ i. code 17 i 0)) (never_fall (length (heap_of ss)) 0 0 0 ss (omega arith) (omega arith))

  pub flags_of_rows : row_flags mask (row_count column_offsets) ≡ flags_of ss
  flags_of_rows = ap (row_flags mask) (row_count_lem ss) ∙ fit.flags_are

  opens_by : (is_text : Bool) (o : Option Code) → cond is_text (text_check column_offsets (heap_of ss) (row_flags mask (row_count column_offsets))) None ≡ o → open_answer nullable is_text column_offsets (heap_of ss) mask ≡ o
  opens_by is_text o e = (λ t. first_refusal (within_limits t ∷ some_offsets t ∷ valid_mask t ∷ in_order t ∷ e t ∷ [])) ∙ only o

  pub opens_as_bytes : open_answer nullable false column_offsets (heap_of ss) mask ≡ None
  opens_as_bytes = opens_by false None refl

  pub opens_as_text : open_answer nullable true column_offsets (heap_of ss) mask ≡ slots_text ss
  opens_as_text = opens_by true (slots_text ss) (ap (text_check column_offsets (heap_of ss)) flags_of_rows ∙ text_is ss)

  pub rows_of_column : column_rows column_offsets (heap_of ss) (row_flags mask (row_count column_offsets)) ≡ map slot_row ss
  rows_of_column = ap (column_rows column_offsets (heap_of ss)) flags_of_rows ∙ rows_are ss

-- ---- the column that a history left

module _ (g : Made) (ss : List Slot) (w : ℕ) (m : State) (f : Follows g ss w m) where
  pub numbers_are : (slice : IntegerSlice) → integers slice ≡ integers_of m.offsets → integers slice ≡ integers_of (offsets_from 0 ss)
  numbers_are slice e = e ∙ ap integers_of f.offsets

  pub heap_is : finished_heap m ≡ heap_of ss
  heap_is = used_part g ss w m f

  module _ (slice : IntegerSlice) (mask : Option Mask) (h : HandedOver m slice mask) where
    mask_fits : Fitting g.nullable ss mask
    mask_fits =
        let bits : bit_flags (length ss) m.bits ≡ flags_of ss = ap (λ n. bit_flags n m.bits) (sym f.rows) ∙ row_flags_lem g ss w m f in
        fitting ss m.bits mask bits (omega (arith, f.rows_fit, bits_long g ss w m f)) g.nullable f.no_nulls
        (subst (λ (x : Bool × (ℕ × ℕ)). ValidityIs (validity_of x.0 x.1.0 x.1.1) x.1.0 m.bits mask) (λ t. (f.nullable t, (f.rows t, f.valid t))) h.validity)

    few_rows : length ss ≤ 16777216
    few_rows = omega (arith, f.rows_fit)

    few_bytes : byte_count ss ≤ 68719476736
    few_bytes = omega (arith, f.bytes_fit, (accepted g).few)

    pub opens : open_answer g.nullable false (integers slice) (finished_heap m) mask ≡ None
    opens = (λ t. open_answer g.nullable false (numbers_are slice h.numbers t) (heap_is t) mask) ∙ opens_as_bytes g.nullable ss mask mask_fits few_rows few_bytes

    pub opens_text : open_answer g.nullable true (integers slice) (finished_heap m) mask ≡ slots_text ss
    opens_text = (λ t. open_answer g.nullable true (numbers_are slice h.numbers t) (heap_is t) mask) ∙ opens_as_text g.nullable ss mask mask_fits few_rows few_bytes

    pub opened_rows : column_rows (integers slice) (finished_heap m) (row_flags mask (row_count (integers slice))) ≡ map slot_row ss
    opened_rows = (λ t. column_rows (numbers_are slice h.numbers t) (heap_is t) (row_flags mask (row_count (numbers_are slice h.numbers t)))) ∙ rows_of_column g.nullable ss mask mask_fits few_rows few_bytes
