-- One entry more: the answers agree, and the memory goes on showing the account's slots.
use Rattle.std.proofs.Common.{◌≡◌, ℕ, suc, ◌+◌, ◌-◌, ◌<◌, ◌≤◌, max, Bool, true, false, not, ◌&&◌, ◌||◌, eqb, ltb, List, [], ◌∷◌, ◌++◌, length, get_or, drop, replicate, ℤ, Some, None, Option, unwrap_or, sym, refl, ap, ◌∙◌, subst, arith, length-append, length-drop, length-take}
use lib.ListN.{length-replicate, length-map}
use Rattle.std.proofs.lemmas.List.{append_assoc, append-nil, map-append, replicate-append-replicate}
use Rattle.std.proofs.lemmas.Bool.{eq-eqb}
use Rattle.std.proofs.lemmas.Bool.Decides.{nat_tests}
use Rattle.builder.specs.Bulk.{unset_count, counts_check, values_checks, checks_before, decode_checks, decoded_answer, decoded, wiped, prefix_sums}
use Rattle.builder.specs.Calls.{space_for, append_answer, appended, Fits, null_count}
use Rattle.builder.specs.Making.{capacity_of}
use Rattle.builder.specs.Space.{is_own_memory, memory_check, space_checks}
use Rattle.builder.specs.States.{State, put_bytes, add_slots}
use Rattle.builder.proofs.Cuts.{cut_length, cut_nulls}
use Rattle.builder.proofs.Decodes.{before, told, rows_fit}
use Rattle.builder.proofs.Laying.{heap_bytes, prefix_length, bytes_cut}
use Rattle.builder.proofs.Spaces.{Limits, passed, own, fits, first_none, before_some}
use Rattle.compute.specs.Selections.{selection_checks}
use Rattle.mask.specs.Bits.{put_bits}
use Rattle.mask.specs.Masks.{flags, covered, set_count}
use Rattle.mask.specs.declared.mask.Mask.{Mask}
use Rattle.mask.proofs.Flags.{count_append, length_puts}
use Rattle.refusal.specs.Refusals.{Code, rule, refuse_if, first_refusal}
use Rattle.slots.specs.Slots.{Slot, byte_count, ends_from, offsets_from, heap_of, flags_of, valid_of}
use Rattle.history.specs.Books.{Book, book_space, book_space_for, book_answer, added_by, wiped_by, wiped_after}
use Rattle.history.specs.Requests.{Request, value, equal_values, nulls, values, decoding, select, named_slots, request_answer}
use Rattle.history.specs.Runs.{step}
use Rattle.history.specs.Theorem.{Made, making_of, made_state}
use Rattle.history.proofs.Growing.{grown, adds_grown, bytes_append, ends_append, heap_append, puts_append, heap_over}

-- builder and memory m, made as g, hold the slots ss, and decodes wiped the heap up to w
pub record Follows (g : Made) (ss : List Slot) (w : ℕ) (m : State) : Type 0 where
  pub offsets : m.offsets ≡ offsets_from 0 ss
  pub heap : m.heap ≡ heap_of ss ++ (replicate (w - byte_count ss) 0 ++ drop (max (byte_count ss) w) g.heap)
  pub bits : m.bits ≡ put_bits g.bits 0 (flags_of ss)
  pub rows : m.rows ≡ length ss
  pub used : m.used ≡ byte_count ss
  pub valid : m.valid ≡ set_count (flags_of ss)
  pub free : m.free + length ss ≡ g.entries - 1
  pub free_left : m.free_left ≡ m.free
  pub top : m.top ≡ g.top
  pub nullable : m.nullable ≡ g.nullable
  pub capacity : m.capacity ≡ capacity_of g.entries (length g.bits)
  pub heap_left : m.heap_left ≡ length g.heap
  pub bits_left : m.bits_left ≡ length g.bits
  pub rows_fit : length ss ≤ capacity_of g.entries (length g.bits)
  pub bytes_fit : byte_count ss ≤ length g.heap
  pub wiped_fit : w ≤ length g.heap
  pub no_nulls : g.nullable ≡ false → null_count ss ≡ 0

-- a list of checks that passes passes at its end
last_none : (cs ds : List (Option Code)) → None ≡ first_refusal (cs ++ ds) → None ≡ first_refusal ds
last_none [] ds e = e
last_none (None ∷ cs) ds e = last_none cs ds e
last_none (Some c ∷ cs) ds e = let z : ◌≡◌ {A = ℕ} 0 1 = cc in absurd (omega arith)

-- ---- what the lengths come to

pub heap_long : (g : Made) (ss : List Slot) (w : ℕ) (m : State) → Follows g ss w m → length m.heap ≡ length g.heap
heap_long g ss w m f =
    ap length f.heap
    ∙ simp (length-append, length-replicate, length-drop) (omega (arith, heap_bytes ss, f.bytes_fit, f.wiped_fit))

pub bits_long : (g : Made) (ss : List Slot) (w : ℕ) (m : State) → Follows g ss w m → length m.bits ≡ length g.bits
bits_long g ss w m f = ap length f.bits ∙ length_puts (flags_of ss) g.bits 0

ends_long : (n : ℕ) (ss : List Slot) → length (ends_from n ss) ≡ length ss
unfolding ends_from
ends_long n [] = refl
ends_long n (s ∷ ss) = ap suc (ends_long (n + length s.content) ss)

-- the last offset is the byte count
last_offset : (n : ℕ) (ss : List Slot) → get_or (offsets_from n ss) (length ss) 0 ≡ n + byte_count ss
unfolding ends_from byte_count
last_offset n [] = sym (omega arith)
last_offset n (s ∷ ss) = last_offset (n + length s.content) ss ∙ omega arith

-- ---- the builder's own memory

pub own_figures : (g : Made) (ss : List Slot) (w : ℕ) (m : State) → Follows g ss w m → is_own_memory m ≡ true
own_figures g ss w m f =
    let a : length m.offsets ≡ m.rows + 1 = omega (arith, ap length f.offsets, ends_long 0 ss, f.rows) in
    let b : get_or m.offsets m.rows 0 ≡ m.used = (λ t. get_or (f.offsets t) (f.rows t) 0) ∙ last_offset 0 ss ∙ omega (arith, f.used) in
    let c = sym f.free_left in
    let d = heap_long g ss w m f ∙ sym f.heap_left in
    let e = bits_long g ss w m f ∙ sym f.bits_left in
    λ t. eq-eqb (length m.offsets) (m.rows + 1) a t && (eq-eqb (get_or m.offsets m.rows 0) m.used b t && (eq-eqb m.free m.free_left c t && (eq-eqb (length m.heap) m.heap_left d t && eq-eqb (length m.bits) m.bits_left e t)))

pub owned : (g : Made) (ss : List Slot) (w : ℕ) (m : State) → Follows g ss w m → None ≡ memory_check m
owned g ss w m f = sym (ap (λ b. refuse_if (not b) (rule 1)) (own_figures g ss w m f))

-- ---- slots that fit are added

nulls_append : (ss ts : List Slot) → null_count (ss ++ ts) ≡ null_count ss + null_count ts
unfolding null_count
nulls_append [] ts = sym (omega arith)
nulls_append (s ∷ ss) ts = let r = nulls_append ss ts in omega arith

-- a call that may have no null has none where 5 does not refuse it
none_null : (nullable : Bool) (n : ℕ) (cs : List (Option Code)) → None ≡ first_refusal (refuse_if (not nullable && ltb 0 n) (rule 5) ∷ cs) → nullable ≡ false → n ≡ 0
none_null true n cs e x = let z : ◌≡◌ {A = ℕ} 0 1 = cc in absurd (omega arith)
none_null false n cs e x = let p = (passed (ltb 0 n) (rule 5) cs e).here in grind (arith, nat_tests)

pub adds : (g : Made) (ss : List Slot) (w : ℕ) (m : State) (ts : List Slot) → Follows g ss w m → Fits m ts → (g.nullable ≡ false → null_count ts ≡ 0) → Follows g (ss ++ ts) w (add_slots m ts)
unfolding grown
adds g ss w m ts f fit none = subst (Follows g (ss ++ ts) w) (sym (adds_grown m ts fit.heap)) all
  where
    all : Follows g (ss ++ ts) w (grown m ts)
    all =
        let u = bytes_append ss ts in
        let hb = heap_bytes ts in
        let long : length (ss ++ ts) ≡ length ss + length ts = length-append ss ts in
        record {
          offsets = (λ t. f.offsets t ++ ends_from (f.used t) ts) ∙ sym (ap (λ l. 0 ∷ l) (ends_append 0 ss ts ∙ ap (λ k. ends_from 0 ss ++ ends_from k ts) (omega arith)));
          heap =
              (λ t. put_bytes (f.heap t) (f.used t) (heap_of ts))
              ∙ heap_over (heap_of ss) (heap_of ts) g.heap (byte_count ss) (byte_count ts) w (heap_bytes ss) hb
              ∙ sym (append_assoc (heap_of ss) (heap_of ts) (replicate (w - (byte_count ss + byte_count ts)) 0 ++ drop (max (byte_count ss + byte_count ts) w) g.heap))
              ∙ (λ t. sym (heap_append ss ts) t ++ (replicate (w - sym u t) 0 ++ drop (max (sym u t) w) g.heap));
          bits =
              (λ t. put_bits (f.bits t) (f.rows t) (flags_of ts))
              ∙ ap (λ k. put_bits (put_bits g.bits 0 (flags_of ss)) k (flags_of ts)) (omega (arith, length-map ss valid_of))
              ∙ sym (puts_append g.bits 0 (flags_of ss) (flags_of ts))
              ∙ ap (put_bits g.bits 0) (sym (map-append valid_of ss ts));
          rows = ap (λ k. k + length ts) f.rows ∙ sym long;
          used = ap (λ k. k + byte_count ts) f.used ∙ sym u;
          valid = ap (λ k. k + set_count (flags_of ts)) f.valid ∙ sym (ap set_count (map-append valid_of ss ts) ∙ count_append (flags_of ss) (flags_of ts));
          free = omega (arith, f.free, fit.entries);
          free_left = ap (λ k. k - length ts) f.free_left;
          top = f.top;
          nullable = f.nullable;
          capacity = f.capacity;
          heap_left = f.heap_left;
          bits_left = f.bits_left;
          rows_fit = omega (arith, fit.rows, f.rows, f.capacity);
          bytes_fit = omega (arith, fit.heap, heap_long g ss w m f, f.used);
          wiped_fit = f.wiped_fit;
          no_nulls = λ e. nulls_append ss ts ∙ (λ t. f.no_nulls e t + none e t);
        }

-- ---- making

pub record Accepted (g : Made) : Type 0 where
  pub few : length g.heap ≤ 68719476736
  pub some : 0 < g.entries

pub accepted : (g : Made) → Accepted g
accepted g = by (ltb 68719476736 (length g.heap)) refl (eqb g.entries 0) refl g.accepted
  where
    by : (a : Bool) → ltb 68719476736 (length g.heap) ≡ a → (b : Bool) → eqb g.entries 0 ≡ b → first_refusal (refuse_if a (rule 14) ∷ refuse_if (not (eqb 0 0) || b) (rule 13) ∷ []) ≡ None → Accepted g
    by true p b q e = let z : ◌≡◌ {A = ℕ} 0 1 = cc in absurd (omega arith)
    by false p true q e = let z : ◌≡◌ {A = ℕ} 0 1 = cc in absurd (omega arith)
    by false p false q e = record { few = grind (arith, nat_tests); some = grind (arith, nat_tests) }

pub fresh : (g : Made) → Follows g [] 0 (made_state g)
unfolding byte_count ends_from put_bits null_count
fresh g = record { offsets = refl; heap = refl; bits = refl; rows = refl; used = refl; valid = refl; free = omega arith; free_left = refl; top = refl; nullable = refl; capacity = refl; heap_left = refl; bits_left = refl; rows_fit = omega arith; bytes_fit = omega arith; wiped_fit = omega arith; no_nulls = λ e. refl }

module _ (g : Made) (ss : List Slot) (w : ℕ) (m : State) (f : Follows g ss w m) where
  abbrev book : Book
  book = record { slots = ss }

  limits : Limits m
  limits = record { few = omega (arith, f.heap_left, (accepted g).few); small = omega (arith, f.capacity); entries = omega (arith, f.capacity, f.free, f.free_left, f.rows) }

  -- ---- the answers agree

  spaces : (rows null_rows size asked : ℕ) → space_checks m.nullable m.capacity m.rows m.used (length m.heap) m.top rows null_rows size asked ≡ book_space (making_of g) book rows null_rows size asked
  spaces rows null_rows size asked = λ t. space_checks (f.nullable t) (f.capacity t) (f.rows t) (f.used t) (heap_long g ss w m f t) (f.top t) rows null_rows size asked

  append_answer_lem : (checks : List (Option Code)) (ts : List Slot) → append_answer m checks ts ≡ first_refusal (checks ++ book_space_for (making_of g) book ts)
  append_answer_lem checks ts =
      sym (first_none (memory_check m) (checks ++ space_for m ts) (first_refusal (checks ++ space_for m ts)) (owned g ss w m f) refl)
      ∙ ap (λ l. first_refusal (checks ++ l)) (spaces (length ts) (null_count ts) (byte_count ts) (byte_count ts))

  before_same : (count slack : ℕ) (zs : List ℤ) (mask : Mask) → first_refusal (checks_before m count slack zs mask) ≡ first_refusal (counts_check zs (flags mask) (covered mask) ∷ book_space (making_of g) book (length zs) (unset_count (flags mask)) count (count + slack))
  before_same count slack zs mask =
      sym (first_none (memory_check m) _ (first_refusal (counts_check zs (flags mask) (covered mask) ∷ space_checks m.nullable m.capacity m.rows m.used (length m.heap) m.top (length zs) (unset_count (flags mask)) count (count + slack))) (owned g ss w m f) refl)
      ∙ ap (λ l. first_refusal (counts_check zs (flags mask) (covered mask) ∷ l)) (spaces (length zs) (unset_count (flags mask)) count (count + slack))

  decode_answer_lem : (count slack : ℕ) (zs : List ℤ) (mask : Mask) (means : Option (List ℕ)) → decoded_answer m count slack zs mask means ≡ first_refusal ((counts_check zs (flags mask) (covered mask) ∷ book_space (making_of g) book (length zs) (unset_count (flags mask)) count (count + slack)) ++ decode_checks means (count + slack) count zs)
  decode_answer_lem count slack zs mask means =
      sym (first_none (memory_check m) _ (first_refusal ((counts_check zs (flags mask) (covered mask) ∷ space_checks m.nullable m.capacity m.rows m.used (length m.heap) m.top (length zs) (unset_count (flags mask)) count (count + slack)) ++ decode_checks means (count + slack) count zs)) (owned g ss w m f) refl)
      ∙ ap (λ l. first_refusal ((counts_check zs (flags mask) (covered mask) ∷ l) ++ decode_checks means (count + slack) count zs)) (spaces (length zs) (unset_count (flags mask)) count (count + slack))

  pub request_answer_lem : (r : Request) → request_answer m r ≡ book_answer (making_of g) book r
  request_answer_lem (value bs) = append_answer_lem [] (named_slots (value bs))
  request_answer_lem (equal_values bs n) = append_answer_lem [] (named_slots (equal_values bs n))
  request_answer_lem (nulls n) = append_answer_lem [] (named_slots (nulls n))
  request_answer_lem (values bs ends mask) = append_answer_lem (values_checks bs ends mask) (named_slots (values bs ends mask))
  request_answer_lem (decoding count slack zs mask means) = decode_answer_lem count slack zs mask means
  request_answer_lem (select rows s) = append_answer_lem (selection_checks (length rows) s) (named_slots (select rows s))

  -- ---- and what is left

  same_slots_more : Follows g (ss ++ []) w m
  same_slots_more = subst (λ l. Follows g l w m) (sym (append-nil ss)) f

  append_after : (r : Request) (checks : List (Option Code)) (o : Option Code) → o ≡ append_answer m checks (named_slots r) → Follows g (ss ++ added_by o r) w (appended m o (named_slots r))
  append_after r checks (Some c) e = same_slots_more
  append_after r checks None e =
      let space = last_none (memory_check m ∷ checks) (space_for m (named_slots r)) e in
      adds g ss w m (named_slots r) f (fits m (named_slots r) (own m (owned g ss w m f)) limits.entries space) (λ x. none_null m.nullable (null_count (named_slots r)) _ space (f.nullable ∙ x))

  wipes : (n : ℕ) → m.used + n ≤ length m.heap → Follows g ss (max w (byte_count ss + n)) (wiped m n)
  wipes n h =
      let u = byte_count ss in
      let k : n + (w - (u + n)) ≡ max w (u + n) - u = omega arith in
      let j : max (u + n) w ≡ max u (max w (u + n)) = omega arith in
      record {
        offsets = f.offsets;
        heap =
            (λ t. put_bytes (f.heap t) (f.used t) (replicate n 0))
            ∙ heap_over (heap_of ss) (replicate n 0) g.heap u n w (heap_bytes ss) (length-replicate n 0)
            ∙ ap (λ l. heap_of ss ++ l) (sym (append_assoc (replicate n 0) (replicate (w - (u + n)) 0) (drop (max (u + n) w) g.heap)))
            ∙ ap (λ l. heap_of ss ++ (l ++ drop (max (u + n) w) g.heap)) (replicate-append-replicate n (w - (u + n)) 0)
            ∙ (λ t. heap_of ss ++ (replicate (k t) 0 ++ drop (j t) g.heap));
        bits = f.bits;
        rows = f.rows;
        used = f.used;
        valid = f.valid;
        free = f.free;
        free_left = f.free_left;
        top = f.top;
        nullable = f.nullable;
        capacity = f.capacity;
        heap_left = f.heap_left;
        bits_left = f.bits_left;
        rows_fit = f.rows_fit;
        bytes_fit = f.bytes_fit;
        wiped_fit = omega (arith, f.wiped_fit, heap_long g ss w m f, f.used);
        no_nulls = f.no_nulls;
      }

  module _ (count slack : ℕ) (zs : List ℤ) (mask : Mask) (means : Option (List ℕ)) where
    abbrev decodes : Request
    decodes = decoding count slack zs mask means

    decoded_fits : None ≡ first_refusal (checks_before m count slack zs mask) → None ≡ first_refusal (decode_checks means (count + slack) count zs) → Fits (wiped m (count + slack)) (named_slots decodes)
    decoded_fits p q =
        let b = before m count slack zs mask limits p in
        let t = told means (count + slack) count zs q in
        let xs = unwrap_or means [] in
        let long = cut_length 0 (prefix_sums 0 zs) (flags mask) xs (prefix_length 0 zs ∙ b.counts) in
        let size = bytes_cut 0 zs (flags mask) xs b.counts (omega (arith, t.all, t.long)) in
        let r = rows_fit m count slack zs mask limits m.heap b t.all in
        let put : length (put_bytes m.heap m.used (replicate (count + slack) 0)) ≡ length m.heap = simp (length-append, length-take, length-drop, length-replicate) (omega (arith, b.heap)) in
        record { entries = omega (arith, r.entries, b.counts); rows = omega (arith, r.rows, b.counts); heap = omega (arith, b.heap, t.all); left = omega (arith, r.left); below = omega (arith, r.below) }

    decode_after : (o p : Option Code) → o ≡ request_answer m decodes → p ≡ first_refusal (checks_before m count slack zs mask) → Follows g (ss ++ added_by o decodes) (wiped_by p book w decodes) (decoded m p o (count + slack) (named_slots decodes))
    decode_after o (Some c) e d = subst (λ a. Follows g (ss ++ added_by a decodes) w m) (before_some (checks_before m count slack zs mask) (decode_checks means (count + slack) count zs) c d ∙ sym e) same_slots_more
    decode_after (Some c) None e d = let b = before m count slack zs mask limits d in subst (λ l. Follows g l (max w (byte_count ss + (count + slack))) (wiped m (count + slack))) (sym (append-nil ss)) (wipes (count + slack) b.heap)
    decode_after None None e d =
        let b = before m count slack zs mask limits d in
        adds g ss (max w (byte_count ss + (count + slack))) (wiped m (count + slack)) (named_slots decodes) (wipes (count + slack) b.heap) (decoded_fits d (last_none (checks_before m count slack zs mask) (decode_checks means (count + slack) count zs) e))
        (λ x. cut_nulls 0 (prefix_sums 0 zs) (flags mask) (unwrap_or means []) (prefix_length 0 zs ∙ b.counts) ∙ none_null m.nullable (unset_count (flags mask)) _ (last_none (memory_check m ∷ counts_check zs (flags mask) (covered mask) ∷ []) _ d) (f.nullable ∙ x))

  pub request_after_lem : (r : Request) → Follows g (ss ++ added_by (request_answer m r) r) (wiped_after (making_of g) book w r) (step m r)
  request_after_lem (value bs) = append_after (value bs) [] (request_answer m (value bs)) refl
  request_after_lem (equal_values bs n) = append_after (equal_values bs n) [] (request_answer m (equal_values bs n)) refl
  request_after_lem (nulls n) = append_after (nulls n) [] (request_answer m (nulls n)) refl
  request_after_lem (values bs ends mask) = append_after (values bs ends mask) (values_checks bs ends mask) (request_answer m (values bs ends mask)) refl
  request_after_lem (decoding count slack zs mask means) =
      subst (λ p. Follows g (ss ++ added_by (request_answer m (decoding count slack zs mask means)) (decoding count slack zs mask means)) (wiped_by p book w (decoding count slack zs mask means)) (step m (decoding count slack zs mask means))) (before_same count slack zs mask)
      (decode_after count slack zs mask means (request_answer m (decoding count slack zs mask means)) (first_refusal (checks_before m count slack zs mask)) refl refl)
  request_after_lem (select rows s) = append_after (select rows s) (selection_checks (length rows) s) (request_answer m (select rows s)) refl
