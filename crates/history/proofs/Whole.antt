-- Whole histories: answers, memory, added slots and the finished record, entry by entry.
use Rattle.std.proofs.Common.{◌≡◌, ℕ, ◌+◌, ◌-◌, ◌*◌, ◌<◌, ◌≤◌, max, Bool, true, false, cond, not, ◌&&◌, ltb, leb, List, [], ◌∷◌, ◌++◌, length, get_or, take, drop, replicate, Some, Option, sym, refl, ap, ◌∙◌, subst, arith}
use lib.ListN.{length-map}
use Rattle.std.proofs.lemmas.List.{append_assoc, append-nil, ext_get_or, take_at, drop_at}
use Rattle.std.proofs.lemmas.Bool.Decides.{nat_tests}
use Rattle.builder.specs.Bulk.{decoded, decoded_slots}
use Rattle.builder.specs.Finishing.{record_of, finished_of}
use Rattle.builder.specs.Space.{is_own_memory, memory_check}
use Rattle.builder.specs.States.{State}
use Rattle.builder.proofs.Laying.{heap_bytes}
use Rattle.mask.specs.Bits.{bit_at, put_bits}
use Rattle.mask.specs.Masks.{bit_flags}
use Rattle.mask.proofs.Flags.{length_bits, flag_at, bit_puts}
use Rattle.refusal.specs.Refusals.{Code, rule, refuse_if, first_refusal}
use Rattle.slots.specs.Slots.{Slot, slot, byte_count, ends_from, offsets_from, heap_of, flags_of, valid_of}
use Rattle.history.specs.Books.{Book, empty_book, same_figures, Entry, own, elsewhere, added_by, book_figures, book_entry_answer, book_entry_after, wiped_entry, book_run, book_answers, wiped_run}
use Rattle.history.specs.Histories.{figures_of, figures_left, entry_answer, entry_after, state_after, entry_answers, added_at, added_slots, Column, column_of}
use Rattle.history.specs.Requests.{Request, value, equal_values, nulls, values, decoding, select, request_answer, request_after}
use Rattle.history.specs.Running.{finished_state}
use Rattle.history.specs.Runs.{step}
use Rattle.history.specs.Theorem.{Made, making_of, made_state, Shows}
use Rattle.history.proofs.Following.{Follows, heap_long, bits_long, fresh, request_answer_lem, request_after_lem}

-- ---- one entry

module _ (g : Made) (ss : List Slot) (w : ℕ) (m : State) (f : Follows g ss w m) where
  abbrev account : Book
  account = record { slots = ss }

  figures : figures_left m ≡ book_figures (making_of g) account
  figures =
      let free : m.free_left ≡ g.entries - 1 - length ss = omega (arith, f.free, f.free_left) in
      λ t. record { offset_count = f.rows t + 1; last_offset = f.used t; free_entries = free t; heap_bytes = f.heap_left t; bit_count = f.bits_left t }

  entry_answer_lem : (e : Entry) → entry_answer m e ≡ book_entry_answer (making_of g) account e
  entry_answer_lem (own r) = request_answer_lem g ss w m f r
  entry_answer_lem (elsewhere fs r) = ap (λ k. refuse_if (not (same_figures fs k)) (rule 1)) figures

  entry_after_lem : (e : Entry) → Follows g (book_entry_after (making_of g) account e).slots (wiped_entry (making_of g) account w e) (entry_after m e)
  entry_after_lem (own r) = subst (λ a. Follows g (ss ++ added_by a r) (wiped_entry (making_of g) account w (own r)) (step m r)) (request_answer_lem g ss w m f r) (request_after_lem g ss w m f r)
  entry_after_lem (elsewhere fs r) = f

  entry_added : (e : Entry) → ss ++ added_at m e ≡ (book_entry_after (making_of g) account e).slots
  entry_added (own r) = ap (λ a. ss ++ added_by a r) (request_answer_lem g ss w m f r)
  entry_added (elsewhere fs r) = append-nil ss

-- ---- all entries

pub answers_follow : (g : Made) (b : Book) (w : ℕ) (m : State) (es : List Entry) → Follows g b.slots w m → entry_answers m es ≡ book_answers (making_of g) b es
unfolding entry_answers book_answers
answers_follow g b w m [] f = refl
answers_follow g b w m (e ∷ es) f = λ t. entry_answer_lem g b.slots w m f e t ∷ answers_follow g (book_entry_after (making_of g) b e) (wiped_entry (making_of g) b w e) (entry_after m e) es (entry_after_lem g b.slots w m f e) t

pub state_follows : (g : Made) (b : Book) (w : ℕ) (m : State) (es : List Entry) → Follows g b.slots w m → Follows g (book_run (making_of g) b es).slots (wiped_run (making_of g) b w es) (state_after m es)
unfolding state_after book_run wiped_run
state_follows g b w m [] f = f
state_follows g b w m (e ∷ es) f = state_follows g (book_entry_after (making_of g) b e) (wiped_entry (making_of g) b w e) (entry_after m e) es (entry_after_lem g b.slots w m f e)

added_follow : (g : Made) (b : Book) (w : ℕ) (m : State) (es : List Entry) → Follows g b.slots w m → b.slots ++ added_slots m es ≡ (book_run (making_of g) b es).slots
unfolding added_slots book_run
added_follow g b w m [] f = append-nil b.slots
added_follow g b w m (e ∷ es) f =
    sym (append_assoc b.slots (added_at m e) (added_slots (entry_after m e) es))
    ∙ ap (λ l. l ++ added_slots (entry_after m e) es) (entry_added g b.slots w m f e)
    ∙ added_follow g (book_entry_after (making_of g) b e) (wiped_entry (making_of g) b w e) (entry_after m e) es (entry_after_lem g b.slots w m f e)

pub follows : (g : Made) (es : List Entry) → Follows g (book_run (making_of g) empty_book es).slots (wiped_run (making_of g) empty_book 0 es) (state_after (made_state g) es)
follows g es = state_follows g empty_book 0 (made_state g) es (fresh g)

pub added_slots_lem : (g : Made) (es : List Entry) → added_slots (made_state g) es ≡ (book_run (making_of g) empty_book es).slots
added_slots_lem g es = added_follow g empty_book 0 (made_state g) es (fresh g)

-- ---- what the memory shows

put_flags : (bits : List ℕ) (fs : List Bool) → length fs ≤ 8 * length bits → bit_flags (length fs) (put_bits bits 0 fs) ≡ fs
put_flags bits fs h = ext_get_or false (bit_flags (length fs) (put_bits bits 0 fs)) fs (length_bits (length fs) (put_bits bits 0 fs)) each
  where
    each : (k : ℕ) → k < length (bit_flags (length fs) (put_bits bits 0 fs)) → get_or (bit_flags (length fs) (put_bits bits 0 fs)) k false ≡ get_or fs k false
    each k lt =
        let l : k < length fs = omega (arith, length_bits (length fs) (put_bits bits 0 fs)) in
        let test : (leb 0 k && (ltb k (0 + length fs) && ltb k (8 * length bits))) ≡ true = grind (arith, nat_tests) in
        let at : k - 0 ≡ k = omega arith in
        flag_at (length fs) (put_bits bits 0 fs) k l ∙ bit_puts fs bits 0 k ∙ (λ t. cond (test t) (get_or fs (at t) false) (bit_at bits k))

module _ (g : Made) (ss : List Slot) (w : ℕ) (m : State) (f : Follows g ss w m) where
  pub row_flags_lem : bit_flags m.rows m.bits ≡ flags_of ss
  row_flags_lem =
      let long = length-map ss valid_of in
      let n : m.rows ≡ length (flags_of ss) = f.rows ∙ sym long in
      (λ t. bit_flags (n t) (f.bits t)) ∙ put_flags g.bits (flags_of ss) (omega (arith, f.rows_fit))

  pub used_part : take m.used m.heap ≡ heap_of ss
  used_part = (λ t. take (f.used t) (f.heap t)) ∙ take_at (heap_of ss) (replicate (w - byte_count ss) 0 ++ drop (max (byte_count ss) w) g.heap) (byte_count ss) (heap_bytes ss)

  rest_part : drop m.used m.heap ≡ replicate (w - m.used) 0 ++ drop (max m.used w) g.heap
  rest_part =
      (λ t. drop (f.used t) (f.heap t)) ∙ drop_at (heap_of ss) (replicate (w - byte_count ss) 0 ++ drop (max (byte_count ss) w) g.heap) (byte_count ss) (heap_bytes ss)
      ∙ sym (λ t. replicate (w - f.used t) 0 ++ drop (max (f.used t) w) g.heap)

  other_bit : (k : ℕ) → m.rows ≤ k → bit_at m.bits k ≡ bit_at g.bits k
  other_bit k h =
      let long = length-map ss valid_of in
      let test : (leb 0 k && (ltb k (0 + length (flags_of ss)) && ltb k (8 * length g.bits))) ≡ false = grind (arith, nat_tests, f.rows) in
      ap (λ l. bit_at l k) f.bits ∙ bit_puts (flags_of ss) g.bits 0 k ∙ ap (λ b. cond b (get_or (flags_of ss) (k - 0) false) (bit_at g.bits k)) test

  pub shown : Shows g ss w m
  shown = record {
    offsets = f.offsets;
    used_heap = used_part;
    row_bits = row_flags_lem;
    rows = f.rows;
    used = f.used;
    other_heap = rest_part;
    other_bits = other_bit;
    heap_length = heap_long g ss w m f;
    bits_length = bits_long g ss w m f;
    top = f.top;
    entries = omega (arith, f.free, f.rows);
  }

  pub column : column_of m ≡ record { offsets = offsets_from 0 ss; heap = heap_of ss; row_bits = flags_of ss }
  column = λ t. record { offsets = f.offsets t; heap = used_part t; row_bits = row_flags_lem t }

  pub finished : finished_state m ≡ finished_of g.nullable ss
  finished = λ t. record_of (f.nullable t) (f.rows t) (f.used t) (f.valid t)

-- ---- a column tells its slots

recut : ℕ → List ℕ → List Bool → List ℕ → List Slot
recut n [] fs heap = []
recut n (e ∷ es) [] heap = []
recut n (e ∷ es) (v ∷ fs) heap = slot v (take (e - n) heap) ∷ recut e es fs (drop (e - n) heap)

recut_is : (n : ℕ) (ss : List Slot) → recut n (ends_from n ss) (flags_of ss) (heap_of ss) ≡ ss
unfolding recut ends_from
recut_is n [] = refl
recut_is n (s ∷ ss) =
    let k = n + length s.content in
    let e : k - n ≡ length s.content = omega arith in
    (λ t. slot s.valid (take (e t) (s.content ++ heap_of ss)) ∷ recut k (ends_from k ss) (flags_of ss) (drop (e t) (s.content ++ heap_of ss)))
    ∙ (λ t. slot s.valid (take_at s.content (heap_of ss) (length s.content) refl t) ∷ recut k (ends_from k ss) (flags_of ss) (drop_at s.content (heap_of ss) (length s.content) refl t))
    ∙ ap (λ l. s ∷ l) (recut_is k ss)

slots_of : Column → List Slot
slots_of c = recut 0 (drop 1 c.offsets) c.row_bits c.heap

slots_are : (ss : List Slot) → slots_of (record { offsets = offsets_from 0 ss; heap = heap_of ss; row_bits = flags_of ss }) ≡ ss
unfolding slots_of
slots_are ss = recut_is 0 ss

module _ (g h : Made) (es fs : List Entry) where
  abbrev firsts : List Slot
  firsts = (book_run (making_of g) empty_book es).slots

  abbrev seconds : List Slot
  seconds = (book_run (making_of h) empty_book fs).slots

  first_column : column_of (state_after (made_state g) es) ≡ record { offsets = offsets_from 0 firsts; heap = heap_of firsts; row_bits = flags_of firsts }
  first_column = column g firsts (wiped_run (making_of g) empty_book 0 es) (state_after (made_state g) es) (follows g es)

  second_column : column_of (state_after (made_state h) fs) ≡ record { offsets = offsets_from 0 seconds; heap = heap_of seconds; row_bits = flags_of seconds }
  second_column = column h seconds (wiped_run (making_of h) empty_book 0 fs) (state_after (made_state h) fs) (follows h fs)

  pub same_column : added_slots (made_state g) es ≡ added_slots (made_state h) fs → column_of (state_after (made_state g) es) ≡ column_of (state_after (made_state h) fs)
  same_column e =
      let s : firsts ≡ seconds = sym (added_slots_lem g es) ∙ e ∙ added_slots_lem h fs in
      first_column ∙ (λ t. record { offsets = offsets_from 0 (s t); heap = heap_of (s t); row_bits = flags_of (s t) }) ∙ sym second_column

  pub same_slots : column_of (state_after (made_state g) es) ≡ column_of (state_after (made_state h) fs) → added_slots (made_state g) es ≡ added_slots (made_state h) fs
  same_slots e =
      added_slots_lem g es ∙ sym (slots_are firsts) ∙ ap slots_of (sym first_column ∙ e ∙ second_column) ∙ slots_are seconds ∙ sym (added_slots_lem h fs)

-- ---- other memory

refused_first : (m : State) (cs : List (Option Code)) → is_own_memory m ≡ false → first_refusal (memory_check m ∷ cs) ≡ Some (rule 1)
refused_first m cs e = ap (λ b. first_refusal (refuse_if (not b) (rule 1) ∷ cs)) e

pub other_memory : (m : State) (r : Request) → same_figures (figures_of m) (figures_left m) ≡ false → (request_answer m r ≡ Some (rule 1)) × (request_after m r (Some (rule 1)) ≡ m)
other_memory m (value bs) e = (refused_first m _ e, refl)
other_memory m (equal_values bs n) e = (refused_first m _ e, refl)
other_memory m (nulls n) e = (refused_first m _ e, refl)
other_memory m (values bs ends mask) e = (refused_first m _ e, refl)
other_memory m (decoding count slack zs mask means) e = (refused_first m _ e, ap (λ o. decoded m o (Some (rule 1)) (count + slack) (decoded_slots means zs mask)) (refused_first m _ e))
other_memory m (select rows s) e = (refused_first m _ e, refl)
