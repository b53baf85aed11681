-- The three ways of selecting agree, by the one meaning behind them.
use Rattle.std.proofs.Common.{◌≡◌, ℕ, ◌+◌, ◌-◌, ◌*◌, ◌<◌, ◌≤◌, min, Bool, true, false, not, ◌&&◌, eqb, ltb, List, [], ◌∷◌, ◌++◌, length, is_some, Some, None, Option, sym, refl, ap, ◌∙◌, subst, arith, length-append, length-drop, length-take}
use Rattle.std.specs.Option.{option_map}
use Rattle.std.proofs.lemmas.Bool.Decides.{nat_tests}
use Rattle.builder.specs.Calls.{space_for, appended, null_count}
use Rattle.builder.specs.Space.{is_own_memory, space_checks}
use Rattle.builder.specs.States.{State, put_bytes, add_slot, add_slots}
use Rattle.builder.proofs.RowBits.{row_bits}
use Rattle.builder.proofs.Spaces.{own, fits, space_answer, own_answer}
use Rattle.mask.proofs.Flags.{length_put}
use Rattle.ptype.specs.Searches.{first_not_below, total}
use Rattle.refusal.specs.Refusals.{Code, code, rule, refuse_if, first_refusal}
use Rattle.slots.specs.Rows.{Row}
use Rattle.slots.specs.Slots.{Slot, byte_count}
use Rattle.compute.specs.Agreement.{Holding, state_in, Owned, Alike, number_of, is_own_number, is_space_number, SelectionsAgree}
use Rattle.compute.specs.Indices.{picked_slots}
use Rattle.compute.specs.Selections.{Selection, by_number, by_run, by_mask, first_outside, selection_checks, selection_indices, unless_refused, expansion, select_answer, selected}

-- ---- own memory and alike: the same rows

-- what own memory tells of rows and bits
record Memory (m : State) : Type 0 where
  pub rows_are : length m.offsets ≡ m.rows + 1
  pub bits_are : length m.bits ≡ m.bits_left

memory : (m : State) → Owned m → Memory m
memory m e = by (is_own_memory m) refl e
  where
    by : (b : Bool) → is_own_memory m ≡ b → None ≡ refuse_if (not b) (rule 1) → Memory m
    by true y r = record { rows_are = grind (arith, nat_tests); bits_are = grind (arith, nat_tests) }
    by false y r = let z : ◌≡◌ {A = ℕ} 0 1 = cc in absurd (omega arith)

same_rows : (m n : State) → Owned m → Owned n → Alike m n → m.rows ≡ n.rows
same_rows m n o p a = omega (arith, (memory m o).rows_are, (memory n p).rows_are, ap length a.same_offsets)

-- ---- slots added to builders alike leave them alike

put_length : (heap : List ℕ) (at : ℕ) (bs : List ℕ) → length (put_bytes heap at bs) ≡ min at (length heap) + (length bs + (length heap - (at + length bs)))
put_length heap at bs = simp (length-append, length-take, length-drop) refl

module _ (m n : State) (s : Slot) (a : Alike m n) (r : m.rows ≡ n.rows) (p : m.rows < 8 * length m.bits) (q : n.rows < 8 * length n.bits) where
  alike_more : Alike (add_slot m s) (add_slot n s)
  alike_more = record {
    same_nullable = a.same_nullable;
    same_capacity = a.same_capacity;
    same_offsets = λ t. a.same_offsets t ++ (a.same_used t + length s.content) ∷ [];
    same_free = ap (λ k. k - 1) a.same_free;
    same_top = a.same_top;
    same_used = ap (λ k. k + length s.content) a.same_used;
    same_heap_length =
        put_length m.heap m.used s.content
        ∙ (λ t. min (a.same_used t) (a.same_heap_length t) + (length s.content + (a.same_heap_length t - (a.same_used t + length s.content))))
        ∙ sym (put_length n.heap n.used s.content);
    same_row_bits = row_bits m.bits m.rows s.valid p ∙ ap (λ fs. fs ++ s.valid ∷ []) a.same_row_bits ∙ sym (row_bits n.bits n.rows s.valid q);
  }

alike_adds : (m n : State) (ss : List Slot) → Alike m n → m.rows ≡ n.rows → m.rows + length ss ≤ 8 * length m.bits → n.rows + length ss ≤ 8 * length n.bits → Alike (add_slots m ss) (add_slots n ss)
unfolding add_slots
alike_adds m n [] a r p q = a
alike_adds m n (s ∷ ss) a r p q =
    let l = length_put m.bits m.rows s.valid in
    let k = length_put n.bits n.rows s.valid in
    alike_adds (add_slot m s) (add_slot n s) ss (alike_more m n s a r (omega arith) (omega arith)) (ap (λ i. i + 1) r) (omega arith) (omega arith)

-- ---- a selection that expands is judged by space alone

record Expands (count : ℕ) (s : Selection) (ns : List (Option ℕ)) : Type 0 where
  pub passes : None ≡ first_refusal (selection_checks count s)
  pub are : selection_indices s ≡ ns

expands : (count : ℕ) (s : Selection) (ns : List (Option ℕ)) → expansion count s ≡ Some ns → Expands count s ns
expands count s ns e = by (first_refusal (selection_checks count s)) refl e
  where
    by : (o : Option Code) → first_refusal (selection_checks count s) ≡ o → unless_refused o (selection_indices s) ≡ Some ns → Expands count s ns
    by None y r = record { passes = sym y; are = cc }
    by (Some c) y r = let z : ◌≡◌ {A = ℕ} 0 1 = cc in absurd (omega arith)

space_only : (m : State) (rows : List Row) (s : Selection) (ns : List (Option ℕ)) → Owned m → expansion (length rows) s ≡ Some ns → select_answer m rows s ≡ first_refusal (space_for m (picked_slots rows ns))
space_only m rows s ns o e =
    let x = expands (length rows) s ns e in
    sym (space_answer m (selection_checks (length rows) s) (picked_slots rows (selection_indices s)) (first_refusal (space_for m (picked_slots rows ns))) o x.passes (ap (λ l. first_refusal (space_for m (picked_slots rows l))) (sym x.are)))

-- what is known of a builder's figures, besides that its memory is its own
pub record Bounds (m : State) : Type 0 where
  pub entries : m.capacity ≤ m.free_left + m.rows
  pub bits : m.capacity ≤ 8 * m.bits_left

module _ (m n : State) (rows : List Row) (s t : Selection) (ns : List (Option ℕ)) (x : expansion (length rows) s ≡ Some ns) (y : expansion (length rows) t ≡ Some ns) (o : Owned m) (p : Owned n) (a : Alike m n) (b : Bounds m) (d : Bounds n) where
  abbrev slots : List Slot
  slots = picked_slots rows ns

  spaces : first_refusal (space_for m slots) ≡ first_refusal (space_for n slots)
  spaces =
      let r = same_rows m n o p a in
      λ j. first_refusal (space_checks (a.same_nullable j) (a.same_capacity j) (r j) (a.same_used j) (a.same_heap_length j) (a.same_top j) (length slots) (null_count slots) (byte_count slots) (byte_count slots))

  pub same_answers : select_answer m rows s ≡ select_answer n rows t
  same_answers = space_only m rows s ns o x ∙ spaces ∙ sym (space_only n rows t ns p y)

  -- the rows of accepted slots have bits
  has_bits : (k : State) → Owned k → Bounds k → None ≡ first_refusal (space_for k slots) → k.rows + length slots ≤ 8 * length k.bits
  has_bits k q c none = omega (arith, (fits k slots (own k q) c.entries none).rows, (memory k q).bits_are, c.bits)

  after : (z : Option Code) → first_refusal (space_for m slots) ≡ z → Alike (appended m z slots) (appended n z slots)
  after (Some c) e = a
  after None e = alike_adds m n slots a (same_rows m n o p a) (has_bits m o b (sym e)) (has_bits n p d (sym e ∙ spaces))

  pub alike_after : Alike (selected m rows s (select_answer m rows s)) (selected n rows t (select_answer n rows t))
  alike_after =
      let u = expands (length rows) s ns x in
      let v = expands (length rows) t ns y in
      let z = first_refusal (space_for m slots) in
      subst (λ k. Alike k (selected n rows t (select_answer n rows t)))
      (λ j. appended m (sym (space_only m rows s ns o x) j) (picked_slots rows (sym u.are j)))
      (subst (Alike (appended m z slots))
      (λ j. appended n ((spaces ∙ sym (space_only n rows t ns p y)) j) (picked_slots rows (sym v.are j)))
      (after z refl))

bounds : (h : Holding) → Bounds (state_in h)
bounds h = record { entries = h.builder.entries; bits = h.builder.bits }

-- ---- which numbers can come

-- each refusal among the checks has a number that passes the test
numbered : (ℕ → Bool) → List (Option Code) → Bool
numbered p [] = true
numbered p (None ∷ cs) = numbered p cs
numbered p (Some c ∷ cs) = p c.number && numbered p cs

numbered_if : (p : ℕ → Bool) (n : ℕ) (b : Bool) (cs : List (Option Code)) → p n ≡ true → numbered p cs ≡ true → numbered p (refuse_if b (rule n) ∷ cs) ≡ true
unfolding numbered
numbered_if p n true cs e r = (λ t. e t && r t)
numbered_if p n false cs e r = r

numbered_at : (p : ℕ → Bool) (n : ℕ) (o : Option ℕ) (cs : List (Option Code)) → p n ≡ true → numbered p cs ≡ true → numbered p (option_map (λ i. code n i 0) o ∷ cs) ≡ true
unfolding numbered
numbered_at p n None cs e r = r
numbered_at p n (Some i) cs e r = (λ t. e t && r t)

first_number : (p : ℕ → Bool) (cs : List (Option Code)) (c : Code) → numbered p cs ≡ true → first_refusal cs ≡ Some c → p c.number ≡ true
unfolding numbered
first_number p [] c e f = let z : ◌≡◌ {A = ℕ} 0 1 = cc in absurd (omega arith)
first_number p (None ∷ cs) c e f = first_number p cs c e f
first_number p (Some d ∷ cs) c e f = let s : d ≡ c = cc in ap (λ x. p x.number) (sym s) ∙ left (p d.number) (numbered p cs) e
  where
    left : (a b : Bool) → (a && b) ≡ true → a ≡ true
    left true b e = refl
    left false b e = e

own_checks : (count : ℕ) (s : Selection) → numbered is_own_number (selection_checks count s) ≡ true
unfolding numbered
own_checks count (by_number zs fs enough) = numbered_if is_own_number 6 (not (eqb (length zs) (length fs) && enough)) _ refl (numbered_at is_own_number 11 (first_not_below count 0 fs zs) [] refl refl)
own_checks count (by_run zs ls declared) = numbered_if is_own_number 6 (not (eqb (length zs) (length ls))) _ refl (numbered_at is_own_number 11 (first_outside count 0 zs ls) _ refl (numbered_if is_own_number 8 (not (eqb (total ls) declared)) [] refl refl))
own_checks count (by_mask fs enough) = numbered_if is_own_number 6 (not enough) _ refl (numbered_if is_own_number 12 (not (eqb (length fs) count)) [] refl refl)

space_checks_lem : (m : State) (ss : List Slot) → numbered is_space_number (space_for m ss) ≡ true
unfolding numbered
space_checks_lem m ss =
    numbered_if is_space_number 5 (not m.nullable && ltb 0 (null_count ss)) _ refl
    (numbered_if is_space_number 2 (ltb m.capacity (m.rows + length ss)) _ refl
    (numbered_if is_space_number 3 (ltb (length m.heap) (m.used + byte_count ss)) _ refl
    (numbered_if is_space_number 4 (ltb m.top (m.used + byte_count ss)) [] refl refl)))

space_number : (m : State) (ss : List Slot) → is_space_number (number_of (first_refusal (space_for m ss))) ≡ true
space_number m ss = by (first_refusal (space_for m ss)) refl
  where
    by : (o : Option Code) → first_refusal (space_for m ss) ≡ o → is_space_number (number_of o) ≡ true
    by None e = refl
    by (Some c) e = first_number is_space_number (space_for m ss) c (space_checks_lem m ss) e

not_both : (n : ℕ) → is_space_number n ≡ true → is_own_number n ≡ false
not_both n e = grind (arith, nat_tests)

module _ (m : State) (rows : List Row) (s : Selection) (o : Owned m) where
  by_own : (c : Code) → first_refusal (selection_checks (length rows) s) ≡ Some c → is_own_number (number_of (select_answer m rows s)) ≡ true
  by_own c e = ap (λ a. is_own_number (number_of a)) (sym (own_answer m (selection_checks (length rows) s) (picked_slots rows (selection_indices s)) c o (sym e))) ∙ first_number is_own_number (selection_checks (length rows) s) c (own_checks (length rows) s) e

  by_space : None ≡ first_refusal (selection_checks (length rows) s) → is_space_number (number_of (select_answer m rows s)) ≡ true
  by_space e =
      let ss = picked_slots rows (selection_indices s) in
      ap (λ a. is_space_number (number_of a)) (sym (space_answer m (selection_checks (length rows) s) ss (first_refusal (space_for m ss)) o e refl)) ∙ space_number m ss

  own_numbers : is_own_number (number_of (select_answer m rows s)) ≡ not (is_some (expansion (length rows) s))
  own_numbers = by (first_refusal (selection_checks (length rows) s)) refl
    where
      by : (f : Option Code) → first_refusal (selection_checks (length rows) s) ≡ f → is_own_number (number_of (select_answer m rows s)) ≡ not (is_some (unless_refused f (selection_indices s)))
      by None e = not_both (number_of (select_answer m rows s)) (by_space (sym e))
      by (Some c) e = by_own c e

  else : is_some (expansion (length rows) s) ≡ true → is_space_number (number_of (select_answer m rows s)) ≡ true
  else y = by (first_refusal (selection_checks (length rows) s)) refl y
    where
      by : (f : Option Code) → first_refusal (selection_checks (length rows) s) ≡ f → is_some (unless_refused f (selection_indices s)) ≡ true → is_space_number (number_of (select_answer m rows s)) ≡ true
      by None e y = by_space (sym e)
      by (Some c) e y = let z : ◌≡◌ {A = ℕ} 0 1 = cc in absurd (omega arith)

pub selections_agree : SelectionsAgree
selections_agree = record {
  same_answer = λ h k rows s t i. same_answers (state_in h) (state_in k) rows s t i.indices i.first_expands i.second_expands i.first_owned i.second_owned i.alike (bounds h) (bounds k);
  alike_after = λ h k rows s t i. alike_after (state_in h) (state_in k) rows s t i.indices i.first_expands i.second_expands i.first_owned i.second_owned i.alike (bounds h) (bounds k);
  own_refusals = own_numbers;
  else_space = else;
}
