-- One row index more, by number, by mask and by run; and where each ends.
use Rattle.std.proofs.Common.{◌≡◌, ℕ, zero, suc, ◌+◌, ◌-◌, ◌*◌, ◌<◌, ◌≤◌, Bool, true, false, cond, List, [], ◌∷◌, ◌++◌, map, length, get_or, drop, replicate, ℤ, pos, Some, None, Option, unwrap_or, sym, refl, ap, ◌∙◌, ⊎_elim, suc-mul, arith, length-drop}
use Rattle.std.specs.Iterator.{MakesProgress, item_count}
use Rattle.std.specs.Option.{SomeIff}
use Rattle.std.proofs.lemmas.List.{drop_more, drop_all, drop-drop, get_or_past}
use Rattle.std.proofs.lemmas.Option.{slice_get_past}
use Rattle.std.proofs.lemmas.Bool.{cases_lt}
use Rattle.std.proofs.lemmas.Bool.Decides.{nat_tests}
use Rattle.builder.specs.Surveys.{in_word}
use Rattle.mask.specs.Masks.{first_set, next_set}
use Rattle.ptype.specs.Integers.{amount, amount_at}
use Rattle.ptype.specs.Searches.{total, in_u64}
use Rattle.ptype.proofs.Steps.{fits, fits_not}
use Rattle.slots.specs.Rows.{Row, null}
use Rattle.slots.specs.Slots.{row_slot}
use Rattle.compute.specs.Indices.{take_indices, run_indices, gather_indices, filter_indices, in_word_index, rest_indices, runs_left, picked_row, picked_slots}
use Rattle.compute.specs.Selections.{is_inside, first_outside}

-- ---- reading an item

-- one item less is left, whatever the list
pub goes : {S A : Type 0} {can : S → Type 0} (rest : S → List A) (s t : S) (x : A) → can t → rest s ≡ x ∷ rest t → MakesProgress can (item_count rest) s (Some x) t
goes rest s t x may e = record { on = λ _. (may, tt, omega (arith, ap length e)); keeps = may; rests = λ _. tt }

-- ---- by number

module _ (i : ℕ) (zs : List ℤ) (fs : List Bool) where
  take_here : (f : Bool) → i < length zs → i < length fs → f ≡ get_or fs i false → take_indices (drop i fs) (drop i zs) ≡ take_indices (f ∷ drop (i + 1) fs) (get_or zs i (pos 0) ∷ drop (i + 1) zs)
  take_here f h k e = (λ t. take_indices (drop_more fs i false k t) (drop_more zs i (pos 0) h t)) ∙ sym (ap (λ b. take_indices (b ∷ drop (i + 1) fs) (get_or zs i (pos 0) ∷ drop (i + 1) zs)) e)

  pub take_set : (n : ℕ) → i < length zs → i < length fs → true ≡ get_or fs i false → n ≡ amount_at zs i → take_indices (drop i fs) (drop i zs) ≡ Some n ∷ take_indices (drop (i + 1) fs) (drop (i + 1) zs)
  unfolding take_indices
  take_set n h k e is = take_here true h k e ∙ sym (ap (λ j. Some j ∷ take_indices (drop (i + 1) fs) (drop (i + 1) zs)) is)

  pub take_unset : i < length zs → i < length fs → false ≡ get_or fs i false → take_indices (drop i fs) (drop i zs) ≡ None ∷ take_indices (drop (i + 1) fs) (drop (i + 1) zs)
  unfolding take_indices
  take_unset h k e = take_here false h k e

  pub take_no_flag : length fs ≤ i → take_indices (drop i fs) (drop i zs) ≡ []
  unfolding take_indices
  take_no_flag h = ap (λ gs. take_indices gs (drop i zs)) (drop_all i fs h)

  pub take_no_number : length zs ≤ i → take_indices (drop i fs) (drop i zs) ≡ []
  unfolding take_indices
  take_no_number h = ap (take_indices (drop i fs)) (drop_all i zs h) ∙ none (drop i fs)
    where
      none : (gs : List Bool) → take_indices gs [] ≡ []
      none [] = refl
      none (g ∷ gs) = refl

-- ---- by mask

filter_none : (p : ℕ) (fs : List Bool) → None ≡ first_set p fs → filter_indices p fs ≡ []
unfolding filter_indices
filter_none p [] e = refl
filter_none p (true ∷ fs) e = let z : ◌≡◌ {A = ℕ} 0 1 = cc in absurd (omega arith)
filter_none p (false ∷ fs) e = filter_none (p + 1) fs e

record First (p i : ℕ) (fs : List Bool) : Type 0 where
  pub low : p ≤ i
  pub high : i < p + length fs
  pub is : filter_indices p fs ≡ Some i ∷ filter_indices (i + 1) (drop (i + 1 - p) fs)

filter_some : (p i : ℕ) (fs : List Bool) → Some i ≡ first_set p fs → First p i fs
unfolding filter_indices
filter_some p i [] e = let z : ◌≡◌ {A = ℕ} 0 1 = cc in absurd (omega arith)
filter_some p i (true ∷ fs) e =
    let s : i ≡ p = cc in
    let n : i + 1 - p ≡ 1 = omega arith in
    record { low = omega arith; high = omega arith; is = (λ t. Some (sym s t) ∷ filter_indices (sym s t + 1) fs) ∙ sym (ap (λ k. Some i ∷ filter_indices (i + 1) (drop k (true ∷ fs))) n) }
filter_some p i (false ∷ fs) e =
    let r = filter_some (p + 1) i fs e in
    let low = r.low in
    let n : i + 1 - p ≡ suc (i + 1 - (p + 1)) = omega arith in
    record { low = omega arith; high = omega (arith, r.high); is = r.is ∙ sym (ap (λ k. Some i ∷ filter_indices (i + 1) (drop k (false ∷ fs))) n) }

pub mask_none : (from : ℕ) (fs : List Bool) → None ≡ next_set from fs → filter_indices from (drop from fs) ≡ []
mask_none from fs e = filter_none from (drop from fs) e

pub mask_past : (from : ℕ) (fs : List Bool) → length fs ≤ from → filter_indices from (drop from fs) ≡ []
unfolding filter_indices
mask_past from fs h = ap (filter_indices from) (drop_all from fs h)

pub mask_below : (from i : ℕ) (fs : List Bool) → Some i ≡ next_set from fs → i < from + (length fs - from)
mask_below from i fs e = omega (arith, (filter_some from i (drop from fs) e).high, length-drop from fs)

pub mask_some : (from i : ℕ) (fs : List Bool) → Some i ≡ next_set from fs → filter_indices from (drop from fs) ≡ Some i ∷ filter_indices (i + 1) (drop (i + 1) fs)
mask_some from i fs e =
    let r = filter_some from i (drop from fs) e in
    let low = r.low in
    let n : from + (i + 1 - from) ≡ i + 1 = omega arith in
    r.is ∙ ap (λ l. Some i ∷ filter_indices (i + 1) l) (drop-drop (i + 1 - from) from fs ∙ ap (λ k. drop k fs) n)

-- ---- by run

-- what stands past the last length counts 0
past_amount : (zs : List ℤ) (i : ℕ) → length zs ≤ i → amount_at zs i ≡ 0
past_amount zs i h = ap amount (get_or_past zs i (pos 0) h)

no_rest : (zs : List ℤ) (row : ℕ) → rest_indices zs [] row ≡ []
unfolding rest_indices
no_rest [] row = refl
no_rest (z ∷ zs) row = refl

-- of runs of which nothing was read, all is left
pub rest_none : (zs ls : List ℤ) → rest_indices zs ls 0 ≡ gather_indices zs ls
unfolding rest_indices gather_indices
rest_none [] ls = refl
rest_none (z ∷ zs) [] = refl
rest_none (z ∷ zs) (n ∷ ls) =
    let a : amount z + 0 ≡ amount z = omega arith in
    let b : amount n - 0 ≡ amount n = omega arith in
    λ t. run_indices (a t) (b t) ++ gather_indices zs ls

module _ (run row : ℕ) (zs ls : List ℤ) (h : run < length zs) where
  here : run < length ls → rest_indices (drop run zs) (drop run ls) row ≡ run_indices (amount_at zs run + row) (amount_at ls run - row) ++ gather_indices (drop (run + 1) zs) (drop (run + 1) ls)
  unfolding rest_indices
  here k = λ t. rest_indices (drop_more zs run (pos 0) h t) (drop_more ls run (pos 0) k t) row

  here_next : run < length ls → rest_indices (drop run zs) (drop run ls) (row + 1) ≡ run_indices (amount_at zs run + (row + 1)) (amount_at ls run - (row + 1)) ++ gather_indices (drop (run + 1) zs) (drop (run + 1) ls)
  unfolding rest_indices
  here_next k = λ t. rest_indices (drop_more zs run (pos 0) h t) (drop_more ls run (pos 0) k t) (row + 1)

  -- one row of a run
  pub run_row : (len n : ℕ) → len ≡ amount_at ls run → row < len → n ≡ in_word (amount_at zs run + row) → runs_left run row zs ls ≡ Some n ∷ runs_left run (row + 1) zs ls
  run_row len n l lt e =
      ⊎_elim
      (λ (k : run < length ls).
      let c : amount_at ls run - row ≡ suc (amount_at ls run - (row + 1)) = omega arith in
      let d : amount_at zs run + row + 1 ≡ amount_at zs run + (row + 1) = omega arith in
      ap (map in_word_index) (here k ∙ ap (λ j. run_indices (amount_at zs run + row) j ++ gather_indices (drop (run + 1) zs) (drop (run + 1) ls)) c)
      ∙ (λ t. Some (sym e t) ∷ map in_word_index (run_indices (d t) (amount_at ls run - (row + 1)) ++ gather_indices (drop (run + 1) zs) (drop (run + 1) ls)))
      ∙ ap (λ l. Some n ∷ map in_word_index l) (sym (here_next k)))
      (λ (k : length ls ≤ run). absurd (omega (arith, past_amount ls run k)))
      (cases_lt run (length ls))

  -- a run without rows left gives way to the next
  pub run_next : (len : ℕ) → len ≡ amount_at ls run → len ≤ row → runs_left run row zs ls ≡ runs_left (run + 1) 0 zs ls
  run_next len l le =
      ap (map in_word_index)
      (⊎_elim
      (λ (k : run < length ls).
      let c : amount_at ls run - row ≡ 0 = omega arith in
      here k ∙ ap (λ j. run_indices (amount_at zs run + row) j ++ gather_indices (drop (run + 1) zs) (drop (run + 1) ls)) c ∙ sym (rest_none (drop (run + 1) zs) (drop (run + 1) ls)))
      (λ (k : length ls ≤ run).
      ap (λ l. rest_indices (drop run zs) l row) (drop_all run ls k) ∙ no_rest (drop run zs) row
      ∙ sym (ap (λ l. rest_indices (drop (run + 1) zs) l 0) (drop_all (run + 1) ls (omega arith)) ∙ no_rest (drop (run + 1) zs) 0))
      (cases_lt run (length ls)))

pub run_all : (run row : ℕ) (zs ls : List ℤ) → length zs ≤ run → runs_left run row zs ls ≡ []
unfolding rest_indices
run_all run row zs ls h = ap (λ l. map in_word_index (rest_indices l (drop run ls) row)) (drop_all run zs h)

-- no source has a row past 64 bits, so its rows are picked alike
pub same_picked : (rows : List Row) (ns : List (Option ℕ)) → length rows ≤ 18446744073709551615 → picked_slots rows (map in_word_index ns) ≡ picked_slots rows ns
same_picked rows [] h = refl
same_picked rows (None ∷ ns) h = ap (λ l. row_slot null ∷ l) (same_picked rows ns h)
same_picked rows (Some i ∷ ns) h = λ t. row_slot (row t) ∷ same_picked rows ns h t
  where
    row : picked_row rows (Some (in_word i)) ≡ picked_row rows (Some i)
    row =
        ⊎_elim
        (λ (k : i < 18446744073709551616). let w : in_word i ≡ i = omega arith in ap (λ j. picked_row rows (Some j)) w)
        (λ (k : 18446744073709551616 ≤ i). ap (λ o. unwrap_or o null) (slice_get_past rows (in_word i) (omega arith) ∙ sym (slice_get_past rows i (omega arith))))
        (cases_lt i 18446744073709551616)

-- ---- the search for a run that leaves the source

no_run : (count p : ℕ) (zs : List ℤ) → first_outside count p zs [] ≡ None
unfolding first_outside
no_run count p [] = refl
no_run count p (z ∷ zs) = refl

outside_here : (count i : ℕ) (zs ls : List ℤ) → i < length zs → first_outside count i (drop i zs) (drop i ls) ≡ cond (is_inside count (amount_at zs i) (amount_at ls i)) (first_outside count (i + 1) (drop (i + 1) zs) (drop (i + 1) ls)) (Some i)
unfolding first_outside
outside_here count i zs ls h =
    ⊎_elim
    (λ (k : i < length ls). λ t. first_outside count i (drop_more zs i (pos 0) h t) (drop_more ls i (pos 0) k t))
    (λ (k : length ls ≤ i).
    ap (first_outside count i (drop i zs)) (drop_all i ls k) ∙ no_run count i (drop i zs)
    ∙ sym ((λ t. cond (is_inside count (amount_at zs i) (past_amount ls i k t)) (first_outside count (i + 1) (drop (i + 1) zs) (drop_all (i + 1) ls (omega arith) t)) (Some i)) ∙ no_run count (i + 1) (drop (i + 1) zs)))
    (cases_lt i (length ls))

-- the same by what was read of the run
module _ (count i start len : ℕ) (zs ls : List ℤ) (h : i < length zs) (s : start ≡ amount_at zs i) (n : len ≡ amount_at ls i) where
  pub outside_next : is_inside count start len ≡ true → first_outside count (i + 1) (drop (i + 1) zs) (drop (i + 1) ls) ≡ first_outside count i (drop i zs) (drop i ls)
  outside_next e = sym (outside_here count i zs ls h ∙ ap (λ b. cond b (first_outside count (i + 1) (drop (i + 1) zs) (drop (i + 1) ls)) (Some i)) ((λ t. is_inside count (sym s t) (sym n t)) ∙ e))

  pub outside_found : is_inside count start len ≡ false → Some i ≡ first_outside count i (drop i zs) (drop i ls)
  outside_found e = sym (outside_here count i zs ls h ∙ ap (λ b. cond b (first_outside count (i + 1) (drop (i + 1) zs) (drop (i + 1) ls)) (Some i)) ((λ t. is_inside count (sym s t) (sym n t)) ∙ e))

pub outside_all : (count i : ℕ) (zs ls : List ℤ) → length zs ≤ i → first_outside count i (drop i zs) ls ≡ None
unfolding first_outside
outside_all count i zs ls h = ap (λ l. first_outside count i l ls) (drop_all i zs h)

pub inside_by : (count start len : ℕ) → len ≤ count - start → is_inside count start len ≡ true
inside_by count start len h = grind (arith, nat_tests)

pub outside_start : (count start len : ℕ) → count ≤ start → 0 < len → is_inside count start len ≡ false
outside_start count start len h k = grind (arith, nat_tests)

pub outside_row : (count start len j : ℕ) → count - start ≤ j → j < len → start < count → is_inside count start len ≡ false
outside_row count start len j h k s = grind (arith, nat_tests)

-- ---- the same length for all runs

pub total_same : (k n : ℕ) → total (replicate k (pos n)) ≡ k * n
unfolding total
total_same zero n = sym (omega arith)
total_same (suc k) n = ap (λ t. n + t) (total_same k n) ∙ omega (arith, suc-mul k n)

pub checked_fits : (n : ℕ) (r : Option ℕ) → SomeIff r (n < 18446744073709551616) n → r ≡ in_u64 n
checked_fits n None c = ⊎_elim (λ (h : n < 18446744073709551616). absurd (c h)) (λ (h : 18446744073709551616 ≤ n). fits_not n h) (cases_lt n 18446744073709551616)
checked_fits n (Some x) c = fits x n (omega (arith, c.0, c.1)) c.1
