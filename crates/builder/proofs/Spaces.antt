-- What it tells that the shared checks accept, and what a call is answered by the survey of its slots.
use Rattle.std.proofs.Common.{◌≡◌, ℕ, zero, suc, ◌+◌, ◌*◌, ◌<◌, ◌≤◌, min, Bool, true, false, cond, not, ◌&&◌, ltb, List, [], ◌∷◌, ◌++◌, length, replicate, Some, None, Option, sym, refl, ap, ◌∙◌, ⊎_elim, suc-mul, arith}
use lib.ListN.{length-replicate}
use Rattle.std.proofs.lemmas.Bool.{cases_lt, ltb-true, ltb-false, lt-ltb}
use Rattle.std.proofs.lemmas.Bool.Decides.{nat_tests, same_from_decides, Decides-like}
use Rattle.refusal.specs.Refusals.{Code, rule, refuse_if, first_refusal}
use Rattle.slots.specs.Slots.{Slot, byte_count}
use Rattle.builder.specs.Calls.{space_for, append_answer, Fits, null_count}
use Rattle.builder.specs.Space.{is_own_memory, memory_check, space_checks}
use Rattle.builder.specs.States.{State}
use Rattle.builder.specs.Surveys.{in_word, survey_of}
use Rattle.builder.specs.declared.survey.Survey.{Survey}

-- ---- checks that did not refuse

pub record Passed (b : Bool) (cs : List (Option Code)) : Type 0 where
  pub here : b ≡ false
  pub rest : None ≡ first_refusal cs

pub passed : (b : Bool) (c : Code) (cs : List (Option Code)) → None ≡ first_refusal (refuse_if b c ∷ cs) → Passed b cs
passed true c cs e = let z : ◌≡◌ {A = ℕ} 0 1 = cc in absurd (omega arith)
passed false c cs e = record { here = refl; rest = e }

-- own memory has the entries and the heap that the builder was left with
pub record Own (m : State) : Type 0 where
  pub free : m.free ≡ m.free_left
  pub heap : length m.heap ≡ m.heap_left

pub own : (m : State) → None ≡ memory_check m → Own m
own m e = let p = (passed (not (is_own_memory m)) (rule 1) [] (single (memory_check m) e)).here in record { free = grind (arith, nat_tests); heap = grind (arith, nat_tests) }
  where
    single : (o : Option Code) → None ≡ o → None ≡ first_refusal (o ∷ [])
    single None e = refl
    single (Some c) e = e

pub fits : (m : State) (ss : List Slot) → Own m → m.capacity ≤ m.free_left + m.rows → None ≡ first_refusal (space_for m ss) → Fits m ss
fits m ss o entries e =
    let a = passed (not m.nullable && ltb 0 (null_count ss)) _ _ e in
    let b = passed (ltb m.capacity (m.rows + length ss)) _ _ a.rest in
    let c = passed (ltb (length m.heap) (m.used + byte_count ss)) _ _ b.rest in
    let d = passed (ltb m.top (m.used + byte_count ss)) _ _ c.rest in
    let rows = ltb-false m.capacity (m.rows + length ss) b.here in
    let bytes = ltb-false (length m.heap) (m.used + byte_count ss) c.here in
    record { entries = omega (arith, o.free); rows = rows; heap = bytes; left = omega (arith, o.heap); below = ltb-false m.top (m.used + byte_count ss) d.here }

-- ---- figures that are held to 64 bits are judged as the figures themselves

same_test : (a b c d : ℕ) → (a < b → c < d) → (c < d → a < b) → ltb a b ≡ ltb c d
same_test a b c d f g = same_from_decides (ltb a b) (ltb c d) (Decides-like (ltb a b) f g (ltb-true a b, lt-ltb a b)) (ltb-true c d, lt-ltb c d)

module _ (nullable : Bool) (capacity held used heap top rows nulls bytes asked : ℕ) (few : heap ≤ 68719476736) (small : capacity ≤ 16777216) (over : bytes ≤ asked) where
  abbrev judged : Bool → Bool → Bool → Bool → Option Code
  judged null row byte end = first_refusal (refuse_if (not nullable && null) (rule 5) ∷ refuse_if row (rule 2) ∷ refuse_if byte (rule 3) ∷ refuse_if end (rule 4) ∷ [])

  full : (null row byte end other : Bool) → byte ≡ true → judged null row byte end ≡ judged null row byte other
  full null row byte end other e = ap (λ t. judged null row t end) e ∙ two (not nullable && null) row ∙ sym (ap (λ t. judged null row t other) e)
    where
      two : (p q : Bool) → first_refusal (refuse_if p (rule 5) ∷ refuse_if q (rule 2) ∷ Some (rule 3) ∷ refuse_if end (rule 4) ∷ []) ≡ first_refusal (refuse_if p (rule 5) ∷ refuse_if q (rule 2) ∷ Some (rule 3) ∷ refuse_if other (rule 4) ∷ [])
      two true q = refl
      two false true = refl
      two false false = refl

  pub in_words : first_refusal (space_checks nullable capacity held used heap top (in_word rows) (in_word nulls) (in_word bytes) (in_word asked)) ≡ first_refusal (space_checks nullable capacity held used heap top rows nulls bytes asked)
  in_words =
      let a = same_test 0 (in_word nulls) 0 nulls (λ h. omega arith) (λ h. omega arith) in
      let b = same_test capacity (held + in_word rows) capacity (held + rows) (λ h. omega arith) (λ h. omega arith) in
      let c = same_test heap (used + in_word asked) heap (used + asked) (λ h. omega arith) (λ h. omega arith) in
      (λ k. judged (a k) (b k) (c k) (ltb top (used + in_word bytes)))
      ∙ ⊎_elim
      (λ (h : bytes < 18446744073709551616). let e : in_word bytes ≡ bytes = omega arith in ap (λ n. judged (ltb 0 nulls) (ltb capacity (held + rows)) (ltb heap (used + asked)) (ltb top (used + n))) e)
      (λ (h : 18446744073709551616 ≤ bytes). full (ltb 0 nulls) (ltb capacity (held + rows)) (ltb heap (used + asked)) (ltb top (used + in_word bytes)) (ltb top (used + bytes)) (lt-ltb heap (used + asked) (omega arith)))
      (cases_lt bytes 18446744073709551616)

-- ---- checks in a row

pub first_none : (o : Option Code) (cs : List (Option Code)) (r : Option Code) → None ≡ o → r ≡ first_refusal cs → r ≡ first_refusal (o ∷ cs)
first_none None cs r e is = is
first_none (Some c) cs r e is = let z : ◌≡◌ {A = ℕ} 0 1 = cc in absurd (omega arith)

pub first_some : (o : Option Code) (cs : List (Option Code)) (c : Code) → Some c ≡ o → Some c ≡ first_refusal (o ∷ cs)
first_some None cs c e = let z : ◌≡◌ {A = ℕ} 0 1 = cc in absurd (omega arith)
first_some (Some d) cs c e = e

pub after_none : (cs ds : List (Option Code)) (r : Option Code) → None ≡ first_refusal cs → r ≡ first_refusal ds → r ≡ first_refusal (cs ++ ds)
after_none [] ds r e is = is
after_none (None ∷ cs) ds r e is = after_none cs ds r e is
after_none (Some c ∷ cs) ds r e is = let z : ◌≡◌ {A = ℕ} 0 1 = cc in absurd (omega arith)

pub before_some : (cs ds : List (Option Code)) (c : Code) → Some c ≡ first_refusal cs → Some c ≡ first_refusal (cs ++ ds)
before_some [] ds c e = let z : ◌≡◌ {A = ℕ} 0 1 = cc in absurd (omega arith)
before_some (None ∷ cs) ds c e = before_some cs ds c e
before_some (Some d ∷ cs) ds c e = e

-- ---- what a call is answered whose memory is its own, and whose survey is that of its slots

-- a call that only space can turn down
pub space_answer : (m : State) (checks : List (Option Code)) (ss : List Slot) (r : Option Code) → None ≡ memory_check m → None ≡ first_refusal checks → r ≡ first_refusal (space_for m ss) → r ≡ append_answer m checks ss
space_answer m checks ss r memory none e = first_none (memory_check m) (checks ++ space_for m ss) r memory (after_none checks (space_for m ss) r none e)

-- the state is that of a builder: figures within the limits
pub record Limits (m : State) : Type 0 where
  pub few : m.heap_left ≤ 68719476736
  pub small : m.capacity ≤ 16777216
  pub entries : m.capacity ≤ m.free_left + m.rows

module _ (m : State) (ss : List Slot) (survey : Survey) (limits : Limits m) (own_memory : None ≡ memory_check m) (is : survey ≡ survey_of ss) where
  abbrev pub judged_survey : Option Code
  judged_survey = first_refusal (space_checks m.nullable m.capacity m.rows m.used (length m.heap) m.top survey.rows survey.nulls survey.bytes survey.bytes)

  figures : judged_survey ≡ first_refusal (space_for m ss)
  figures =
      ap (λ (v : Survey). first_refusal (space_checks m.nullable m.capacity m.rows m.used (length m.heap) m.top v.rows v.nulls v.bytes v.bytes)) is
      ∙ in_words m.nullable m.capacity m.rows m.used (length m.heap) m.top (length ss) (null_count ss) (byte_count ss) (byte_count ss) (omega (arith, (own m own_memory).heap, limits.few)) limits.small (omega arith)

  pub survey_fits : None ≡ judged_survey → Fits m ss
  survey_fits e = fits m ss (own m own_memory) limits.entries (e ∙ figures)

  pub survey_space : (r : Option Code) → r ≡ judged_survey → r ≡ first_refusal (space_for m ss)
  survey_space r e = e ∙ figures

  pub survey_answer : (checks : List (Option Code)) (r : Option Code) → None ≡ first_refusal checks → r ≡ judged_survey → r ≡ append_answer m checks ss
  survey_answer checks r none e = space_answer m checks ss r own_memory none (survey_space r e)

-- a call that its own checks turn down
pub own_answer : (m : State) (checks : List (Option Code)) (ss : List Slot) (c : Code) → None ≡ memory_check m → Some c ≡ first_refusal checks → Some c ≡ append_answer m checks ss
own_answer m checks ss c none e = first_none (memory_check m) (checks ++ space_for m ss) (Some c) none (before_some checks (space_for m ss) c e)

-- ---- equal slots

bytes_equal : (n : ℕ) (s : Slot) → byte_count (replicate n s) ≡ n * length s.content
unfolding byte_count
bytes_equal zero s = sym (omega arith)
bytes_equal (suc n) s = ap (λ k. length s.content + k) (bytes_equal n s) ∙ omega (arith, suc-mul n (length s.content))

nulls_equal : (n : ℕ) (s : Slot) → null_count (replicate n s) ≡ cond s.valid 0 n
unfolding null_count
nulls_equal zero s = by s.valid
  where
    by : (b : Bool) → ◌≡◌ {A = ℕ} 0 (cond b 0 0)
    by true = refl
    by false = refl
nulls_equal (suc n) s = ap (λ k. cond s.valid 0 1 + k) (nulls_equal n s) ∙ by s.valid
  where
    by : (b : Bool) → cond b 0 1 + cond b 0 n ≡ cond b 0 (suc n)
    by true = refl
    by false = omega arith

pub survey_equal : (n nulls bytes : ℕ) (s : Slot) → n < 18446744073709551616 → nulls ≡ cond s.valid 0 n → bytes ≡ min (n * length s.content) 18446744073709551615 → ◌≡◌ {A = Survey} (record { rows = n; nulls = nulls; bytes = bytes }) (survey_of (replicate n s))
survey_equal n nulls bytes s few z b =
    let long : n ≡ in_word (length (replicate n s)) = omega (arith, length-replicate n s) in
    let none : nulls ≡ in_word (null_count (replicate n s)) = z ∙ sym (ap in_word (nulls_equal n s) ∙ by s.valid) in
    let many : bytes ≡ in_word (byte_count (replicate n s)) = b ∙ ap in_word (sym (bytes_equal n s)) in
    λ k. record { rows = long k; nulls = none k; bytes = many k }
  where
    by : (v : Bool) → in_word (cond v 0 n) ≡ cond v 0 n
    by true = omega arith
    by false = omega arith
