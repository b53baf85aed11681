-- What the checks around a decode tell.
use Rattle.std.proofs.Common.{◌≡◌, ℕ, ◌+◌, ◌-◌, ◌≤◌, Bool, true, false, cond, not, ◌&&◌, eqb, ltb, leb, List, [], ◌∷◌, ◌++◌, map, length, replicate, ℤ, Some, None, Option, unwrap_or, sym, refl, ap, ◌∙◌, arith}
use borrow.Rule.Slice.PartMut.{put_mid}
use Rattle.std.specs.Option.{option_map}
use Rattle.std.proofs.lemmas.Bool.{ltb-false}
use Rattle.std.proofs.lemmas.Bool.Decides.{nat_tests}
use Rattle.mask.specs.Masks.{flags, covered}
use Rattle.mask.specs.declared.mask.Mask.{Mask}
use Rattle.ptype.specs.Integers.{amount}
use Rattle.ptype.specs.Searches.{first_overrun, total}
use Rattle.refusal.specs.Refusals.{Code, code, rule, refuse_if, first_refusal}
use Rattle.builder.specs.Bulk.{unset_count, flags_survey, counts_check, checks_before, told_check, decode_checks, decoded_answer, decoded_slots, decoded_part, decoded}
use Rattle.builder.specs.Calls.{RowsFit}
use Rattle.builder.specs.Space.{is_own_memory, memory_check, space_checks}
use Rattle.builder.specs.States.{State, with_heap, add_rows}
use Rattle.builder.specs.Surveys.{in_word}
use Rattle.builder.specs.declared.survey.Survey.{Survey}
use Rattle.builder.proofs.Cuts.{none_found, same_counts}
use Rattle.builder.proofs.Laying.{wiped_heap, decoded_rows}
use Rattle.builder.proofs.Spaces.{Own, own, Limits, passed, in_words, first_none, after_none}

-- ---- before the decoder is asked

module _ (m : State) (count slack : ℕ) (zs : List ℤ) (mask : Mask) (limits : Limits m) where
  pub asked_space : (survey : Survey) (asked : ℕ) (r : Option Code) → None ≡ memory_check m → None ≡ counts_check zs (flags mask) (covered mask) → survey ≡ flags_survey (flags mask) count → asked ≡ in_word (count + slack) → r ≡ first_refusal (space_checks m.nullable m.capacity m.rows m.used (length m.heap) m.top survey.rows survey.nulls survey.bytes asked) → r ≡ first_refusal (checks_before m count slack zs mask)
  asked_space survey asked r memory counts s a e =
      let figures =
      (λ k. first_refusal (space_checks m.nullable m.capacity m.rows m.used (length m.heap) m.top (s k).rows (s k).nulls (s k).bytes (a k)))
      ∙ in_words m.nullable m.capacity m.rows m.used (length m.heap) m.top (length (flags mask)) (unset_count (flags mask)) count (count + slack) (omega (arith, (own m memory).heap, limits.few)) limits.small (omega arith)
      ∙ ap (λ n. first_refusal (space_checks m.nullable m.capacity m.rows m.used (length m.heap) m.top n (unset_count (flags mask)) count (count + slack))) (sym (same_counts zs (flags mask) (covered mask) counts)) in
      first_none (memory_check m) _ r memory (first_none (counts_check zs (flags mask) (covered mask)) _ r counts (e ∙ figures))

  pub record Before : Type 0 where
    pub own_memory : Own m
    pub counts : length zs ≡ length (flags mask)
    pub rows : m.rows + length zs ≤ m.capacity
    pub heap : m.used + (count + slack) ≤ length m.heap
    pub below : m.used + count ≤ m.top

  pub before : None ≡ first_refusal (checks_before m count slack zs mask) → Before
  before e =
      let a = passed (not (is_own_memory m)) _ _ e in
      let b = passed (not (eqb (length zs) (length (flags mask)) && covered mask)) _ _ a.rest in
      let c = passed (not m.nullable && ltb 0 (unset_count (flags mask))) _ _ b.rest in
      let d = passed (ltb m.capacity (m.rows + length zs)) _ _ c.rest in
      let f = passed (ltb (length m.heap) (m.used + (count + slack))) _ _ d.rest in
      let k = passed (ltb m.top (m.used + count)) _ _ f.rest in
      record {
        own_memory = own m (sym (ap (λ t. refuse_if t (rule 1)) a.here));
        counts = same_counts zs (flags mask) (covered mask) (sym (ap (λ t. refuse_if t (rule 6)) b.here));
        rows = ltb-false m.capacity (m.rows + length zs) d.here;
        heap = ltb-false (length m.heap) (m.used + (count + slack)) f.here;
        below = ltb-false m.top (m.used + count) k.here;
      }

  pub rows_fit : (heap : List ℕ) → Before → total zs ≡ count → RowsFit (with_heap m heap) (length zs) (total zs)
  rows_fit heap b e = record { entries = omega (arith, b.own_memory.free, b.rows, limits.entries); rows = b.rows; left = omega (arith, b.own_memory.heap, b.heap); below = omega (arith, b.below) }

-- ---- behind it

pub record Told (means : Option (List ℕ)) (size count : ℕ) (zs : List ℤ) : Type 0 where
  pub long : length (unwrap_or means []) ≡ count
  pub room : count ≤ size
  pub all : total zs ≡ count

pub told : (means : Option (List ℕ)) (size count : ℕ) (zs : List ℤ) → None ≡ first_refusal (decode_checks means size count zs) → Told means size count zs
told None size count zs e = let z : ◌≡◌ {A = ℕ} 0 1 = cc in absurd (omega arith)
told (Some xs) size count zs e = by (leb (length xs) size) refl e
  where
    by : (t : Bool) → leb (length xs) size ≡ t → None ≡ first_refusal (told_check (cond t (Some (length xs)) None) count ∷ option_map (λ i. code 7 i 0) (first_overrun count 0 zs) ∷ refuse_if (not (eqb (total zs) count)) (rule 8) ∷ []) → Told (Some xs) size count zs
    by false y e = let z : ◌≡◌ {A = ℕ} 0 1 = cc in absurd (omega arith)
    by true y e =
        let a = passed (not (eqb (length xs) count)) (rule 10) _ e in
        let b = none_found (first_overrun count 0 zs) (λ i. code 7 i 0) _ a.rest in
        let c = passed (not (eqb (total zs) count)) (rule 8) [] b.1 in
        let same = a.here in
        let whole = c.here in
        record { long = grind (arith, nat_tests); room = grind (arith, nat_tests); all = grind (arith, nat_tests) }

-- ---- each way out of the call: the part that was lent, w bytes long, comes back as `part`

module _ (m : State) (count slack : ℕ) (zs : List ℤ) (mask : Mask) (means : Option (List ℕ)) (part : List ℕ) (w n : ℕ) (limits : Limits m) (passes : None ≡ first_refusal (checks_before m count slack zs mask)) (wide : w ≡ count + slack) (long : n ≡ count + slack) where
  pub answered : (r : Option Code) → r ≡ first_refusal (decode_checks means n count zs) → r ≡ decoded_answer m count slack zs mask means
  answered r e = after_none (checks_before m count slack zs mask) (decode_checks means (count + slack) count zs) r passes (e ∙ ap (λ k. first_refusal (decode_checks means k count zs)) long)

  pub refused : (c : Code) → part ≡ decoded_part means (Some c) n → with_heap m (put_mid m.used w m.heap part) ≡ decoded m (first_refusal (checks_before m count slack zs mask)) (Some c) (count + slack) (decoded_slots means zs mask)
  refused c e =
      let f = before m count slack zs mask limits passes in
      ap (λ p. with_heap m (put_mid m.used w m.heap p)) (e ∙ ap (λ k. replicate k 0) long)
      ∙ ap (with_heap m) (wiped_heap m.heap m.used (count + slack) w wide f.heap)
      ∙ ap (λ o. decoded m o (Some c) (count + slack) (decoded_slots means zs mask)) passes

  pub accepted : None ≡ first_refusal (decode_checks means n count zs) → part ≡ decoded_part means None n → add_rows (with_heap m (put_mid m.used w m.heap part)) (flags mask) (map amount zs) ≡ decoded m (first_refusal (checks_before m count slack zs mask)) None (count + slack) (decoded_slots means zs mask)
  accepted a e =
      let f = before m count slack zs mask limits passes in
      let t = told means n count zs a in
      let xs = unwrap_or means [] in
      ap (λ p. add_rows (with_heap m (put_mid m.used w m.heap p)) (flags mask) (map amount zs)) (e ∙ ap (λ k. xs ++ replicate (k - length xs) 0) long)
      ∙ decoded_rows m zs (flags mask) xs (count + slack) w wide f.counts (omega (arith, t.all, t.long)) (omega (arith, t.long)) f.heap
      ∙ ap (λ o. decoded m o None (count + slack) (decoded_slots means zs mask)) passes
