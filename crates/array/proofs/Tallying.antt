-- The bytes and the longest slot of a column whose offsets never fall.
use Rattle.std.proofs.Common.{◌≡◌, ℕ, zero, suc, ◌+◌, ◌-◌, ◌≤◌, max, false, List, [], ◌∷◌, ◌++◌, map, length, ℤ, is_some, sum, refl, sym, ap, ◌∙◌, arith}
use Rattle.std.specs.List.{range_with_len}
use Rattle.std.proofs.lemmas.List.FromFn.{map-range_with_len_more, length-map-range_with_len}
use Rattle.std.proofs.lemmas.List.Sums.{sum_by_push}
use Rattle.ptype.specs.Integers.{amount_at}
use Rattle.ptype.specs.Searches.{first_fall}
use Rattle.array.specs.Columns.{row_count, slot_length, slot_lengths}
use Rattle.array.specs.Tallies.{longest_of}
use Rattle.array.proofs.Slots.{bounds}

longest_push : (ns : List ℕ) (n : ℕ) → longest_of (ns ++ n ∷ []) ≡ max (longest_of ns) n
unfolding longest_of
longest_push [] n = omega arith
longest_push (m ∷ ns) n = let ih = longest_push ns n in omega arith

module _ (zs : List ℤ) where
  -- the lengths of the first i slots
  abbrev pub front : ℕ → List ℕ
  front i = map (slot_length zs) (range_with_len 0 i)

  front_more : (i : ℕ) → front (i + 1) ≡ front i ++ slot_length zs i ∷ []
  front_more i = map-range_with_len_more (slot_length zs) 0 i i (omega arith)

  pub longest_more : (i : ℕ) → longest_of (front (i + 1)) ≡ max (longest_of (front i)) (amount_at zs (i + 1) - amount_at zs i)
  longest_more i = ap longest_of (front_more i) ∙ longest_push (front i) (slot_length zs i)

  pub bytes_are : (heap i : ℕ) → is_some (first_fall heap 0 0 zs) ≡ false → i ≤ row_count zs → amount_at zs 0 + sum (front i) ≡ amount_at zs i
  bytes_are heap zero e h = omega arith
  bytes_are heap (suc i) e h =
      let ih = bytes_are heap i e (omega arith) in
      let b = bounds zs heap i e (omega arith) in
      let more : sum (front (i + 1)) ≡ sum (front i) + slot_length zs i = ap sum (front_more i) ∙ sum_by_push (λ x. x) (front i) (slot_length zs i) in
      let n : suc i ≡ i + 1 = omega arith in
      ap (λ k. amount_at zs 0 + sum (front k)) n ∙ omega (arith, b.rise) ∙ ap (amount_at zs) (sym n)

  pub lengths_count : length (slot_lengths zs) ≡ row_count zs
  lengths_count = length-map-range_with_len (slot_length zs) 0 (row_count zs)

  -- the first part only names the search for a fall, so that this lemma is found
  pub lengths_sum : (heap : ℕ) → is_some (first_fall heap 0 0 zs) ≡ false → (first_fall heap 0 0 zs ≡ first_fall heap 0 0 zs) × (sum (slot_lengths zs) ≡ amount_at zs (row_count zs) - amount_at zs 0)
  lengths_sum heap e = let all = bytes_are heap (row_count zs) e (omega arith) in (refl, omega arith)
