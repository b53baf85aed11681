-- Rows whose bytes stand in the heap already: one step of the loop, and that slots come to such rows.
use Rattle.std.proofs.Common.{◌≡◌, ℕ, suc, ◌+◌, ◌-◌, ◌<◌, ◌≤◌, Bool, false, List, [], ◌∷◌, ◌++◌, map, length, get_or, take, drop, replicate, ℤ, pos, sym, refl, ap, ◌∙◌, subst, add-zero, arith, length-append, length-drop, length-take, rules}
use lib.ListN.{length-replicate}
use borrow.Rule.Slice.PartMut.{put_mid}
use Rattle.std.specs.List.{between}
use Rattle.std.proofs.lemmas.List.{drop_more, drop_all, take-append-drop, same_lists, places}
use Rattle.ptype.specs.Integers.{amount, amount_at}
use Rattle.ptype.specs.Searches.{total}
use Rattle.slots.specs.Slots.{Slot, byte_count, heap_of, flags_of}
use Rattle.builder.specs.Bulk.{cut_slots, prefix_sums}
use Rattle.builder.specs.Calls.{RowsFit}
use Rattle.builder.specs.Space.{RowRoom}
use Rattle.builder.specs.States.{State, put_bytes, with_heap, add_row, add_rows, add_slot, add_slots}
use Rattle.builder.proofs.Filling.{first_row, rest_rows}

-- ---- the loop: m is where the first i rows have come from m0

pub record Laying (m0 m : State) (fs : List Bool) (zs : List ℤ) (i : ℕ) : Type 0 where
  pub goes : add_rows m (drop i fs) (map amount (drop i zs)) ≡ add_rows m0 fs (map amount zs)
  pub fits : RowsFit m (length zs - i) (total (drop i zs))

pub begin : (m : State) (fs : List Bool) (zs : List ℤ) → RowsFit m (length zs) (total zs) → Laying m m fs zs 0
begin m fs zs f = record { goes = refl; fits = record { entries = omega (arith, f.entries); rows = omega (arith, f.rows); left = f.left; below = f.below } }

module _ (m0 m : State) (fs : List Bool) (zs : List ℤ) (i : ℕ) (h : i < length zs) (same : length zs ≡ length fs) (l : Laying m0 m fs zs i) where
  -- the rows that are left, the first of them apart
  here : RowsFit m (suc (length zs - (i + 1))) (amount_at zs i + total (drop (i + 1) zs))
  unfolding total
  here =
      let n : length zs - i ≡ suc (length zs - (i + 1)) = omega arith in
      let t : total (drop i zs) ≡ amount_at zs i + total (drop (i + 1) zs) = ap total (drop_more zs i (pos 0) h) in
      subst (λ k. RowsFit m k (amount_at zs i + total (drop (i + 1) zs))) n (subst (RowsFit m (length zs - i)) t l.fits)

  pub room : (size : ℕ) → size ≡ amount_at zs i → RowRoom m size
  room size e = first_row m (length zs - (i + 1)) (amount_at zs i + total (drop (i + 1) zs)) size (omega arith) here

  pub more : (m1 : State) (valid : Bool) (size : ℕ) → valid ≡ get_or fs i false → size ≡ amount_at zs i → m1 ≡ add_row m valid size → Laying m0 m1 fs zs (i + 1)
  unfolding add_rows
  more m1 valid size v e is = record {
    goes =
        ap (λ x. add_rows x (drop (i + 1) fs) (map amount (drop (i + 1) zs))) (is ∙ (λ t. add_row m (v t) (e t)))
        ∙ sym (λ t. add_rows m (drop_more fs i false (omega arith) t) (map amount (drop_more zs i (pos 0) h t)))
        ∙ l.goes;
    fits = subst (λ x. RowsFit x (length zs - (i + 1)) (total (drop (i + 1) zs))) (sym (is ∙ (λ t. add_row m (v t) (e t)))) (rest_rows m (length zs - (i + 1)) (total (drop (i + 1) zs)) (amount_at zs i) (get_or fs i false) here);
  }

pub ends : (m0 m : State) (fs : List Bool) (zs : List ℤ) (i : ℕ) → length fs ≤ i → Laying m0 m fs zs i → m ≡ add_rows m0 fs (map amount zs)
unfolding add_rows
ends m0 m fs zs i h l = sym (ap (λ gs. add_rows m gs (map amount (drop i zs))) (drop_all i fs h)) ∙ l.goes

-- ---- slots come to rows over the heap with all their bytes

put_none : (heap : List ℕ) (at : ℕ) → put_bytes heap at [] ≡ heap
put_none heap at = ap (λ n. take at heap ++ drop n heap) (add-zero at) ∙ take-append-drop at heap

pub put_put : (heap : List ℕ) (at : ℕ) (c d : List ℕ) → at + (length c + length d) ≤ length heap → put_bytes (put_bytes heap at c) (at + length c) d ≡ put_bytes heap at (c ++ d)
put_put heap at c d h = same_lists _ _ (search (rules, places)) (λ k e lt. grind (arith, places))

abbrev size_of : Slot → ℕ
size_of s = length s.content

pub heap_bytes : (ss : List Slot) → length (heap_of ss) ≡ byte_count ss
unfolding byte_count
heap_bytes [] = refl
heap_bytes (s ∷ ss) = length-append s.content (heap_of ss) ∙ ap (λ n. length s.content + n) (heap_bytes ss)

pub laid : (m : State) (ss : List Slot) → m.used + byte_count ss ≤ length m.heap → add_slots m ss ≡ add_rows (with_heap m (put_bytes m.heap m.used (heap_of ss))) (flags_of ss) (map size_of ss)
unfolding add_slots add_rows byte_count
laid m [] h = sym (ap (with_heap m) (put_none m.heap m.used))
laid m (s ∷ ss) h =
    let long : length (put_bytes m.heap m.used s.content) ≡ length m.heap = simp (length-append, length-take, length-drop) (omega arith) in
    laid (add_slot m s) ss (omega arith)
    ∙ ap (λ heap. add_rows (add_row (with_heap m heap) s.valid (length s.content)) (flags_of ss) (map size_of ss)) (put_put m.heap m.used s.content (heap_of ss) (omega (arith, heap_bytes ss)))

-- ---- slots that are cut by lengths

pub prefix_length : (n : ℕ) (zs : List ℤ) → length (prefix_sums n zs) ≡ length zs
unfolding prefix_sums
prefix_length n [] = refl
prefix_length n (z ∷ zs) = ap suc (prefix_length (n + amount z) zs)

flags_cut : (n : ℕ) (zs : List ℤ) (fs : List Bool) (bs : List ℕ) → length zs ≡ length fs → flags_of (cut_slots n (prefix_sums n zs) fs bs) ≡ fs
unfolding cut_slots prefix_sums
flags_cut n [] [] bs e = refl
flags_cut n [] (f ∷ fs) bs e = absurd (omega arith)
flags_cut n (z ∷ zs) [] bs e = absurd (omega arith)
flags_cut n (z ∷ zs) (f ∷ fs) bs e = ap (λ l. f ∷ l) (flags_cut (n + amount z) zs fs bs (omega arith))

sizes_cut : (n : ℕ) (zs : List ℤ) (fs : List Bool) (bs : List ℕ) → length zs ≡ length fs → n + total zs ≤ length bs → map size_of (cut_slots n (prefix_sums n zs) fs bs) ≡ map amount zs
unfolding cut_slots prefix_sums total
sizes_cut n [] fs bs e h = refl
sizes_cut n (z ∷ zs) [] bs e h = absurd (omega arith)
sizes_cut n (z ∷ zs) (f ∷ fs) bs e h =
    let long : length (between n (n + amount z) bs) ≡ amount z = simp (length-take, length-drop) (omega arith) in
    λ t. long t ∷ sizes_cut (n + amount z) zs fs bs (omega arith) (omega arith) t

heap_cut : (n : ℕ) (zs : List ℤ) (fs : List Bool) (bs : List ℕ) → length zs ≡ length fs → n + total zs ≤ length bs → heap_of (cut_slots n (prefix_sums n zs) fs bs) ≡ between n (n + total zs) bs
unfolding cut_slots prefix_sums total
heap_cut n [] fs bs e h = let z : n + 0 - n ≡ 0 = omega arith in sym (ap (λ k. take k (drop n bs)) z)
heap_cut n (z ∷ zs) [] bs e h = absurd (omega arith)
heap_cut n (z ∷ zs) (f ∷ fs) bs e h = ap (λ l. between n (n + amount z) bs ++ l) (heap_cut (n + amount z) zs fs bs (omega arith) (omega arith)) ∙ same_lists _ _ (search (rules, places)) (λ k d lt. grind (arith, places))

pub bytes_cut : (n : ℕ) (zs : List ℤ) (fs : List Bool) (bs : List ℕ) → length zs ≡ length fs → n + total zs ≤ length bs → byte_count (cut_slots n (prefix_sums n zs) fs bs) ≡ total zs
unfolding cut_slots prefix_sums total byte_count
bytes_cut n [] fs bs e h = refl
bytes_cut n (z ∷ zs) [] bs e h = absurd (omega arith)
bytes_cut n (z ∷ zs) (f ∷ fs) bs e h =
    let long : length (between n (n + amount z) bs) ≡ amount z = simp (length-take, length-drop) (omega arith) in
    let r = bytes_cut (n + amount z) zs fs bs (omega arith) (omega arith) in
    omega arith

-- ---- what a decode leaves

pub wiped_heap : (heap : List ℕ) (used size n : ℕ) → n ≡ size → used + size ≤ length heap → put_mid used n heap (replicate size 0) ≡ put_bytes heap used (replicate size 0)
wiped_heap heap used size n e h = same_lists _ _ (search (rules, places, length-replicate)) (λ k d lt. grind (arith, places))

-- the list over the wiped part is the list with zeros behind it
over_wiped : (heap xs : List ℕ) (used size n : ℕ) → n ≡ size → length xs ≤ size → used + size ≤ length heap → put_mid used n heap (xs ++ replicate (size - length xs) 0) ≡ put_bytes (put_bytes heap used (replicate size 0)) used xs
over_wiped heap xs used size n e le h = same_lists _ _ (search (rules, places, length-replicate)) (λ k d lt. grind (arith, places))

pub decoded_rows : (m : State) (zs : List ℤ) (fs : List Bool) (xs : List ℕ) (size n : ℕ) → n ≡ size → length zs ≡ length fs → total zs ≡ length xs → length xs ≤ size → m.used + size ≤ length m.heap
    → add_rows (with_heap m (put_mid m.used n m.heap (xs ++ replicate (size - length xs) 0))) fs (map amount zs) ≡ add_slots (with_heap m (put_bytes m.heap m.used (replicate size 0))) (cut_slots 0 (prefix_sums 0 zs) fs xs)
decoded_rows m zs fs xs size n e same all le h =
    let ss = cut_slots 0 (prefix_sums 0 zs) fs xs in
    let bytes = bytes_cut 0 zs fs xs same (omega arith) in
    let whole : heap_of ss ≡ xs = heap_cut 0 zs fs xs same (omega arith) ∙ same_lists _ _ (search (rules, places)) (λ k d lt. grind (arith, places)) in
    let long : length (put_bytes m.heap m.used (replicate size 0)) ≡ length m.heap = simp (length-append, length-take, length-drop, length-replicate) (omega arith) in
    (λ t. add_rows (with_heap m (over_wiped m.heap xs m.used size n e le h t)) (sym (flags_cut 0 zs fs xs same) t) (sym (sizes_cut 0 zs fs xs same (omega arith)) t))
    ∙ ap (λ bs. add_rows (with_heap m (put_bytes (put_bytes m.heap m.used (replicate size 0)) m.used bs)) (flags_of ss) (map size_of ss)) (sym whole)
    ∙ sym (laid (with_heap m (put_bytes m.heap m.used (replicate size 0))) ss (omega arith))
