-- What slots added one after the other come to, in one step.
use Rattle.std.proofs.Common.{◌≡◌, ℕ, suc, ◌+◌, ◌-◌, ◌<◌, ◌≤◌, max, Bool, true, false, cond, List, [], ◌∷◌, ◌++◌, length, take, drop, replicate, sym, refl, ap, ◌∙◌, ⊎_elim, arith, length-append, length-drop, length-take}
use lib.ListN.{length-replicate}
use Rattle.std.proofs.lemmas.List.{append_assoc, append-nil, take-append-drop, take_at, drop_at, drop-drop, drop-append-le, drop-replicate}
use Rattle.std.proofs.lemmas.Bool.{cases_lt}
use Rattle.builder.specs.States.{State, put_bytes, add_slot, add_slots}
use Rattle.builder.proofs.Laying.{put_put, heap_bytes}
use Rattle.mask.specs.Bits.{put_bit, put_bits}
use Rattle.mask.specs.Masks.{set_count}
use Rattle.slots.specs.Slots.{Slot, byte_count, ends_from, heap_of, flags_of}

-- all slots at once: their ends, their bytes, their bits
unfoldable pub grown : State → List Slot → State
grown m ss = record {
  offsets = m.offsets ++ ends_from m.used ss;
  free = m.free - length ss;
  top = m.top;
  heap = put_bytes m.heap m.used (heap_of ss);
  bits = put_bits m.bits m.rows (flags_of ss);
  nullable = m.nullable;
  rows = m.rows + length ss;
  used = m.used + byte_count ss;
  valid = m.valid + set_count (flags_of ss);
  capacity = m.capacity;
  free_left = m.free_left - length ss;
  heap_left = m.heap_left;
  bits_left = m.bits_left;
}

put_none : (heap : List ℕ) (at : ℕ) → put_bytes heap at [] ≡ heap
put_none heap at = let e : at + 0 ≡ at = omega arith in ap (λ n. take at heap ++ drop n heap) e ∙ take-append-drop at heap

pub adds_grown : (m : State) (ss : List Slot) → m.used + byte_count ss ≤ length m.heap → add_slots m ss ≡ grown m ss
unfolding add_slots byte_count ends_from put_bits grown
adds_grown m [] h =
    let a : m.offsets ≡ m.offsets ++ [] = sym (append-nil m.offsets) in
    let b : m.free ≡ m.free - 0 = omega arith in
    let c : m.heap ≡ put_bytes m.heap m.used [] = sym (put_none m.heap m.used) in
    let d : m.rows ≡ m.rows + 0 = omega arith in
    let e : m.used ≡ m.used + 0 = omega arith in
    let f : m.valid ≡ m.valid + 0 = omega arith in
    let g : m.free_left ≡ m.free_left - 0 = omega arith in
    λ t. record { offsets = a t; free = b t; top = m.top; heap = c t; bits = m.bits; nullable = m.nullable; rows = d t; used = e t; valid = f t; capacity = m.capacity; free_left = g t; heap_left = m.heap_left; bits_left = m.bits_left }
adds_grown m (s ∷ ss) h =
    let n = length s.content in
    let long : length (put_bytes m.heap m.used s.content) ≡ length m.heap = simp (length-append, length-take, length-drop) (omega arith) in
    let a = append_assoc m.offsets ((m.used + n) ∷ []) (ends_from (m.used + n) ss) in
    let b : m.free - 1 - length ss ≡ m.free - suc (length ss) = omega arith in
    let c = put_put m.heap m.used s.content (heap_of ss) (omega (arith, heap_bytes ss)) in
    let d : m.rows + 1 + length ss ≡ m.rows + suc (length ss) = omega arith in
    let e : m.used + n + byte_count ss ≡ m.used + (n + byte_count ss) = omega arith in
    let g : m.free_left - 1 - length ss ≡ m.free_left - suc (length ss) = omega arith in
    adds_grown (add_slot m s) ss (omega arith)
    ∙ (λ t. record { offsets = a t; free = b t; top = m.top; heap = c t; bits = put_bits m.bits m.rows (flags_of (s ∷ ss)); nullable = m.nullable; rows = d t; used = e t; valid = counted s.valid t; capacity = m.capacity; free_left = g t; heap_left = m.heap_left; bits_left = m.bits_left })
  where
    counted : (v : Bool) → m.valid + cond v 1 0 + set_count (flags_of ss) ≡ m.valid + set_count (v ∷ flags_of ss)
    counted true = omega arith
    counted false = omega arith

-- ---- slots behind slots

pub bytes_append : (ss ts : List Slot) → byte_count (ss ++ ts) ≡ byte_count ss + byte_count ts
unfolding byte_count
bytes_append [] ts = sym (omega arith)
bytes_append (s ∷ ss) ts = let r = bytes_append ss ts in omega arith

pub ends_append : (n : ℕ) (ss ts : List Slot) → ends_from n (ss ++ ts) ≡ ends_from n ss ++ ends_from (n + byte_count ss) ts
unfolding byte_count ends_from
ends_append n [] ts = let e : n ≡ n + 0 = omega arith in ap (λ k. ends_from k ts) e
ends_append n (s ∷ ss) ts =
    let k = n + length s.content in
    let e : k + byte_count ss ≡ n + (length s.content + byte_count ss) = omega arith in
    ap (λ l. k ∷ l) (ends_append k ss ts ∙ ap (λ j. ends_from k ss ++ ends_from j ts) e)

pub heap_append : (ss ts : List Slot) → heap_of (ss ++ ts) ≡ heap_of ss ++ heap_of ts
heap_append [] ts = refl
heap_append (s ∷ ss) ts = ap (λ l. s.content ++ l) (heap_append ss ts) ∙ sym (append_assoc s.content (heap_of ss) (heap_of ts))

pub puts_append : (bs : List ℕ) (i : ℕ) (fs gs : List Bool) → put_bits bs i (fs ++ gs) ≡ put_bits (put_bits bs i fs) (i + length fs) gs
unfolding put_bits
puts_append bs i [] gs = let e : i ≡ i + 0 = omega arith in ap (λ k. put_bits bs k gs) e
puts_append bs i (f ∷ fs) gs = let e : i + 1 + length fs ≡ i + suc (length fs) = omega arith in puts_append (put_bit bs i f) (i + 1) fs gs ∙ ap (λ k. put_bits (put_bits (put_bit bs i f) (i + 1) fs) k gs) e

-- ---- bytes laid over a heap that holds a, then zeros up to w, then h from there on

pub heap_over : (a c h : List ℕ) (u n w : ℕ) → length a ≡ u → length c ≡ n → put_bytes (a ++ (replicate (w - u) 0 ++ drop (max u w) h)) u c ≡ a ++ (c ++ (replicate (w - (u + n)) 0 ++ drop (max (u + n) w) h))
heap_over a c h u n w la lc =
    let k = w - u in
    let x = replicate k 0 ++ drop (max u w) h in
    let front = take_at a x u la in
    let e : u + length c ≡ u + n = omega arith in
    let back : drop (u + length c) (a ++ x) ≡ drop n x = ap (λ j. drop j (a ++ x)) e ∙ sym (drop-drop n u (a ++ x)) ∙ ap (drop n) (drop_at a x u la) in
    (λ t. front t ++ (c ++ back t)) ∙ ap (λ l. a ++ (c ++ l)) (⊎_elim less more (cases_lt k n))
  where
    less : w - u < n → drop n (replicate (w - u) 0 ++ drop (max u w) h) ≡ replicate (w - (u + n)) 0 ++ drop (max (u + n) w) h
    less lt =
        let zs : List ℕ = replicate (w - u) 0 in
        let split : (w - u) + (n - (w - u)) ≡ n = omega arith in
        let none : w - (u + n) ≡ 0 = omega arith in
        let at : max u w + (n - (w - u)) ≡ max (u + n) w = omega arith in
        sym (ap (λ j. drop j (zs ++ drop (max u w) h)) split) ∙ sym (drop-drop (n - (w - u)) (w - u) (zs ++ drop (max u w) h))
        ∙ ap (drop (n - (w - u))) (drop_at zs (drop (max u w) h) (w - u) (length-replicate {A = ℕ} (w - u) 0))
        ∙ drop-drop (n - (w - u)) (max u w) h
        ∙ sym (λ t. replicate (none t) 0 ++ drop (sym at t) h)

    more : n ≤ w - u → drop n (replicate (w - u) 0 ++ drop (max u w) h) ≡ replicate (w - (u + n)) 0 ++ drop (max (u + n) w) h
    more le =
        let zs : List ℕ = replicate (w - u) 0 in
        let left : w - u - n ≡ w - (u + n) = omega arith in
        let at : max u w ≡ max (u + n) w = omega arith in
        drop-append-le n zs (drop (max u w) h) (omega (arith, length-replicate {A = ℕ} (w - u) 0))
        ∙ ap (λ l. l ++ drop (max u w) h) (drop-replicate n (w - u) 0)
        ∙ (λ t. replicate (left t) 0 ++ drop (at t) h)
