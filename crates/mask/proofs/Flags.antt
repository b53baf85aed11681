-- Lists of flags: the next set flag, how many are set, the bits of bytes as flags, and the bits after a write.
use Rattle.std.proofs.Common.{◌≡◌, ℕ, zero, suc, ◌+◌, ◌-◌, ◌*◌, ◌/◌, ◌%◌, ◌^◌, ◌<◌, ◌≤◌, Bool, true, false, cond, ◌&&◌, eqb, ltb, leb, List, [], ◌∷◌, ◌++◌, map, length, get_or, drop, replicate, Some, None, Option, sym, refl, ap, ◌∙◌, ⊎_elim, add-zero, add-one, arith, subst}
use lib.Count.{ones}
use Rattle.std.specs.List.{range_with_len}
use Rattle.std.proofs.lemmas.List.FromFn.{length-map-range_with_len, get_or-map-range_with_len, map-range_with_len_more}
use Rattle.std.proofs.lemmas.List.{get_or-drop, get_or_past, get_or-replicate, get_or-set_same, get_or-set_other, length-drop, length-replicate, length-set, set_past}
use Rattle.std.proofs.lemmas.Bool.{and_parts, both_ways, cases_eq, cases_lt, cases_order, cond_both, ltb-true, lt-ltb, le-ltb}
use Rattle.std.proofs.lemmas.Bool.Decides.{nat_tests}
use Rattle.mask.specs.Bits.{bit_of, bit_at, with_bit, put_bit, put_bits}
use Rattle.mask.specs.Masks.{bit_flags, set_count, first_set, next_set}
use Rattle.mask.proofs.Bytes.{no_bit, ones_low, with_bit_lem}

-- ---- the next set flag

-- r is the first set flag at p or after it: none is set from p on, or r is set and none from p to r
abbrev pub NextAt : ℕ → List Bool → Option ℕ → Type 0
NextAt p fs None = (k : ℕ) → p ≤ k → get_or fs k false ≡ false
NextAt p fs (Some q) = (p ≤ q) × (q < length fs) × (get_or fs q false ≡ true) × ((k : ℕ) → p ≤ k → k < q → get_or fs k false ≡ false)

-- the same of a list whose first flag has place p
abbrev FirstAt : ℕ → List Bool → Option ℕ → Type 0
FirstAt p fs None = (k : ℕ) → get_or fs k false ≡ false
FirstAt p fs (Some q) = (p ≤ q) × (q - p < length fs) × (get_or fs (q - p) false ≡ true) × ((k : ℕ) → p + k < q → get_or fs k false ≡ false)

after_unset : (p : ℕ) (fs : List Bool) (r : Option ℕ) → FirstAt (p + 1) fs r → FirstAt p (false ∷ fs) r
after_unset p fs None h = λ k. elim k as (λ n. get_or (false ∷ fs) n false ≡ false) [ zero ↦ refl | suc n ↦ h n ]
after_unset p fs (Some q) (ge, inside, is_set, before) =
    let e : q - p ≡ suc (q - (p + 1)) = omega arith in
    (omega arith, omega arith, ap (λ n. get_or (false ∷ fs) n false) e ∙ is_set, λ k. elim k as (λ n. p + n < q → get_or (false ∷ fs) n false ≡ false) [ zero ↦ λ _. refl | suc n ↦ λ l. before n (omega arith) ])

first_is : (p : ℕ) (fs : List Bool) → FirstAt p fs (first_set p fs)
first_is p [] = λ k. refl
first_is p (true ∷ fs) =
    let e : p - p ≡ 0 = omega arith in
    (omega arith, omega arith, ap (λ n. get_or (true ∷ fs) n false) e, λ k l. absurd (omega arith))
first_is p (false ∷ fs) = after_unset p fs (first_set (p + 1) fs) (first_is (p + 1) fs)

in_drop : (p : ℕ) (fs : List Bool) (k : ℕ) → p ≤ k → get_or fs k false ≡ get_or (drop p fs) (k - p) false
in_drop p fs k ge = let e : k ≡ p + (k - p) = omega arith in ap (λ n. get_or fs n false) e ∙ sym (get_or-drop p fs (k - p) false)

from_drop : (p : ℕ) (fs : List Bool) (r : Option ℕ) → FirstAt p (drop p fs) r → NextAt p fs r
from_drop p fs None h = λ k ge. in_drop p fs k ge ∙ h (k - p)
from_drop p fs (Some q) (ge, inside, is_set, before) =
    let room = length-drop p fs in
    (ge, omega arith, in_drop p fs q ge ∙ is_set, λ k from lt. in_drop p fs k from ∙ before (k - p) (omega arith))

next_is : (p : ℕ) (fs : List Bool) → NextAt p fs (next_set p fs)
next_is p fs = from_drop p fs (next_set p fs) (first_is p (drop p fs))

-- what an answer of next_set tells
pub next_at : (p : ℕ) (fs : List Bool) (r : Option ℕ) → next_set p fs ≡ r → NextAt p fs r
next_at p fs r e = subst (NextAt p fs) e (next_is p fs)

-- there is only one such answer
one_next : (p : ℕ) (fs : List Bool) (r s : Option ℕ) → NextAt p fs r → NextAt p fs s → r ≡ s
one_next p fs None None g h = refl
one_next p fs None (Some q) g h = absurd (both_ways _ (g q h.0) h.2)
one_next p fs (Some q) None g h = absurd (both_ways _ (h q g.0) g.2)
one_next p fs (Some q) (Some t) g h =
    ⊎_elim (ap Some) (⊎_elim (λ (l : q < t). absurd (both_ways _ (h.3 q g.0 l) g.2)) (λ (l : t < q). absurd (both_ways _ (g.3 t h.0 l) h.2))) (cases_order q t)

-- and next_set gives it
pub next_by : (p : ℕ) (fs : List Bool) (r : Option ℕ) → NextAt p fs r → r ≡ next_set p fs
next_by p fs r h = one_next p fs r (next_set p fs) h (next_is p fs)

-- ---- how many flags are set

pub count_append : (xs ys : List Bool) → set_count (xs ++ ys) ≡ set_count xs + set_count ys
count_append [] ys = omega arith
count_append (true ∷ xs) ys = omega (arith, count_append xs ys)
count_append (false ∷ xs) ys = count_append xs ys

pub count_le : (fs : List Bool) → set_count fs ≤ length fs
count_le [] = omega arith
count_le (true ∷ fs) = omega (arith, count_le fs)
count_le (false ∷ fs) = omega (arith, count_le fs)

pub count_replicate : (n : ℕ) (v : Bool) → set_count (replicate n v) ≡ cond v n 0
count_replicate zero true = refl
count_replicate zero false = refl
count_replicate (suc n) true = omega (arith, count_replicate n true)
count_replicate (suc n) false = count_replicate n false

count_push : (f : ℕ → Bool) (n : ℕ) → set_count (map f (range_with_len 0 (n + 1))) ≡ set_count (map f (range_with_len 0 n)) + set_count (f n ∷ [])
count_push f n = ap set_count (map-range_with_len_more f 0 n n (omega arith)) ∙ count_append (map f (range_with_len 0 n)) (f n ∷ [])

pub flag_replicate : (n : ℕ) (v : Bool) (k : ℕ) → get_or (replicate n v) k false ≡ (v && ltb k n)
flag_replicate n v k = ⊎_elim (λ (l : k < n). get_or-replicate n k v false l ∙ both v l) (λ (l : n ≤ k). get_or_past (replicate n v) k false (let e = length-replicate n v in omega arith) ∙ none v l) (cases_lt k n)
  where
    both : (v : Bool) → k < n → v ≡ (v && ltb k n)
    both true l = sym (lt-ltb k n l)
    both false l = refl

    none : (v : Bool) → n ≤ k → false ≡ (v && ltb k n)
    none true l = sym (le-ltb k n l)
    none false l = refl

pub next_replicate : (n : ℕ) (v : Bool) (p : ℕ) → next_set p (replicate n v) ≡ cond (v && ltb p n) (Some p) None
next_replicate n v p =
    sym (next_by p (replicate n v) (cond (v && ltb p n) (Some p) None) (cond_both (v && ltb p n) (Some p) None (NextAt p (replicate n v)) here none))
  where
    here : (v && ltb p n) ≡ true → NextAt p (replicate n v) (Some p)
    here t =
        let l = ltb-true p n (and_parts v (ltb p n) t).1 in
        (omega arith, omega (arith, length-replicate n v), flag_replicate n v p ∙ t, λ k ge lt. absurd (omega arith))

    none : (v && ltb p n) ≡ false → NextAt p (replicate n v) None
    none t = λ k ge. flag_replicate n v k ∙ later k ge t
      where
        later : (k : ℕ) → p ≤ k → (v && ltb p n) ≡ false → (v && ltb k n) ≡ false
        later k ge t = grind (arith, nat_tests)

-- ---- the bits of bytes

pub length_bits : (n : ℕ) (bs : List ℕ) → length (bit_flags n bs) ≡ n
length_bits n bs = length-map-range_with_len (bit_at bs) 0 n

pub flag_at : (n : ℕ) (bs : List ℕ) (i : ℕ) → i < n → get_or (bit_flags n bs) i false ≡ bit_at bs i
flag_at n bs i h = get_or-map-range_with_len (bit_at bs) 0 n i i false h (omega arith)

pub flag_past : (n : ℕ) (bs : List ℕ) (i : ℕ) → n ≤ i → get_or (bit_flags n bs) i false ≡ false
flag_past n bs i h = get_or_past (bit_flags n bs) i false (let e = length_bits n bs in omega arith)

-- bit r of byte i
pub bit_of_byte : (bs : List ℕ) (i r : ℕ) → r < 8 → bit_at bs (8 * i + r) ≡ bit_of (get_or bs i 0) r
bit_of_byte bs i r h =
    let q : (8 * i + r) / 8 ≡ i = omega arith in
    let m : (8 * i + r) % 8 ≡ r = omega arith in
    rw (q, m)

-- past the last byte no bit is set
pub bit_past : (bs : List ℕ) (k : ℕ) → 8 * length bs ≤ k → bit_at bs k ≡ false
bit_past bs k h = ap (λ b. bit_of b (k % 8)) (get_or_past bs (k / 8) 0 (omega arith)) ∙ no_bit (k % 8)

count_in_byte : (bs : List ℕ) (i r : ℕ) → r ≤ 8 → set_count (bit_flags (8 * i + r) bs) ≡ set_count (bit_flags (8 * i) bs) + set_count (map (bit_of (get_or bs i 0)) (range_with_len 0 r))
count_in_byte bs i zero h = ap (λ n. set_count (bit_flags n bs)) (add-zero (8 * i)) ∙ omega arith
count_in_byte bs i (suc r) h =
    let e : 8 * i + suc r ≡ (8 * i + r) + 1 = omega arith in
    let last = ap (λ v. set_count (v ∷ [])) (bit_of_byte bs i r (omega arith)) in
    let byte = ap (λ n. set_count (map (bit_of (get_or bs i 0)) (range_with_len 0 n))) (add-one r) in
    ap (λ n. set_count (bit_flags n bs)) e ∙ omega (arith, count_push (bit_at bs) (8 * i + r), count_in_byte bs i r (omega arith), count_push (bit_of (get_or bs i 0)) r)

-- the bits before byte i, and the lowest r of that byte
pub count_byte : (bs : List ℕ) (i r : ℕ) → get_or bs i 0 < 256 → r ≤ 8 → set_count (bit_flags (8 * i + r) bs) ≡ set_count (bit_flags (8 * i) bs) + ones (get_or bs i 0 % 2 ^ r)
count_byte bs i r b h = count_in_byte bs i r h ∙ ap (λ m. set_count (bit_flags (8 * i) bs) + m) (sym (ones_low (get_or bs i 0) r b (omega arith)))

-- bits past the last byte add nothing
pub count_past : (bs : List ℕ) (m d : ℕ) → 8 * length bs ≤ m → set_count (bit_flags (m + d) bs) ≡ set_count (bit_flags m bs)
count_past bs m zero h = ap (λ n. set_count (bit_flags n bs)) (add-zero m)
count_past bs m (suc d) h =
    let e : m + suc d ≡ (m + d) + 1 = omega arith in
    let last = ap (λ v. set_count (v ∷ [])) (bit_past bs (m + d) (omega arith)) in
    ap (λ n. set_count (bit_flags n bs)) e ∙ omega (arith, count_push (bit_at bs) (m + d), count_past bs m d h)

-- ---- the bits after a write

pub length_put : (bs : List ℕ) (i : ℕ) (v : Bool) → length (put_bit bs i v) ≡ length bs
length_put bs i v = length-set bs (i / 8) (with_bit (get_or bs (i / 8) 0) (i % 8) v)

-- the bit that is written is v, and each other stays
pub bit_put : (bs : List ℕ) (i : ℕ) (v : Bool) (k : ℕ) → bit_at (put_bit bs i v) k ≡ cond (eqb k i && ltb k (8 * length bs)) v (bit_at bs k)
bit_put bs i v k =
    let x = get_or bs (i / 8) 0 in
    ⊎_elim
    (λ (e : k / 8 ≡ i / 8).
    ⊎_elim
    (λ (l : i / 8 < length bs).
    ap (λ n. bit_of (get_or (put_bit bs i v) n 0) (k % 8)) e
    ∙ ap (λ n. bit_of n (k % 8)) (get_or-set_same bs (i / 8) (with_bit x (i % 8) v) 0 l)
    ∙ with_bit_lem x (i % 8) v (k % 8)
    ∙ ap (λ n. cond (eqb (k % 8) (i % 8)) v (bit_of (get_or bs n 0) (k % 8))) (sym e)
    ∙ ap (λ t. cond t v (bit_at bs k)) (inside (length bs) e l))
    (λ (l : length bs ≤ i / 8). ap (λ cs. bit_at cs k) (set_past bs (i / 8) (with_bit x (i % 8) v) l) ∙ stays (length bs) (λ d h. omega arith))
    (cases_lt (i / 8) (length bs)))
    (λ (ne : k / 8 ≡ i / 8 → ⊥). ap (λ n. bit_of n (k % 8)) (get_or-set_other bs (i / 8) (k / 8) (with_bit x (i % 8) v) 0 ne) ∙ stays (length bs) (λ d h. ne (ap (λ n. n / 8) d)))
    (cases_eq (k / 8) (i / 8))
  where
    inside : (m : ℕ) → k / 8 ≡ i / 8 → i / 8 < m → eqb (k % 8) (i % 8) ≡ (eqb k i && ltb k (8 * m))
    inside m e l = grind (arith, nat_tests)

    stays : (m : ℕ) → (k ≡ i → k < 8 * m → ⊥) → bit_at bs k ≡ cond (eqb k i && ltb k (8 * m)) v (bit_at bs k)
    stays m none = let t : (eqb k i && ltb k (8 * m)) ≡ false = grind (arith, nat_tests) in sym (ap (λ t. cond t v (bit_at bs k)) t)

pub length_puts : (vs : List Bool) (bs : List ℕ) (i : ℕ) → length (put_bits bs i vs) ≡ length bs
unfolding put_bits
length_puts [] bs i = refl
length_puts (v ∷ vs) bs i = length_puts vs (put_bit bs i v) (i + 1) ∙ length_put bs i v

-- a first bit written at i and then n more: at k stands what the whole list has for it
puts_step : (i k n m : ℕ) (first later whole was : Bool) → (k ≡ i → whole ≡ first) → (i < k → whole ≡ later) → cond (leb (i + 1) k && (ltb k (i + 1 + n) && ltb k m)) later (cond (eqb k i && ltb k m) first was) ≡ cond (leb i k && (ltb k (i + suc n) && ltb k m)) whole was
puts_step i k n m first later whole was here after = grind (arith, nat_tests)

pub bit_puts : (vs : List Bool) (bs : List ℕ) (i k : ℕ) → bit_at (put_bits bs i vs) k ≡ cond (leb i k && (ltb k (i + length vs) && ltb k (8 * length bs))) (get_or vs (k - i) false) (bit_at bs k)
unfolding put_bits
bit_puts [] bs i k = let t : (leb i k && (ltb k (i + 0) && ltb k (8 * length bs))) ≡ false = grind (arith, nat_tests) in sym (ap (λ t. cond t false (bit_at bs k)) t)
bit_puts (v ∷ vs) bs i k =
    bit_puts vs (put_bit bs i v) (i + 1) k
    ∙ ap (λ m. cond (leb (i + 1) k && (ltb k (i + 1 + length vs) && ltb k (8 * m))) (get_or vs (k - (i + 1)) false) (bit_at (put_bit bs i v) k)) (length_put bs i v)
    ∙ ap (cond (leb (i + 1) k && (ltb k (i + 1 + length vs) && ltb k (8 * length bs))) (get_or vs (k - (i + 1)) false)) (bit_put bs i v k)
    ∙ puts_step i k (length vs) (8 * length bs) v (get_or vs (k - (i + 1)) false) (get_or (v ∷ vs) (k - i) false) (bit_at bs k)
    (λ e. place 0 (omega arith))
    (λ l. place (suc (k - (i + 1))) (omega arith))
  where
    place : (d : ℕ) → k - i ≡ d → get_or (v ∷ vs) (k - i) false ≡ get_or (v ∷ vs) d false
    place d e = ap (λ n. get_or (v ∷ vs) n false) e

-- one value at the bits from i up to `to`: the first of them, and then the others
pub fill_more : (bs : List ℕ) (i to : ℕ) (v : Bool) → i < to → put_bits bs i (replicate (to - i) v) ≡ put_bits (put_bit bs i v) (i + 1) (replicate (to - (i + 1)) v)
unfolding put_bits
fill_more bs i to v h = let more : to - i ≡ suc (to - (i + 1)) = omega arith in ap (λ m. put_bits bs i (replicate m v)) more

-- where one value is written to n bits
pub bit_fill : (bs : List ℕ) (i n : ℕ) (v : Bool) (k : ℕ) → bit_at (put_bits bs i (replicate n v)) k ≡ cond (leb i k && (ltb k (i + n) && ltb k (8 * length bs))) v (bit_at bs k)
bit_fill bs i n v k =
    bit_puts (replicate n v) bs i k
    ∙ ap (λ m. cond (leb i k && (ltb k (i + m) && ltb k (8 * length bs))) (get_or (replicate n v) (k - i) false) (bit_at bs k)) (length-replicate n v)
    ∙ written (8 * length bs) (get_or (replicate n v) (k - i) false) (bit_at bs k) (λ ge lt. get_or-replicate n (k - i) v false (omega arith))
  where
    written : (m : ℕ) (w was : Bool) → (i ≤ k → k < i + n → w ≡ v) → cond (leb i k && (ltb k (i + n) && ltb k m)) w was ≡ cond (leb i k && (ltb k (i + n) && ltb k m)) v was
    written m w was e = grind (arith, nat_tests)
