-- The search for the next set bit, byte by byte.
use Rattle.std.proofs.Common.{◌≡◌, ℕ, ◌+◌, ◌-◌, ◌*◌, ◌%◌, ◌^◌, ◌<◌, ◌≤◌, Bool, true, false, ◌&&◌, eqb, leb, ltb, w8, ◌⊎◌, inl, List, length, get_or, Some, None, sym, ap, ◌∙◌, ⊎_elim, arith}
use lib.Bits.{bit_and}
use lib.Count.{count_trailing_zeros}
use Rattle.std.proofs.lemmas.Nat.{and_le_l}
use Rattle.std.proofs.lemmas.Nat.Bits.{bit_at-trailing_zeros}
use Rattle.std.specs.Bool.{then_some}
use Rattle.std.proofs.lemmas.Bool.{and_parts, cases_lt, le-leb, le-ltb, leb-true, lt-leb, lt-ltb}
use Rattle.std.proofs.lemmas.Bool.Decides.{nat_tests}
use Rattle.mask.specs.Bits.{bit_of, bit_at}
use Rattle.mask.specs.Masks.{bit_flags, next_set}
use Rattle.mask.proofs.Bytes.{no_bit, from_bit}
use Rattle.mask.proofs.Flags.{next_by, flag_at, flag_past, length_bits, bit_of_byte, bit_past}

-- the bits from a place on, those before it unset
abbrev pub bit_from : List ℕ → ℕ → ℕ → Bool
bit_from bs from k = leb from k && bit_at bs k

from_on : (bs : List ℕ) (from k : ℕ) → from ≤ k → bit_from bs from k ≡ bit_at bs k
from_on bs from k ge = ap (λ t. t && bit_at bs k) (le-leb from k ge)

pub before_from : (bs : List ℕ) (from k : ℕ) → k < from → bit_from bs from k ≡ false
before_from bs from k lt = ap (λ t. t && bit_at bs k) (lt-leb from k lt)

-- at byte i: f is unset before the byte, and left has f's flags in the byte
pub record Seek (f : ℕ → Bool) (i left : ℕ) : Type 0 where
  pub before : (k : ℕ) → k < 8 * i → f k ≡ false
  pub here : (q : ℕ) → q < 8 → bit_of left q ≡ f (8 * i + q)
  pub byte : left < 256

-- what the code keeps of byte i, the bits before `from` cleared
pub seek : (bs : List ℕ) (from i b keep : ℕ) → ((k : ℕ) → k < 8 * i → bit_from bs from k ≡ false) → from < 8 * (i + 1) → keep ≡ 255 * 2 ^ (from - 8 * i) % 256 → b ≡ get_or bs i 0 → b < 256 → Seek (bit_from bs from) i (bit_and b keep)
seek bs from i b keep before near e at fits = record {
  before = before;
  here = λ q h.
      ap (λ m. bit_of (bit_and b m) q) e
      ∙ from_bit b (from - 8 * i) q fits (omega arith)
      ∙ ap (λ t. t && bit_of b q) (tests q)
      ∙ ap (λ n. leb from (8 * i + q) && bit_of n q) at
      ∙ ap (λ t. leb from (8 * i + q) && t) (sym (bit_of_byte bs i q h));
  byte = let l = and_le_l b keep in omega arith;
}
  where
    tests : (q : ℕ) → leb (from - 8 * i) q ≡ leb from (8 * i + q)
    tests q = grind (arith, nat_tests)

-- where the lowest bits of the byte are unset, so is f up to there
unset_upto : (f : ℕ → Bool) (i left top : ℕ) → Seek f i left → top ≤ 8 → ((q : ℕ) → q < top → bit_of left q ≡ false) → (k : ℕ) → k < 8 * i + top → f k ≡ false
unset_upto f i left top s t unset k lt =
    ⊎_elim (λ (l : k < 8 * i). s.before k l)
    (λ (l : 8 * i ≤ k).
    let e : 8 * i + (k - 8 * i) ≡ k = omega arith in
    ap f (sym e) ∙ sym (s.here (k - 8 * i) (omega arith)) ∙ unset (k - 8 * i) (omega arith))
    (cases_lt k (8 * i))

pub none_here : (f : ℕ → Bool) (i left : ℕ) → Seek f i left → left ≡ 0 → (k : ℕ) → k < 8 * (i + 1) → f k ≡ false
none_here f i left s z k lt = unset_upto f i left 8 s (omega arith) (λ q h. ap (λ b. bit_of b q) z ∙ no_bit q) k (omega arith)

-- f is first set at p
pub record Hit (f : ℕ → Bool) (p : ℕ) : Type 0 where
  pub is_set : f p ≡ true
  pub first : (k : ℕ) → k < p → f k ≡ false

pub hit : (f : ℕ → Bool) (i left : ℕ) → Seek f i left → 0 < left → Hit f (8 * i + count_trailing_zeros 8 left)
hit f i left s p =
    let lowest = bit_at-trailing_zeros w8 left p s.byte in
    record {
      is_set = sym (s.here (count_trailing_zeros 8 left) lowest.0) ∙ ap (λ n. eqb n 1) lowest.1;
      first = unset_upto f i left (count_trailing_zeros 8 left) s (omega (arith, lowest.0)) (λ q h. ap (λ n. eqb n 1) (lowest.2 q h));
    }

-- the answers: a place below n, or none where no bit is left
pub found : (bs : List ℕ) (from n p : ℕ) → Hit (bit_from bs from) p → p < n → Some p ≡ next_set from (bit_flags n bs)
found bs from n p h lt =
    let both = and_parts (leb from p) (bit_at bs p) h.is_set in
    let inside = length_bits n bs in
    next_by from (bit_flags n bs) (Some p) (
      leb-true from p both.0,
      omega arith,
      flag_at n bs p lt ∙ both.1,
      λ k ge less. flag_at n bs k (omega arith) ∙ sym (from_on bs from k ge) ∙ h.first k less,
    )

pub not_found : (bs : List ℕ) (from n top : ℕ) → ((k : ℕ) → k < top → bit_from bs from k ≡ false) → (n ≤ top) ⊎ (8 * length bs ≤ top) → None ≡ next_set from (bit_flags n bs)
not_found bs from n top unset end = next_by from (bit_flags n bs) None (λ k ge. ⊎_elim (λ (l : k < n). flag_at n bs k l ∙ at k ge l) (flag_past n bs k) (cases_lt k n))
  where
    at : (k : ℕ) → from ≤ k → k < n → bit_at bs k ≡ false
    at k ge l = ⊎_elim (λ (t : k < top). sym (from_on bs from k ge) ∙ unset k t) (λ (t : top ≤ k). bit_past bs k (⊎_elim (λ (e : n ≤ top). absurd (omega arith)) (λ (e : 8 * length bs ≤ top). omega arith) end)) (cases_lt k top)

-- the answer at the first place that is set: it counts below n only
pub place : (bs : List ℕ) (from n p : ℕ) → Hit (bit_from bs from) p → then_some (ltb p n) p ≡ next_set from (bit_flags n bs)
place bs from n p h =
    ⊎_elim
    (λ (l : p < n). ap (λ t. then_some t p) (lt-ltb p n l) ∙ found bs from n p h l)
    (λ (l : n ≤ p). ap (λ t. then_some t p) (le-ltb p n l) ∙ not_found bs from n p h.first (inl l))
    (cases_lt p n)
