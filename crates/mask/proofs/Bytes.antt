-- Laws of one byte. What the code computes is compared with the meaning by a test at each of the 256 bytes.
use Rattle.std.proofs.Common.{◌≡◌, ℕ, ◌+◌, ◌-◌, ◌*◌, ◌/◌, ◌%◌, ◌^◌, ◌<◌, ◌≤◌, Bool, true, false, cond, ◌&&◌, eqb, leb, map, sym, refl, ap, ◌∙◌, ⊎_elim, add-zero, add_assoc, arith}
use lib.Bits.{bit_and, bit_or}
use lib.Count.{ones, ones_in}
use Rattle.std.specs.List.{range_with_len}
use Rattle.std.proofs.lemmas.Nat.{pow_pos, pow-add, shr_split, mod_below, mul-add-lt}
use Rattle.std.proofs.lemmas.Nat.Bits.{bit_at-zero, bit_at_cat_high, bit_at_cat_low}
use Rattle.std.proofs.lemmas.Bool.{agree_below, agree_below_at, eqb-true, le-leb, lt-leb, eq-eqb, ne_eqb, cases_lt, cases_order}
use Rattle.mask.specs.Bits.{bit_of, with_bit}
use Rattle.mask.specs.Masks.{set_count}

-- two numbers made from a byte and a place are equal where a test finds them equal at each byte and each place below n
same_at : (n : ℕ) (x y : ℕ → ℕ → ℕ) → agree_below (λ b. agree_below (λ j. eqb (x b j) (y b j)) (λ _. true) n) (λ _. true) 256 ≡ true → (b j : ℕ) → b < 256 → j < n → x b j ≡ y b j
same_at n x y t b j h g =
    let at = agree_below_at (λ b. agree_below (λ j. eqb (x b j) (y b j)) (λ _. true) n) (λ _. true) 256 b t h in
    eqb-true _ _ (agree_below_at (λ j. eqb (x b j) (y b j)) (λ _. true) n j at g)

pub or_bit : (b j : ℕ) → b < 256 → j < 8 → bit_or b (1 * 2 ^ j % 256) ≡ with_bit b j true
or_bit = same_at 8 (λ b j. bit_or b (1 * 2 ^ j % 256)) (λ b j. with_bit b j true) refl

pub and_bit : (b j : ℕ) → b < 256 → j < 8 → bit_and b (255 - 1 * 2 ^ j % 256) ≡ with_bit b j false
and_bit = same_at 8 (λ b j. bit_and b (255 - 1 * 2 ^ j % 256)) (λ b j. with_bit b j false) refl

-- the bits from place j on
from_place : (b j : ℕ) → b < 256 → j < 8 → bit_and b (255 * 2 ^ j % 256) ≡ b / 2 ^ j * 2 ^ j
from_place = same_at 8 (λ b j. bit_and b (255 * 2 ^ j % 256)) (λ b j. b / 2 ^ j * 2 ^ j) refl

-- what `byte & (1 << j) - 1` leaves
pub below_place : (b j : ℕ) → b < 256 → j < 8 → bit_and b (1 * 2 ^ j % 256 - 1) ≡ b % 2 ^ j
below_place = same_at 8 (λ b j. bit_and b (1 * 2 ^ j % 256 - 1)) (λ b j. b % 2 ^ j) refl

-- the ones among the lowest j bits
pub ones_low : (b j : ℕ) → b < 256 → j < 9 → ones (b % 2 ^ j) ≡ set_count (map (bit_of b) (range_with_len 0 j))
unfolding ones ones_in
ones_low = same_at 9 (λ b j. ones (b % 2 ^ j)) (λ b j. set_count (map (bit_of b) (range_with_len 0 j))) refl

-- ---- the bits of hi * 2 ^ k + lo, where lo is below 2 ^ k

bit_high : (hi k lo q : ℕ) → lo < 2 ^ k → k ≤ q → bit_of (hi * 2 ^ k + lo) q ≡ bit_of hi (q - k)
bit_high hi k lo q h g = ap (λ n. eqb n 1) (bit_at_cat_high hi k lo q h g)

bit_low : (hi k lo q : ℕ) → q < k → bit_of (hi * 2 ^ k + lo) q ≡ bit_of lo q
bit_low hi k lo q g = ap (λ n. eqb n 1) (bit_at_cat_low hi k lo q g)

-- a bit of b, read in its upper or its lower part
bit_upper : (b k q : ℕ) → k ≤ q → bit_of b q ≡ bit_of (b / 2 ^ k) (q - k)
bit_upper b k q g = ap (λ n. bit_of n q) (sym (shr_split b k)) ∙ bit_high (b / 2 ^ k) k (b % 2 ^ k) q (mod_below b (2 ^ k) (pow_pos k)) g

bit_lower : (b k q : ℕ) → q < k → bit_of b q ≡ bit_of (b % 2 ^ k) q
bit_lower b k q g = ap (λ n. bit_of n q) (sym (shr_split b k)) ∙ bit_low (b / 2 ^ k) k (b % 2 ^ k) q g

pub no_bit : (q : ℕ) → bit_of 0 q ≡ false
no_bit q = ap (λ n. eqb n 1) (bit_at-zero q)

abbrev one : Bool → ℕ
one v = cond v 1 0

-- bit j is v, and each other bit is as it was
pub with_bit_lem : (b j : ℕ) (v : Bool) (q : ℕ) → bit_of (with_bit b j v) q ≡ cond (eqb q j) v (bit_of b q)
with_bit_lem b j v q =
    let low = one v * 2 ^ j + b % 2 ^ j in
    let parts : with_bit b j v ≡ b / 2 ^ (j + 1) * 2 ^ (j + 1) + low =
    ap (λ n. b / 2 ^ (j + 1) * 2 ^ (j + 1) + n + b % 2 ^ j) (made v) ∙ add_assoc (b / 2 ^ (j + 1) * 2 ^ (j + 1)) (one v * 2 ^ j) (b % 2 ^ j) in
    let rest = mod_below b (2 ^ j) (pow_pos j) in
    let small : low < 2 ^ (j + 1) = omega (arith, mul-add-lt (one v) (2 ^ j) (b % 2 ^ j) 2 (below v) rest, pow-add 2 j 1) in
    ap (λ n. bit_of n q) parts ∙ ⊎_elim
    (λ (e : q ≡ j).
    let here : q - j ≡ 0 = omega arith in
    bit_low (b / 2 ^ (j + 1)) (j + 1) low q (omega arith)
    ∙ bit_high (one v) j (b % 2 ^ j) q rest (omega arith)
    ∙ ap (bit_of (one v)) here
    ∙ is_one v
    ∙ ap (λ t. cond t v (bit_of b q)) (sym (eq-eqb q j e)))
    (⊎_elim
    (λ (l : q < j).
    bit_low (b / 2 ^ (j + 1)) (j + 1) low q (omega arith)
    ∙ bit_low (one v) j (b % 2 ^ j) q l
    ∙ sym (bit_lower b j q l)
    ∙ ap (λ t. cond t v (bit_of b q)) (sym (ne_eqb q j (λ e. omega arith))))
    (λ (l : j < q).
    bit_high (b / 2 ^ (j + 1)) (j + 1) low q small (omega arith)
    ∙ sym (bit_upper b (j + 1) q (omega arith))
    ∙ ap (λ t. cond t v (bit_of b q)) (sym (ne_eqb q j (λ e. omega arith)))))
    (cases_order q j)
  where
    made : (v : Bool) → cond v (2 ^ j) 0 ≡ one v * 2 ^ j
    made true = omega arith
    made false = omega arith

    below : (v : Bool) → one v < 2
    below true = omega arith
    below false = omega arith

    is_one : (v : Bool) → bit_of (one v) 0 ≡ v
    is_one true = refl
    is_one false = refl

-- the mask of the bits from place r on
pub from_bit : (b r q : ℕ) → b < 256 → r < 8 → bit_of (bit_and b (255 * 2 ^ r % 256)) q ≡ (leb r q && bit_of b q)
from_bit b r q h g =
    ap (λ n. bit_of n q) (from_place b r h g ∙ sym (add-zero (b / 2 ^ r * 2 ^ r))) ∙ ⊎_elim
    (λ (l : q < r). bit_low (b / 2 ^ r) r 0 q l ∙ no_bit q ∙ ap (λ t. t && bit_of b q) (sym (lt-leb r q l)))
    (λ (l : r ≤ q). bit_high (b / 2 ^ r) r 0 q (pow_pos r) l ∙ sym (bit_upper b r q l) ∙ ap (λ t. t && bit_of b q) (sym (le-leb r q l)))
    (cases_lt q r)
