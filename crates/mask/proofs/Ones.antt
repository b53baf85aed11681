-- The count of the set bits, byte by byte.
use Rattle.std.proofs.Common.{◌≡◌, ℕ, ◌+◌, ◌-◌, ◌*◌, ◌/◌, ◌%◌, ◌^◌, ◌<◌, ◌≤◌, min, List, ◌∷◌, length, get_or, drop, sym, ap, ◌∙◌, ⊎_elim, arith}
use lib.Bits.{bit_and}
use lib.Count.{ones}
use Rattle.std.proofs.lemmas.Bool.{cases_lt}
use Rattle.std.proofs.lemmas.List.{drop_more, length-drop}
use Rattle.mask.specs.Masks.{bit_flags, set_count}
use Rattle.mask.proofs.Bytes.{below_place}
use Rattle.mask.proofs.Flags.{count_byte, count_le, count_past, length_bits}

pub flags_le : (bs : List ℕ) (n : ℕ) → set_count (bit_flags n bs) ≤ n
flags_le bs n = omega (arith, count_le (bit_flags n bs), length_bits n bs)

-- the bits of i bytes are counted; of the whole bytes `room` are left, of all bytes `rest`
pub record Counted (bs : List ℕ) (whole i room : ℕ) (rest : List ℕ) (total : ℕ) : Type 0 where
  pub counted : total ≡ set_count (bit_flags (8 * i) bs)
  pub within : i + room ≡ whole
  pub after : rest ≡ drop i bs

-- the low r bits of a byte, counted after the bytes before it
more : (bs : List ℕ) (i r n b low t : ℕ) → t ≡ set_count (bit_flags (8 * i) bs) → b ≡ get_or bs i 0 → b < 256 → r ≤ 8 → low ≡ b % 2 ^ r → n ≡ 8 * i + r → t + ones low ≡ set_count (bit_flags n bs)
more bs i r n b low t before at fits small e f =
    ap (λ m. t + ones m) (e ∙ ap (λ b. b % 2 ^ r) at)
    ∙ ap (λ m. m + ones (get_or bs i 0 % 2 ^ r)) before
    ∙ sym (ap (λ m. set_count (bit_flags m bs)) f ∙ count_byte bs i r (omega arith) small)

-- one whole byte more
pub step : (bs : List ℕ) (whole i room : ℕ) (rest : List ℕ) (total b room' : ℕ) (rest' : List ℕ) → Counted bs whole i room rest total → rest ≡ b ∷ rest' → room' + 1 ≡ room → b < 256 → Counted bs whole (i + 1) room' rest' (total + ones b)
step bs whole i room rest total b room' rest' s e f fits =
    let some : i < length bs = omega (arith, ap length e, ap length s.after, length-drop i bs) in
    let d : b ∷ rest' ≡ get_or bs i 0 ∷ drop (i + 1) bs = sym e ∙ s.after ∙ drop_more bs i 0 some in
    record { counted = more bs i 8 _ b b total s.counted (cc) fits (omega arith) (omega arith) (omega arith); within = omega (arith, s.within); after = cc }

-- where no byte is read any more, the whole ones are behind, or all
at_end : {P : Type 0} (bs : List ℕ) (whole i room : ℕ) (rest : List ℕ) (total : ℕ) → Counted bs whole i room rest total → (0 < room → (length rest ≡ 0) × P) → min whole (length bs) ≤ i
at_end bs whole i room rest total s none =
    ⊎_elim (λ (l : 0 < room). omega (arith, (none l).0, ap length s.after, length-drop i bs)) (λ (l : room ≤ 0). omega (arith, s.within)) (cases_lt 0 room)

-- the byte that holds the last bits
pub last : {P : Type 0} (bs : List ℕ) (n i room : ℕ) (rest : List ℕ) (total b : ℕ) → Counted bs (n / 8) i room rest total → (0 < room → (length rest ≡ 0) × P) → n / 8 < length bs → b ≡ get_or bs (n / 8) 0 → b < 256 → total + ones (bit_and b (1 * 2 ^ (n % 8) % 256 - 1)) ≡ set_count (bit_flags n bs)
last bs n i room rest total b s none some at fits =
    let e : i ≡ n / 8 = omega (arith, at_end bs (n / 8) i room rest total s none, s.within) in
    more bs (n / 8) (n % 8) n b _ total (s.counted ∙ ap (λ m. set_count (bit_flags (8 * m) bs)) e) at fits (omega arith) (below_place b (n % 8) fits (omega arith)) (omega arith)

-- where there is none, nothing is left to count
pub no_last : {P : Type 0} (bs : List ℕ) (n i room : ℕ) (rest : List ℕ) (total : ℕ) → Counted bs (n / 8) i room rest total → (0 < room → (length rest ≡ 0) × P) → length bs ≤ n / 8 → total ≡ set_count (bit_flags n bs)
no_last bs n i room rest total s none all =
    let end = at_end bs (n / 8) i room rest total s none in
    let e : n ≡ 8 * i + (n - 8 * i) = omega (arith, s.within) in
    s.counted ∙ sym (ap (λ m. set_count (bit_flags m bs)) e ∙ count_past bs (8 * i) (n - 8 * i) (omega arith))
