-- What a mask means: a list of flags.
use Rattle.std.specs.Prelude.{ℕ, ◌+◌, ◌*◌, Bool, true, false, List, [], ◌∷◌, map, length, drop, replicate, Some, None, Option, nat_le}
use Rattle.std.specs.List.{range_with_len}
use Rattle.mask.specs.Bits.{bit_at}
use Rattle.mask.specs.declared.mask.Mask.{Mask}
use Rattle.mask.specs.declared.mask.Mask.TheVariants.{AllTrue, AllFalse, Values}

-- the first n bits of some bytes
abbrev pub bit_flags : ℕ → List ℕ → List Bool
bit_flags n bs = map (bit_at bs) (range_with_len 0 n)

-- n set, n unset, or the first n of the bits
abbrev pub flags : Mask → List Bool
flags (AllTrue n) = replicate n true
flags (AllFalse n) = replicate n false
flags (Values n bs) = bit_flags n bs.now

-- whether there is a bit for each flag
abbrev pub covered : Mask → Bool
covered (AllTrue n) = true
covered (AllFalse n) = true
covered (Values n bs) = nat_le n (8 * length bs.now)

-- how many flags are set
abbrev pub set_count : List Bool → ℕ
set_count [] = 0
set_count (true ∷ fs) = 1 + set_count fs
set_count (false ∷ fs) = set_count fs

-- the place of the first set flag, where the list's first flag has place p
abbrev pub first_set : ℕ → List Bool → Option ℕ
first_set p [] = None
first_set p (true ∷ fs) = Some p
first_set p (false ∷ fs) = first_set (p + 1) fs

-- the first set flag at place p or after it
abbrev pub next_set : ℕ → List Bool → Option ℕ
next_set p fs = first_set p (drop p fs)
