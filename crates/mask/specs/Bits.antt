-- Bits in bytes as Arrow stores them: the lowest bit of a byte comes first.
use Rattle.std.specs.Prelude.{ℕ, ◌+◌, ◌*◌, ◌/◌, ◌%◌, ◌^◌, Bool, cond, List, [], ◌∷◌, ◌==◌, slice_index, slice_set}

-- bit j of one byte
abbrev pub bit_of : ℕ → ℕ → Bool
bit_of b j = b / 2 ^ j % 2 == 1

-- bit i of a list of bytes: bit i mod 8 of byte i / 8, and false past the last byte
abbrev pub bit_at : List ℕ → ℕ → Bool
bit_at bs i = bit_of (slice_index bs (i / 8)) (i % 8)

-- byte b with its bit j made v, the bits above and below it as they were
abbrev pub with_bit : ℕ → ℕ → Bool → ℕ
with_bit b j v = b / 2 ^ (j + 1) * 2 ^ (j + 1) + cond v (2 ^ j) 0 + b % 2 ^ j

-- bytes with bit i made v; past the last byte there is nothing to write
abbrev pub put_bit : List ℕ → ℕ → Bool → List ℕ
put_bit bs i v = slice_set bs (i / 8) (with_bit (slice_index bs (i / 8)) (i % 8) v)

-- bytes with the bits from i on made vs, one after the other
unfoldable pub put_bits : List ℕ → ℕ → List Bool → List ℕ
put_bits bs i [] = bs
put_bits bs i (v ∷ vs) = put_bits (put_bit bs i v) (i + 1) vs
