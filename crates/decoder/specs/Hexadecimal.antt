-- Bytes written as pairs of hexadecimal digits, in either case.
use Rattle.std.specs.Prelude.{ℕ, ◌+◌, ◌-◌, ◌*◌, cond, ◌&&◌, List, [], ◌∷◌, Some, None, Option, nat_le}

-- the value of a digit: 0-9, A-F or a-f
abbrev pub digit_value : ℕ → Option ℕ
digit_value d =
    cond (nat_le 48 d && nat_le d 57) (Some (d - 48))
    (cond (nat_le 65 d && nat_le d 70) (Some (d - 55))
    (cond (nat_le 97 d && nat_le d 102) (Some (d - 87)) None))

-- a byte in front of the others, where both of its digits and the others are there
abbrev pub with_byte : Option ℕ → Option ℕ → Option (List ℕ) → Option (List ℕ)
with_byte None low rest = None
with_byte (Some h) None rest = None
with_byte (Some h) (Some l) None = None
with_byte (Some h) (Some l) (Some bs) = Some ((h * 16 + l) ∷ bs)

-- the bytes of the digits; an odd digit or another byte is a fault
abbrev pub hex_bytes : List ℕ → Option (List ℕ)
hex_bytes [] = Some []
hex_bytes (a ∷ []) = None
hex_bytes (a ∷ b ∷ ds) = with_byte (digit_value a) (digit_value b) (hex_bytes ds)
