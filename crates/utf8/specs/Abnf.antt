-- The productions of RFC 3629, section 4, one definition for each, as they stand there.
use Rattle.std.specs.Prelude.{ℕ, ◌≤◌, ◌⊎◌, List, [], ◌∷◌}

-- %xLOW-HIGH
abbrev pub Within : ℕ → ℕ → ℕ → Type 0
Within low high b = (low ≤ b) × (b ≤ high)

-- UTF8-tail = %x80-BF
abbrev pub UTF8-tail : ℕ → Type 0
UTF8-tail b = Within 0x80 0xBF b

-- UTF8-1 = %x00-7F
abbrev pub UTF8-1 : ℕ → Type 0
UTF8-1 a = Within 0x00 0x7F a

-- UTF8-2 = %xC2-DF UTF8-tail
abbrev pub UTF8-2 : ℕ → ℕ → Type 0
UTF8-2 a b = Within 0xC2 0xDF a × UTF8-tail b

-- UTF8-3 = %xE0 %xA0-BF UTF8-tail / %xE1-EC 2( UTF8-tail ) / %xED %x80-9F UTF8-tail / %xEE-EF 2( UTF8-tail )
abbrev pub UTF8-3 : ℕ → ℕ → ℕ → Type 0
UTF8-3 a b c =
    (Within 0xE0 0xE0 a × Within 0xA0 0xBF b × UTF8-tail c)
    ⊎ ((Within 0xE1 0xEC a × UTF8-tail b × UTF8-tail c)
    ⊎ ((Within 0xED 0xED a × Within 0x80 0x9F b × UTF8-tail c)
    ⊎ (Within 0xEE 0xEF a × UTF8-tail b × UTF8-tail c)))

-- UTF8-4 = %xF0 %x90-BF 2( UTF8-tail ) / %xF1-F3 3( UTF8-tail ) / %xF4 %x80-8F 2( UTF8-tail )
abbrev pub UTF8-4 : ℕ → ℕ → ℕ → ℕ → Type 0
UTF8-4 a b c d =
    (Within 0xF0 0xF0 a × Within 0x90 0xBF b × UTF8-tail c × UTF8-tail d)
    ⊎ ((Within 0xF1 0xF3 a × UTF8-tail b × UTF8-tail c × UTF8-tail d)
    ⊎ (Within 0xF4 0xF4 a × Within 0x80 0x8F b × UTF8-tail c × UTF8-tail d))

-- UTF8-char = UTF8-1 / UTF8-2 / UTF8-3 / UTF8-4
abbrev pub UTF8-char : List ℕ → Type 0
UTF8-char [] = ⊥
UTF8-char (a ∷ []) = UTF8-1 a
UTF8-char (a ∷ b ∷ []) = UTF8-2 a b
UTF8-char (a ∷ b ∷ c ∷ []) = UTF8-3 a b c
UTF8-char (a ∷ b ∷ c ∷ d ∷ []) = UTF8-4 a b c d
UTF8-char (a ∷ b ∷ c ∷ d ∷ e ∷ es) = ⊥
