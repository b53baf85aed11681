-- UTF-8 by nine rows: each row of RFC 3629's syntax is a range of lead bytes, bounds of the second byte, and a count of tail bytes.
use Rattle.std.specs.Prelude.{◌≡◌, ℕ, zero, suc, ◌<◌, ◌≤◌, ◌⊎◌, List, [], ◌∷◌, ◌++◌, length}
use Rattle.std.specs.List.{flat_map}
use Rattle.utf8.specs.declared.lead.Lead.{Lead}

abbrev row : ℕ → ℕ → ℕ → ℕ → ℕ → Lead
row first last low high tails = record { first = first; last = last; low = low; high = high; tails = tails }

-- lead byte from, to; second byte from, to; bytes after the lead
abbrev pub rows : List Lead
rows =
    row 0x00 0x7F 0x80 0xBF 0
    ∷ row 0xC2 0xDF 0x80 0xBF 1
    ∷ row 0xE0 0xE0 0xA0 0xBF 2
    ∷ row 0xE1 0xEC 0x80 0xBF 2
    ∷ row 0xED 0xED 0x80 0x9F 2
    ∷ row 0xEE 0xEF 0x80 0xBF 2
    ∷ row 0xF0 0xF0 0x90 0xBF 3
    ∷ row 0xF1 0xF3 0x80 0xBF 3
    ∷ row 0xF4 0xF4 0x80 0x8F 3
    ∷ []

-- n bytes, the first within low and high, each other within hex 80 to BF
abbrev pub Tails : ℕ → ℕ → ℕ → List ℕ → Type 0
Tails zero low high [] = Unit {0}
Tails zero low high (b ∷ bs) = ⊥
Tails (suc n) low high [] = ⊥
Tails (suc n) low high (b ∷ bs) = (low ≤ b) × (b ≤ high) × Tails n 0x80 0xBF bs

-- a lead byte and its tails, by one of the rows
abbrev pub CharacterBy : List Lead → List ℕ → Type 0
CharacterBy rs [] = ⊥
CharacterBy [] (a ∷ bs) = ⊥
CharacterBy (r ∷ rs) (a ∷ bs) = ((r.first ≤ a) × (a ≤ r.last) × Tails r.tails r.low r.high bs) ⊎ CharacterBy rs (a ∷ bs)

abbrev pub Character : List ℕ → Type 0
Character c = CharacterBy rows c

abbrev pub Characters : List (List ℕ) → Type 0
Characters [] = Unit {0}
Characters (c ∷ cs) = Character c × Characters cs

-- characters, one after the other
pub record ValidUtf8 (xs : List ℕ) : Type 0 where
  pub characters : List (List ℕ)
  pub each : Characters characters
  pub whole : flat_map (λ c. c) characters ≡ xs

-- the first bad character begins at place k: the bytes before it are UTF-8, there is a byte at k, and no character begins there
pub record FirstBad (xs : List ℕ) (k : ℕ) : Type 0 where
  pub good : List ℕ
  pub rest : List ℕ
  pub split : xs ≡ good ++ rest
  pub place : length good ≡ k
  pub text : ValidUtf8 good
  pub more : 0 < length rest
  pub none : (c after : List ℕ) → rest ≡ c ++ after → Character c → ⊥
