-- When offsets cut a heap into strings of UTF-8, by one pass over the heap.
use Rattle.std.specs.Prelude.{◌≡◌, ℕ, ◌-◌, ◌<◌, ◌≤◌, ◌⊎◌, List, [], ◌∷◌, ◌++◌, length, ℤ, None, slice_index}
use Rattle.std.specs.List.{between}
use Rattle.ptype.specs.Integers.{amount_at, integers_of}
use Rattle.ptype.specs.Searches.{first_fall}
use Rattle.slots.specs.Slots.{Slot, offsets_from, heap_of}
use Rattle.utf8.specs.Grammar.{ValidUtf8}

-- a place at the heap's end, or whose byte is outside hex 80 to BF
abbrev pub Boundary : List ℕ → ℕ → Type 0
Boundary heap o = (o ≡ length heap) ⊎ ((0x80 ≤ slice_index heap o) × (slice_index heap o ≤ 0xBF) → ⊥)

-- offsets exist; none is negative, falls or leaves the heap; first to last is UTF-8; and each points at a boundary
pub record Tiles (offsets : List ℤ) (heap : List ℕ) : Type 0 where
  pub some : 0 < length offsets
  pub rising : first_fall (length heap) 0 0 offsets ≡ None
  pub text : ValidUtf8 (between (amount_at offsets 0) (amount_at offsets (length offsets - 1)) heap)
  pub boundaries : (i : ℕ) → i < length offsets → Boundary heap (amount_at offsets i)

-- each slot is UTF-8 on its own, null ones too
abbrev pub EachUtf8 : List Slot → Type 0
EachUtf8 [] = Unit {0}
EachUtf8 (s ∷ ss) = ValidUtf8 s.content × EachUtf8 ss

-- where slots stand behind some first bytes, the check says yes exactly when each slot is UTF-8
pub record TilingLaw : Type 0 where
  pub to : (first : List ℕ) (ss : List Slot) → Tiles (integers_of (offsets_from (length first) ss)) (first ++ heap_of ss) → EachUtf8 ss
  pub from : (first : List ℕ) (ss : List Slot) → EachUtf8 ss → Tiles (integers_of (offsets_from (length first) ss)) (first ++ heap_of ss)

-- C2 B5 is one character: whole it tiles, cut in its middle it does not; nor do two offsets at a byte that no character begins with
pub record TilingExamples : Type 0 where
  pub whole : Tiles (integers_of (0 ∷ 2 ∷ [])) (0xC2 ∷ 0xB5 ∷ [])
  pub cut : Tiles (integers_of (0 ∷ 1 ∷ 2 ∷ [])) (0xC2 ∷ 0xB5 ∷ []) → ⊥
  pub empty : Tiles (integers_of (0 ∷ 0 ∷ [])) (0xB5 ∷ []) → ⊥
