-- When a store takes an offset, when it widens, and what its entries hold.
use Rattle.std.specs.Prelude.{◌≡◌, ℕ, suc, Bool, true, false, ◌&&◌, ◌||◌, List, [], ◌∷◌, map, take, ℤ, pos, negsuc, Some, None, Option, nat_le, nat_lt}
use Rattle.std.specs.Borrow.{Bor}
use Rattle.ptype.specs.Integers.{amount, integers_of}

-- a push is accepted exactly when an entry is free and the offset is at most the top
abbrev pub takes : ℕ → ℕ → ℕ → Bool
takes free top offset = nat_lt 0 free && nat_le offset top

-- a store is wide once it has accepted an offset above the greatest that its narrow entries hold
abbrev pub is_wide_after : ℕ → Bool → Bool → ℕ → Bool
is_wide_after narrow wide accepted offset = wide || (accepted && nat_lt narrow offset)

-- the numbers of the first entries, whatever their kind
abbrev pub held : {T : Type 0} → (T → ℤ) → ℕ → List T → List ℤ
held value used entries = map value (take used entries)

-- integers as offsets
abbrev pub amounts : List ℤ → List ℕ
amounts zs = map amount zs

abbrev pub is_natural : ℤ → Bool
is_natural (pos n) = true
is_natural (negsuc n) = false

-- whether none is negative
abbrev pub all_natural : List ℤ → Bool
all_natural [] = true
all_natural (z ∷ zs) = is_natural z && all_natural zs

-- a slice that is handed out has the store's offsets as its numbers; there is none exactly where an entry is negative
abbrev pub HandedOut : {T : Type 0} → (T → ℤ) → List ℤ → Option (Bor (List T)) → Type 0
HandedOut value zs None = all_natural zs ≡ false
HandedOut value zs (Some s) = (map value s.now ≡ integers_of (amounts zs)) × (all_natural zs ≡ true)

-- a store of 8-bit signed entries takes 127 where an entry is free, and never 128
pub record FixedExamples : Type 0 where
  pub takes_127 : (free : ℕ) → takes (suc free) 127 127 ≡ true
  pub not_128 : (free : ℕ) → takes free 127 128 ≡ false

-- accepted offsets at the greatest 32-bit number stay narrow, and the next one widens
pub record WideningExamples : Type 0 where
  pub signed_stays : is_wide_after 2147483647 false true 2147483647 ≡ false
  pub signed_widens : is_wide_after 2147483647 false true 2147483648 ≡ true
  pub unsigned_stays : is_wide_after 4294967295 false true 4294967295 ≡ false
  pub unsigned_widens : is_wide_after 4294967295 false true 4294967296 ≡ true
