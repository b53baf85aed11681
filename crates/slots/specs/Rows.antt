-- A row is a list of bytes, or null.
use Rattle.std.specs.Prelude.{ℕ, List, Some, None, Option}

pub data Row : Type 0 where
  null : Row
  bytes : List ℕ → Row

-- bytes that may be missing, as a row
abbrev pub row_of : Option (List ℕ) → Row
row_of None = null
row_of (Some bs) = bytes bs
