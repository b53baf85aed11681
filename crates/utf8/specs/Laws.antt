-- What is promised of the reader: it decides the grammar, and the grammar's rows are the productions of RFC 3629.
use Rattle.std.specs.Prelude.{◌≡◌, ℕ, List, Some, None}
use Rattle.utf8.specs.Abnf.{UTF8-char}
use Rattle.utf8.specs.Grammar.{Character, ValidUtf8, FirstBad}
use Rattle.utf8.specs.Reading.{first_fault}

-- the nine rows and the productions give the same characters
pub record RowsAsWritten : Type 0 where
  pub to : (c : List ℕ) → Character c → UTF8-char c
  pub from : (c : List ℕ) → UTF8-char c → Character c

-- no fault exactly in valid UTF-8, and else the fault is where the first bad character begins
pub record ReaderDecides : Type 0 where
  pub accepts : (xs : List ℕ) → first_fault xs ≡ None → ValidUtf8 xs
  pub accepted : (xs : List ℕ) → ValidUtf8 xs → first_fault xs ≡ None
  pub refuses : (xs : List ℕ) (k : ℕ) → first_fault xs ≡ Some k → FirstBad xs k
  pub refused : (xs : List ℕ) (k : ℕ) → FirstBad xs k → first_fault xs ≡ Some k
