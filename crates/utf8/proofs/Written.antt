-- The nine rows say what the productions of RFC 3629 say.
use Rattle.std.proofs.Common.{ℕ, List, [], ◌∷◌, arith}
use Rattle.utf8.specs.Abnf.{UTF8-char}
use Rattle.utf8.specs.Grammar.{Character}
use Rattle.utf8.specs.Laws.{RowsAsWritten}

rows_to : (c : List ℕ) → Character c → UTF8-char c
rows_to [] h = h
rows_to (a ∷ []) h = grind arith
rows_to (a ∷ b ∷ []) h = grind arith
rows_to (a ∷ b ∷ c ∷ []) h = grind arith
rows_to (a ∷ b ∷ c ∷ d ∷ []) h = grind arith
rows_to (a ∷ b ∷ c ∷ d ∷ e ∷ es) h = grind arith

to_rows : (c : List ℕ) → UTF8-char c → Character c
to_rows [] h = h
to_rows (a ∷ []) h = grind arith
to_rows (a ∷ b ∷ []) h = grind arith
to_rows (a ∷ b ∷ c ∷ []) h = grind arith
to_rows (a ∷ b ∷ c ∷ d ∷ []) h = grind arith
to_rows (a ∷ b ∷ c ∷ d ∷ e ∷ es) h = absurd h

pub rows_as_written : RowsAsWritten
rows_as_written = record { to = rows_to; from = to_rows }
