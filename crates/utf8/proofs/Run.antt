-- The reader along the places of a slice: one byte more, all bytes read, and the laws of the answer.
use Rattle.std.proofs.Common.{◌≡◌, ℕ, ◌+◌, ◌<◌, ◌≤◌, List, length, get_or, drop, sym}
use Rattle.std.proofs.lemmas.List.{at_drop_more, at_drop_all}
use Rattle.utf8.specs.Reading.{Reading, stepped, read_all}
use Rattle.utf8.specs.Laws.{ReaderDecides, RowsAsWritten}
use Rattle.utf8.proofs.Written.{rows_as_written}
use Rattle.utf8.proofs.Decided.{reader_decides}

-- one record, which a loop's invariant carries, so that the search finds each step of the loop
pub record Runs (xs : List ℕ) : Type 0 where
  pub more : (m : Reading) (i : ℕ) → i < length xs → read_all (stepped m i (get_or xs i 0)) (i + 1) (drop (i + 1) xs) ≡ read_all m i (drop i xs)
  pub all : (m : Reading) (i : ℕ) → length xs ≤ i → m ≡ read_all m i (drop i xs)
  pub decides : ReaderDecides
  pub written : RowsAsWritten

pub runs : (xs : List ℕ) → Runs xs
unfolding read_all
runs xs = record {
  more = λ m i h. sym (at_drop_more (read_all m i) xs i 0 h);
  all = λ m i h. sym (at_drop_all (read_all m i) xs i h);
  decides = reader_decides;
  written = rows_as_written;
}
