-- What a row that is handed out shows, and what a join of sources means.
use Rattle.std.specs.Prelude.{◌≡◌, ℕ, List, ◌++◌, take, Option}
use Rattle.std.specs.Borrow.{Bor}
use Rattle.std.specs.Option.{option_map}
use Rattle.slots.specs.Rows.{Row, row_of}

-- the row that an answer shows: absent, null, or what the part of memory holds
abbrev pub shown : Option (Option (Bor (List ℕ))) → Option Row
shown o = option_map (λ r. row_of (option_map (λ part. part.now) r)) o

-- the rows of two sources, one after the other, cut at the most that a source shows
abbrev pub joined_rows : List Row → List Row → List Row
joined_rows xs ys = take 4294967295 (xs ++ ys)

-- a join of joins means the rows in order, however it is bracketed
pub record JoinLaw : Type 0 where
  pub left : (xs ys zs : List Row) → joined_rows (joined_rows xs ys) zs ≡ take 4294967295 (xs ++ (ys ++ zs))
  pub right : (xs ys zs : List Row) → joined_rows xs (joined_rows ys zs) ≡ take 4294967295 (xs ++ (ys ++ zs))
