-- How many rows a join shows, what stands at each of its places, and the law of joins.
use Rattle.std.proofs.Common.{◌≡◌, ℕ, zero, suc, ◌+◌, ◌-◌, ◌<◌, ◌≤◌, min, List, [], ◌∷◌, ◌++◌, length, take, None, sym, refl, ap, ◌∙◌, append_assoc, arith, length-append, length-take}
use Rattle.std.specs.List.{slice_get}
use Rattle.std.proofs.lemmas.List.{take-take}
use Rattle.std.proofs.lemmas.Option.{slice_get_past}
use Rattle.slots.specs.Rows.{Row}
use Rattle.rows.specs.Sources.{joined_rows, JoinLaw}

module _ {X : Type 0} where
  pub nth_left : (xs ys : List X) (i : ℕ) → i < length xs → slice_get (xs ++ ys) i ≡ slice_get xs i
  nth_left [] ys i h = absurd (omega arith)
  nth_left (x ∷ xs) ys zero h = refl
  nth_left (x ∷ xs) ys (suc i) h = nth_left xs ys i (omega arith)

  nth_right : (xs ys : List X) (i : ℕ) → slice_get (xs ++ ys) (length xs + i) ≡ slice_get ys i
  nth_right [] ys i = ap (slice_get ys) (omega arith)
  nth_right (x ∷ xs) ys i =
      let e : suc (length xs) + i ≡ suc (length xs + i) = omega arith in
      ap (slice_get (x ∷ (xs ++ ys))) e ∙ nth_right xs ys i

  pub nth_take : (m i : ℕ) (xs : List X) → i < m → slice_get (take m xs) i ≡ slice_get xs i
  nth_take zero i xs h = absurd (omega arith)
  nth_take (suc m) i [] h = refl
  nth_take (suc m) zero (x ∷ xs) h = refl
  nth_take (suc m) (suc i) (x ∷ xs) h = nth_take m i xs (omega arith)

  -- a cut inside a cut
  take_front : (m : ℕ) (xs ys : List X) → take m (take m xs ++ ys) ≡ take m (xs ++ ys)
  take_front zero xs ys = refl
  take_front (suc m) [] ys = refl
  take_front (suc m) (x ∷ xs) ys = ap (λ l. x ∷ l) (take_front m xs ys)

  take_back : (m k : ℕ) (xs ys : List X) → m ≤ k → take m (xs ++ take k ys) ≡ take m (xs ++ ys)
  take_back zero k xs ys h = refl
  take_back (suc m) k [] ys h = take-take (suc m) k ys h
  take_back (suc m) k (x ∷ xs) ys h = ap (λ l. x ∷ l) (take_back m k xs ys (omega arith))

-- the rows of a join: how many, past the most that a source shows, of the first, and of the second behind it
module _ (xs ys : List Row) where
  pub length_joined : length (joined_rows xs ys) ≡ min 4294967295 (length xs + length ys)
  length_joined = omega (arith, length-take 4294967295 (xs ++ ys), length-append xs ys)

  pub joined_past : (i : ℕ) → 4294967295 ≤ i → None ≡ slice_get (joined_rows xs ys) i
  joined_past i h = sym (slice_get_past (joined_rows xs ys) i (omega (arith, length_joined)))

  pub joined_first : (i : ℕ) → i < 4294967295 → i < length xs → slice_get (joined_rows xs ys) i ≡ slice_get xs i
  joined_first i h within = nth_take 4294967295 i (xs ++ ys) h ∙ nth_left xs ys i within

  pub joined_second : (i : ℕ) → i < 4294967295 → length xs ≤ i → slice_get (joined_rows xs ys) i ≡ slice_get ys (i - length xs)
  joined_second i h le =
      let at : i ≡ length xs + (i - length xs) = omega arith in
      nth_take 4294967295 i (xs ++ ys) h ∙ ap (slice_get (xs ++ ys)) at ∙ nth_right xs ys (i - length xs)

pub join_law : JoinLaw
join_law = record {
  left = λ xs ys zs. take_front 4294967295 (xs ++ ys) zs ∙ ap (take 4294967295) (append_assoc xs ys zs);
  right = λ xs ys zs. take_back 4294967295 4294967295 xs (ys ++ zs) (omega arith);
}
