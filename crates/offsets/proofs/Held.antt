-- The offsets of a store: how many there are, which stands at a place, and what one push more adds. In each, value gives the integer of an entry.
use Rattle.std.proofs.Common.{◌≡◌, ℕ, ◌+◌, ◌<◌, ◌≤◌, min, List, [], ◌∷◌, ◌++◌, map, length, get_or, take, set, ℤ, pos, ltb, is_some, IfSome, Some, None, Option, sym, ap, ◌∙◌, arith, unwrap_or}
use Rattle.std.specs.List.{slice_get}
use Rattle.std.proofs.lemmas.List.{length-map, length-take, get_or-map, get_or-take, map_push, take-map, take_more, take_more_set, map-set}
use Rattle.std.proofs.lemmas.Option.{slice_get-get_or, slice_get_past}
use Rattle.std.proofs.lemmas.Bool.Decides.{nat_tests}
use Rattle.ptype.specs.Integers.{amount, amount_at}
use Rattle.offsets.specs.Stores.{held, amounts}

pub length_offsets : {X : Type 0} (value : X → ℤ) (used : ℕ) (xs : List X) → length (amounts (held value used xs)) ≡ min used (length xs)
length_offsets value used xs = length-map (held value used xs) amount ∙ length-map (take used xs) value ∙ length-take used xs

-- the number of an entry that was read at a place
pub entry_is : {X : Type 0} (value : X → ℤ) (xs : List X) (i : ℕ) (x : X) (n : ℕ) → i < length xs → x ≡ get_or xs i x → n ≡ amount (value x) → n ≡ amount_at (map value xs) i
entry_is value xs i x n h is e = e ∙ ap (λ y. amount (value y)) is ∙ sym (ap amount (get_or-map value xs i x (pos 0) h))

-- a number that is read is no greater than any bound on it
pub entry_bound : (o : Option ℕ) (most n : ℕ) → IfSome o (λ m. m ≤ most) → n ≡ unwrap_or o 0 → n ≤ most
entry_bound None most n h e = omega arith
entry_bound (Some m) most n h e = omega arith

-- a write within the entries
pub written : {X : Type 0} (value : X → ℤ) (xs : List X) (i : ℕ) (x : X) (offset : ℕ) → value x ≡ pos offset → map value (set xs i x) ≡ set (map value xs) i (pos offset)
written value xs i x offset is = map-set value xs i x ∙ ap (set (map value xs) i) is

-- the offset at a place is the number of the entry there
pub offset_at : {X : Type 0} (value : X → ℤ) (used : ℕ) (xs : List X) (i : ℕ) → i < used → i < length xs → slice_get (amounts (held value used xs)) i ≡ Some (amount_at (map value xs) i)
offset_at value used xs i low high =
    let zs = map value xs in
    let many : i < length (take used zs) = omega (arith, length-take used zs, length-map xs value) in
    ap (λ l. slice_get (amounts l) i) (sym (take-map value used xs))
    ∙ slice_get-get_or (amounts (take used zs)) i 0 (omega (arith, length-map (take used zs) amount))
    ∙ ap (λ n. Some n) (get_or-map amount (take used zs) i (pos 0) 0 many ∙ ap amount (get_or-take used zs i (pos 0) low))

-- and there is none from their number on
pub offset_past : {X : Type 0} (value : X → ℤ) (used : ℕ) (xs : List X) (i : ℕ) → min used (length xs) ≤ i → slice_get (amounts (held value used xs)) i ≡ None
offset_past value used xs i h = slice_get_past (amounts (held value used xs)) i (omega (arith, length_offsets value used xs))

-- an entry that is read below the number of offsets is the offset there
pub offset_read : {X : Type 0} (value : X → ℤ) (used : ℕ) (xs : List X) (i n : ℕ) (P : ℕ → Type 0) (r : Option ℕ) → n ≡ length (amounts (held value used xs)) → is_some r ≡ ltb i n → IfSome r P → ((m : ℕ) → P m → m ≡ amount_at (map value xs) i) → r ≡ slice_get (amounts (held value used xs)) i
offset_read value used xs i n P None e is h read =
    let past : n ≤ i = grind (arith, nat_tests) in
    sym (offset_past value used xs i (omega (arith, length_offsets value used xs)))
offset_read value used xs i n P (Some m) e is h read =
    let below : i < n = grind (arith, nat_tests) in
    let many = length_offsets value used xs in
    ap (λ k. Some k) (read m h) ∙ sym (offset_at value used xs i (omega arith) (omega arith))

-- once the entry after the last is written, the store holds one number more
pub held_more : {X : Type 0} (value : X → ℤ) (used : ℕ) (xs ys : List X) (offset : ℕ) → used < length xs → map value ys ≡ set (map value xs) used (pos offset) → held value (used + 1) ys ≡ held value used xs ++ pos offset ∷ []
held_more value used xs ys offset h written =
    sym (take-map value (used + 1) ys) ∙ ap (take (used + 1)) written
    ∙ take_more_set (map value xs) used (pos offset) (omega (arith, length-map xs value))
    ∙ ap (λ l. l ++ pos offset ∷ []) (take-map value used xs)

pub offsets_more : {X : Type 0} (value : X → ℤ) (used : ℕ) (xs ys : List X) (offset : ℕ) → used < length xs → map value ys ≡ set (map value xs) used (pos offset) → amounts (held value (used + 1) ys) ≡ amounts (held value used xs) ++ offset ∷ []
offsets_more value used xs ys offset h written = ap amounts (held_more value used xs ys offset h written) ∙ map_push amount (held value used xs) (pos offset)

-- one entry further
pub held_next : {X : Type 0} (value : X → ℤ) (i : ℕ) (xs : List X) → i < length xs → held value (i + 1) xs ≡ held value i xs ++ get_or (map value xs) i (pos 0) ∷ []
held_next value i xs h =
    sym (take-map value (i + 1) xs)
    ∙ take_more (map value xs) i (pos 0) (omega (arith, length-map xs value))
    ∙ ap (λ l. l ++ get_or (map value xs) i (pos 0) ∷ []) (take-map value i xs)
