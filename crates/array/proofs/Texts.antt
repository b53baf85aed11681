-- The walk over the rows that judges their text.
use Rattle.std.proofs.Common.{◌≡◌, ℕ, ◌+◌, ◌-◌, ◌<◌, Bool, true, false, cond, List, ◌∷◌, map, length, get_or, drop, ℤ, is_some, Some, None, Option, sym, ap, ◌∙◌, arith, length-append, length-take, ◌≤◌}
use Rattle.std.specs.List.{range_with_len}
use Rattle.std.specs.Option.{option_map}
use Rattle.ptype.specs.Integers.{amount_at}
use Rattle.ptype.specs.Searches.{first_fall}
use Rattle.refusal.specs.Refusals.{Code, code, first_refusal}
use Rattle.utf8.specs.Grammar.{FirstBad}
use Rattle.utf8.specs.Reading.{first_fault}
use Rattle.array.specs.Columns.{row_count, slot_bytes}
use Rattle.array.specs.Opening.{row_text}
use Rattle.array.proofs.Slots.{bounds}

-- where a slot's first bad character begins is within the heap
pub bad_inside : (zs : List ℤ) (heap : List ℕ) (i k : ℕ) (s : List ℕ) → is_some (first_fall (length heap) 0 0 zs) ≡ false → i + 1 < length zs → s ≡ slot_bytes zs heap i → FirstBad s k → amount_at zs i + k < length heap
bad_inside zs heap i k s e h is bad =
    let b = bounds zs (length heap) i e h in
    let long = ap length bad.split ∙ length-append bad.good bad.rest in
    let part = ap length is ∙ length-take (amount_at zs (i + 1) - amount_at zs i) (drop (amount_at zs i) heap) in
    omega (arith, b.rise, b.stay, bad.place, bad.more)

counting_more : (i n : ℕ) → i < n → range_with_len i (n - i) ≡ i ∷ range_with_len (i + 1) (n - (i + 1))
counting_more i n h = let e : n - i ≡ Prim.Native.Nat.suc (n - (i + 1)) = omega arith in ap (range_with_len i) e

module _ (zs : List ℤ) (heap : List ℕ) (fs : List Bool) where
  -- the checks of the rows from i on
  abbrev pub rest : ℕ → Option Code
  rest i = first_refusal (map (row_text zs heap fs) (range_with_len i (row_count zs - i)))

  -- those behind i, and what the slot at i is refused for
  abbrev after : ℕ → List (Option Code)
  after i = map (row_text zs heap fs) (range_with_len (i + 1) (row_count zs - (i + 1)))

  abbrev judged : ℕ → Option Code
  judged i = option_map (λ k. code 18 i (amount_at zs i + k)) (first_fault (slot_bytes zs heap i))

  step : (i : ℕ) → i < row_count zs → rest i ≡ first_refusal (row_text zs heap fs i ∷ after i)
  step i h = ap (λ l. first_refusal (map (row_text zs heap fs) l)) (counting_more i (row_count zs) h)

  pub rest_null : (i : ℕ) → i < row_count zs → false ≡ get_or fs i false → rest (i + 1) ≡ rest i
  rest_null i h e = sym (step i h ∙ ap (λ o. first_refusal (o ∷ after i)) (ap (λ b. cond b (judged i) None) (sym e)))

  -- the row at i has its flag, and o is what reading its slot tells
  text_at : (i : ℕ) (o : Option ℕ) → i < row_count zs → true ≡ get_or fs i false → o ≡ first_fault (slot_bytes zs heap i) → rest i ≡ first_refusal (option_map (λ k. code 18 i (amount_at zs i + k)) o ∷ after i)
  text_at i o h e is = step i h ∙ ap (λ o. first_refusal (o ∷ after i)) (ap (λ b. cond b (judged i) None) (sym e) ∙ ap (option_map (λ k. code 18 i (amount_at zs i + k))) (sym is))

  pub rest_text : (i : ℕ) → i < row_count zs → true ≡ get_or fs i false → None ≡ first_fault (slot_bytes zs heap i) → rest (i + 1) ≡ rest i
  rest_text i h e good = sym (text_at i None h e good)

  pub stop : (i from k : ℕ) → i < row_count zs → true ≡ get_or fs i false → Some k ≡ first_fault (slot_bytes zs heap i) → from ≡ amount_at zs i → Some (code 18 i (from + k)) ≡ rest i
  stop i from k h e bad at = ap (λ n. Some (code 18 i (n + k))) at ∙ sym (text_at i (Some k) h e bad)

  pub all : (i : ℕ) (r : Option Code) → row_count zs ≤ i → rest i ≡ r → None ≡ r
  all i r h inv = let e : row_count zs - i ≡ 0 = omega arith in sym (ap (λ n. first_refusal (map (row_text zs heap fs) (range_with_len i n))) e) ∙ inv
