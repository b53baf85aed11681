-- One step of each search over the integers of a slice: f is the integer of an element, x is the element at i, and o is its number or none.
use Rattle.std.proofs.Common.{◌≡◌, ℕ, ◌+◌, ◌-◌, ◌^◌, ◌<◌, ◌≤◌, Bool, true, false, cond, ◌&&◌, List, [], ◌∷◌, map, length, get_or, drop, ℤ, pos, negsuc, Some, None, Option, unwrap_or, sym, refl, ap, ◌∙◌, ⊎_elim, arith}
use Rattle.std.specs.Prelude.{nat_le, nat_lt}
use Rattle.std.proofs.lemmas.List.{drop_more, drop_all, at_drop_all, get_or_past, length-map}
use Rattle.std.proofs.lemmas.Bool.{cases_lt}
use Rattle.std.proofs.lemmas.Bool.Decides.{nat_tests}
use Rattle.ptype.specs.Integers.{natural}
use Rattle.ptype.specs.Searches.{first_not_below, first_fall, first_overrun, total, in_u64}
use Rattle.ptype.proofs.Naturals.{next, amount_or}

-- ---- what a number at place i, with the integers behind it, makes of a search

abbrev pub fall_from : ℕ → ℕ → ℕ → List ℤ → Option ℕ → Option ℕ
fall_from limit low i zs None = Some i
fall_from limit low i zs (Some n) = cond (nat_le low n && nat_le n limit) (first_fall limit n (i + 1) zs) (Some i)

fall_first : (limit low i : ℕ) (z : ℤ) (zs : List ℤ) → first_fall limit low i (z ∷ zs) ≡ fall_from limit low i zs (natural z)
unfolding first_fall
fall_first limit low i (pos n) zs = refl
fall_first limit low i (negsuc n) zs = refl

abbrev pub overrun_from : ℕ → ℕ → List ℤ → Option ℕ → Option ℕ
overrun_from left i zs None = Some i
overrun_from left i zs (Some n) = cond (nat_le 0 n && nat_le n left) (first_overrun (left - n) (i + 1) zs) (Some i)

overrun_first : (left i : ℕ) (z : ℤ) (zs : List ℤ) → first_overrun left i (z ∷ zs) ≡ overrun_from left i zs (natural z)
unfolding first_overrun
overrun_first left i (pos n) zs = refl
overrun_first left i (negsuc n) zs = refl

abbrev pub not_below_from : ℕ → ℕ → List Bool → List ℤ → Bool → Option ℕ → Option ℕ
not_below_from limit i fs zs false o = first_not_below limit (i + 1) fs zs
not_below_from limit i fs zs true None = Some i
not_below_from limit i fs zs true (Some n) = cond (nat_lt n limit) (first_not_below limit (i + 1) fs zs) (Some i)

not_below_first : (limit i : ℕ) (b : Bool) (fs : List Bool) (z : ℤ) (zs : List ℤ) → first_not_below limit i (b ∷ fs) (z ∷ zs) ≡ not_below_from limit i fs zs b (natural z)
unfolding first_not_below
not_below_first limit i false fs z zs = refl
not_below_first limit i true fs (pos n) zs = refl
not_below_first limit i true fs (negsuc n) zs = refl

-- past the last flag none is set
no_flags : (limit i : ℕ) (zs : List ℤ) → first_not_below limit i [] zs ≡ None
unfolding first_not_below
no_flags limit i [] = refl
no_flags limit i (z ∷ zs) = refl

not_below_at : (limit i : ℕ) (fs : List Bool) (z : ℤ) (zs : List ℤ) → first_not_below limit i (drop i fs) (z ∷ zs) ≡ not_below_from limit i (drop (i + 1) fs) zs (get_or fs i false) (natural z)
not_below_at limit i fs z zs =
    ⊎_elim
    (λ (h : i < length fs). ap (λ l. first_not_below limit i l (z ∷ zs)) (drop_more fs i false h) ∙ not_below_first limit i (get_or fs i false) (drop (i + 1) fs) z zs)
    (λ (h : length fs ≤ i).
    ap (λ l. first_not_below limit i l (z ∷ zs)) (drop_all i fs h) ∙ no_flags limit i (z ∷ zs)
    ∙ sym (ap (λ l. first_not_below limit (i + 1) l zs) (drop_all (i + 1) fs (omega arith)) ∙ no_flags limit (i + 1) zs)
    ∙ sym (ap (λ b. not_below_from limit i (drop (i + 1) fs) zs b (natural z)) (get_or_past fs i false h)))
    (cases_lt i (length fs))

-- ---- a step

module _ {X : Type 0} (f : X → ℤ) (xs : List X) (i : ℕ) (x : X) (is : x ≡ get_or xs i x) (h : i < length xs) (o : Option ℕ) (e : o ≡ natural (f x)) where
  -- the integers behind the one at i
  abbrev rest : List ℤ
  rest = drop (i + 1) (map f xs)

  here : drop i (map f xs) ≡ f x ∷ rest
  here = next f xs i x h ∙ ap (λ y. f y ∷ rest) (sym is)

  pub fall_step : (limit low : ℕ) → first_fall limit low i (drop i (map f xs)) ≡ fall_from limit low i (drop (i + 1) (map f xs)) o
  fall_step limit low = ap (first_fall limit low i) here ∙ fall_first limit low i (f x) rest ∙ ap (fall_from limit low i rest) (sym e)

  pub overrun_step : (left : ℕ) → first_overrun left i (drop i (map f xs)) ≡ overrun_from left i (drop (i + 1) (map f xs)) o
  overrun_step left = ap (first_overrun left i) here ∙ overrun_first left i (f x) rest ∙ ap (overrun_from left i rest) (sym e)

  pub not_below_step : (limit : ℕ) (fs : List Bool) (b : Bool) → b ≡ get_or fs i false → first_not_below limit i (drop i fs) (drop i (map f xs)) ≡ not_below_from limit i (drop (i + 1) fs) (drop (i + 1) (map f xs)) b o
  not_below_step limit fs b set =
      ap (first_not_below limit i (drop i fs)) here ∙ not_below_at limit i fs (f x) rest
      ∙ ap (λ b. not_below_from limit i (drop (i + 1) fs) rest b (natural (f x))) (sym set) ∙ ap (not_below_from limit i (drop (i + 1) fs) rest b) (sym e)

  pub total_step : total (drop i (map f xs)) ≡ unwrap_or o 0 + total (drop (i + 1) (map f xs))
  unfolding total
  total_step = ap total here ∙ ap (λ n. n + total rest) (sym (ap (λ p. unwrap_or p 0) e ∙ amount_or (f x)))

-- ---- past the last entry

module _ {X : Type 0} (f : X → ℤ) (xs : List X) (i : ℕ) (h : length xs ≤ i) where
  past : length (map f xs) ≤ i
  past = omega (arith, length-map xs f)

  pub fall_all : (limit low : ℕ) → None ≡ first_fall limit low i (drop i (map f xs))
  unfolding first_fall
  fall_all limit low = sym (at_drop_all (first_fall limit low i) (map f xs) i past)

  pub overrun_all : (left : ℕ) → None ≡ first_overrun left i (drop i (map f xs))
  unfolding first_overrun
  overrun_all left = sym (at_drop_all (first_overrun left i) (map f xs) i past)

  pub not_below_all : (limit : ℕ) (fs : List Bool) → None ≡ first_not_below limit i fs (drop i (map f xs))
  unfolding first_not_below
  not_below_all limit fs = sym (at_drop_all (first_not_below limit i fs) (map f xs) i past)

  pub total_all : total (drop i (map f xs)) ≡ 0
  unfolding total
  total_all = at_drop_all total (map f xs) i past

-- ---- a sum of 64 bits

pub fits : (n m : ℕ) → n < 2 ^ 64 → n ≡ m → Some n ≡ in_u64 m
fits n m h e = grind (arith, nat_tests)

pub fits_not : (m : ℕ) → 2 ^ 64 ≤ m → None ≡ in_u64 m
fits_not m h = grind (arith, nat_tests)
