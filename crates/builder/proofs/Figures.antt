-- What the checks of the memory tell, and the memory of a builder that is made.
use Rattle.std.proofs.Common.{◌≡◌, ℕ, zero, suc, ◌-◌, ◌*◌, ◌<◌, ◌≤◌, min, Bool, true, false, not, ◌&&◌, ◌||◌, eqb, List, [], ◌∷◌, ◌++◌, length, get_or, Some, None, Option, unwrap_or, sym, refl, ap, ◌∙◌, arith}
use Rattle.std.proofs.lemmas.List.{nil_from_length}
use Rattle.std.proofs.lemmas.Bool.{eq-eqb, ne_eqb, le-ltb}
use Rattle.std.proofs.lemmas.Bool.Decides.{nat_tests}
use Rattle.refusal.specs.Refusals.{Code, rule, refuse_if, first_refusal}
use Rattle.offsets.specs.Stores.{takes}
use Rattle.builder.specs.Making.{make_answer, capacity_of}
use Rattle.std.specs.List.{slice_get}

nth_or : (xs : List ℕ) (i : ℕ) → unwrap_or (slice_get xs i) 0 ≡ get_or xs i 0
nth_or [] i = refl
nth_or (x ∷ xs) zero = refl
nth_or (x ∷ xs) (suc i) = nth_or xs i

-- an offset that is read as 0 where there is none
pub read_or : (xs : List ℕ) (i n : ℕ) (o : Option ℕ) → n ≡ unwrap_or o 0 → o ≡ slice_get xs i → n ≡ get_or xs i 0
read_or xs i n o e is = e ∙ ap (λ p. unwrap_or p 0) is ∙ nth_or xs i

-- five figures that all agree
pub agree : (a b c d e f g h i j : ℕ) (k : Code) → a ≡ b → c ≡ d → e ≡ f → g ≡ h → i ≡ j → None ≡ refuse_if (not (eqb a b && (eqb c d && (eqb e f && (eqb g h && eqb i j))))) k
agree a b c d e f g h i j k p q r s t =
    sym (λ x. refuse_if (not (eq-eqb a b p x && (eq-eqb c d q x && (eq-eqb e f r x && (eq-eqb g h s x && eq-eqb i j t x))))) k)

-- the second of them differs
pub second_differs : (a b c d : ℕ) (rest : Bool) (k : Code) → a ≡ b → (c ≡ d → ⊥) → Some k ≡ refuse_if (not (eqb a b && (eqb c d && rest))) k
second_differs a b c d rest k p n = sym (λ x. refuse_if (not (eq-eqb a b p x && (ne_eqb c d n x && rest))) k)

-- an accepted push of 0 had a free entry
pub had_entry : (free top : ℕ) → true ≡ takes free top 0 → 0 < free
had_entry free top e = grind (arith, nat_tests)

pub makes : (offsets free heap : ℕ) → offsets ≡ 0 → 0 < free → heap ≤ 68719476736 → None ≡ make_answer offsets free heap
makes offsets free heap o f h =
    let none : (not (eqb offsets 0) || eqb free 0) ≡ false = grind (arith, nat_tests) in
    sym (λ x. first_refusal (refuse_if (le-ltb 68719476736 heap h x) (rule 14) ∷ refuse_if (none x) (rule 13) ∷ []))

pub first_offset : (xs ys : List ℕ) → length xs ≡ 0 → ys ≡ xs ++ 0 ∷ [] → ys ≡ 0 ∷ []
first_offset xs ys e is = is ∙ ap (λ l. l ++ 0 ∷ []) (nil_from_length xs e)

pub capacity : (free left bits held most : ℕ) → left ≡ free - 1 → held ≡ min (8 * bits) 18446744073709551615 → most ≡ min left (min held 16777216) → most ≡ capacity_of free bits
capacity free left bits held most a b c = omega arith
