-- The walk over pairs of hexadecimal digits.
use Rattle.std.proofs.Common.{◌≡◌, ℕ, zero, suc, ◌+◌, ◌*◌, ◌%◌, ◌<◌, ◌≤◌, cond, List, [], ◌∷◌, ◌++◌, length, get_or, take, drop, set, Some, None, Option, sym, refl, ap, ◌∙◌, subst, append_assoc, append-nil, arith}
use Rattle.std.specs.Simd.{first_chunks}
use Rattle.std.proofs.lemmas.List.{drop_more, drop_all, take_more_set, length-take-le}
use Rattle.std.proofs.lemmas.Bool.{le-leb, lt-leb}
use Rattle.decoder.specs.Decoding.{decode_answer, Begins}
use Rattle.decoder.specs.Hexadecimal.{digit_value, with_byte, hex_bytes}

no_rest : (h l : Option ℕ) → with_byte h l None ≡ None
no_rest None l = refl
no_rest (Some h) None = refl
no_rest (Some h) (Some l) = refl

no_low : (h : Option ℕ) (rest : Option (List ℕ)) → with_byte h None rest ≡ None
no_low None rest = refl
no_low (Some h) rest = refl

-- an odd digit is a fault
odd : (ds : List ℕ) → length ds % 2 ≡ 1 → hex_bytes ds ≡ None
odd [] e = absurd (omega arith)
odd (a ∷ []) e = refl
odd (a ∷ b ∷ ds) e = ap (with_byte (digit_value a) (digit_value b)) (odd ds (omega arith)) ∙ no_rest (digit_value a) (digit_value b)

-- the bytes of pairs of digits
abbrev pub bytes_of : List (List ℕ) → Option (List ℕ)
bytes_of [] = Some []
bytes_of (p ∷ ps) = with_byte (digit_value (get_or p 0 0)) (digit_value (get_or p 1 0)) (bytes_of ps)

-- where no digit is left over, the bytes of the digits are those of their pairs
pub paired : (ds : List ℕ) (n : ℕ) → length ds ≡ 2 * n → bytes_of (first_chunks 2 n ds) ≡ hex_bytes ds
paired [] zero e = refl
paired [] (suc n) e = absurd (omega arith)
paired (a ∷ []) n e = absurd (omega arith)
paired (a ∷ b ∷ ds) zero e = absurd (omega arith)
paired (a ∷ b ∷ ds) (suc n) e = ap (with_byte (digit_value a) (digit_value b)) (paired ds n (omega arith))

-- what a list of bytes says of the count of digits
abbrev Counted : List ℕ → Option (List ℕ) → Type 0
Counted ds None = Unit {0}
Counted ds (Some xs) = 2 * length xs ≡ length ds

counted_more : (a b : ℕ) (ds : List ℕ) (h l : Option ℕ) (o : Option (List ℕ)) → Counted ds o → Counted (a ∷ b ∷ ds) (with_byte h l o)
counted_more a b ds None l o c = tt
counted_more a b ds (Some h) None o c = tt
counted_more a b ds (Some h) (Some l) None c = tt
counted_more a b ds (Some h) (Some l) (Some xs) c = omega arith

counted : (ds : List ℕ) → Counted ds (hex_bytes ds)
counted [] = refl
counted (a ∷ []) = tt
counted (a ∷ b ∷ ds) = counted_more a b ds (digit_value a) (digit_value b) (hex_bytes ds) (counted ds)

-- a fault is refused
pub fault_refused : (all : Option (List ℕ)) (r : Option ℕ) (n : ℕ) → all ≡ None → r ≡ None → r ≡ decode_answer all n
fault_refused all r n e is = is ∙ sym (ap (λ o. decode_answer o n) e)

pub odd_refused : (ds : List ℕ) (n : ℕ) → length ds % 2 ≡ 1 → None ≡ decode_answer (hex_bytes ds) n
odd_refused ds n e = fault_refused (hex_bytes ds) None n (odd ds e) refl

-- a part that is too short is refused, fault or not
pub short_refused : (ds : List ℕ) (n : ℕ) → 2 * n < length ds → None ≡ decode_answer (hex_bytes ds) n
short_refused ds n h = by (hex_bytes ds) (counted ds)
  where
    by : (o : Option (List ℕ)) → Counted ds o → None ≡ decode_answer o n
    by None c = refl
    by (Some xs) c = sym (ap (λ b. cond b (Some (length xs)) None) (lt-leb (length xs) n (omega arith)))

-- bytes in front of those that are left
abbrev pub behind : List ℕ → Option (List ℕ) → Option (List ℕ)
behind xs None = None
behind xs (Some ys) = Some (xs ++ ys)

pub behind_none : (o : Option (List ℕ)) → behind [] o ≡ o
behind_none None = refl
behind_none (Some ys) = refl

pub start : (ds part : List ℕ) (n : ℕ) (ps : List (List ℕ)) → length ds ≡ 2 * n → ps ≡ first_chunks 2 n ds → behind (take 0 part) (bytes_of (drop 0 ps)) ≡ hex_bytes ds
start ds part n ps even e = behind_none (bytes_of ps) ∙ ap bytes_of e ∙ paired ds n even

one_more : (xs : List ℕ) (h l : ℕ) (o : Option (List ℕ)) → behind (xs ++ (h * 16 + l) ∷ []) o ≡ behind xs (with_byte (Some h) (Some l) o)
one_more xs h l None = refl
one_more xs h l (Some ys) = ap (λ zs. Some zs) (append_assoc xs ((h * 16 + l) ∷ []) ys)

module _ (ps : List (List ℕ)) (part : List ℕ) (i : ℕ) (all : Option (List ℕ)) (h : i < length ps) (inv : behind (take i part) (bytes_of (drop i ps)) ≡ all) where
  abbrev high_digit : Option ℕ
  high_digit = digit_value (get_or (get_or ps i []) 0 0)

  abbrev low_digit : Option ℕ
  low_digit = digit_value (get_or (get_or ps i []) 1 0)

  abbrev rest : Option (List ℕ)
  rest = bytes_of (drop (i + 1) ps)

  here : bytes_of (drop i ps) ≡ with_byte high_digit low_digit rest
  here = ap bytes_of (drop_more ps i [] h)

  pub bad_high : None ≡ high_digit → all ≡ None
  bad_high e = sym inv ∙ ap (behind (take i part)) (here ∙ ap (λ o. with_byte o low_digit rest) (sym e))

  pub bad_low : None ≡ low_digit → all ≡ None
  bad_low e = sym inv ∙ ap (behind (take i part)) (here ∙ ap (λ o. with_byte high_digit o rest) (sym e) ∙ no_low high_digit rest)

  pub good : (high low : ℕ) → i < length part → Some high ≡ high_digit → Some low ≡ low_digit → behind (take (i + 1) (set part i (high * 16 + low))) rest ≡ all
  good high low room e f =
      ap (λ l. behind l rest) (take_more_set part i (high * 16 + low) room)
      ∙ one_more (take i part) high low rest
      ∙ ap (behind (take i part)) ((λ k. with_byte (e k) (f k) rest) ∙ sym here)
      ∙ inv

-- all pairs read: the part begins with the bytes
pub done : (ps : List (List ℕ)) (part : List ℕ) (i : ℕ) (all : Option (List ℕ)) → i ≡ length ps → behind (take i part) (bytes_of (drop i ps)) ≡ all → all ≡ Some (take (length ps) part)
done ps part i all e inv =
    sym inv
    ∙ ap (λ l. behind (take i part) (bytes_of l)) (drop_all i ps (omega arith))
    ∙ ap (λ l. Some l) (append-nil (take i part) ∙ ap (λ k. take k part) e)

pub answered : (all : Option (List ℕ)) (part : List ℕ) (n m : ℕ) → n ≤ length part → m ≡ length part → all ≡ Some (take n part) → Some n ≡ decode_answer all m
answered all part n m room e is =
    let l = length-take-le n part room in
    sym (ap (λ o. decode_answer o m) is ∙ ap (λ b. cond b (Some (length (take n part))) None) (le-leb (length (take n part)) m (omega arith)) ∙ ap (λ k. Some k) l)

pub begins : (all : Option (List ℕ)) (part : List ℕ) (n : ℕ) → all ≡ Some (take n part) → Begins all (Some n) part
begins all part n is = subst (λ o. Begins o (Some n) part) (sym is) refl

-- after a refusal nothing is said of the part
pub begins_none : (all : Option (List ℕ)) (part : List ℕ) → Begins all None part
begins_none None part = tt
begins_none (Some xs) part = tt

pub begins_refused : (all : Option (List ℕ)) (r : Option ℕ) (part : List ℕ) → r ≡ None → Begins all r part
begins_refused all r part is = subst (λ o. Begins all o part) (sym is) (begins_none all part)
