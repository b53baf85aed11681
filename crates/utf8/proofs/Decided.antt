-- The reader accepts what is UTF-8, and otherwise names the place where the first bad character begins.
use Rattle.std.proofs.Common.{◌≡◌, ℕ, zero, suc, ◌+◌, ◌-◌, ◌≤◌, cond, ◌⊎◌, List, [], ◌∷◌, ◌++◌, length, Some, None, Option, sym, refl, ap, ◌∙◌, subst, inl, inr, ⊎_elim, add-zero, arith}
use Rattle.std.proofs.lemmas.List.{append_assoc, length-append}
use Rattle.utf8.specs.Grammar.{rows, Tails, Character, ValidUtf8, FirstBad}
use Rattle.utf8.specs.Reading.{Awaited, boundary, broken, awaiting, fault, read_all, first_fault}
use Rattle.utf8.specs.Laws.{ReaderDecides}
use Rattle.utf8.proofs.Leads.{Inside, Outside, inside, NoLead, IsLead, lead_told}
use Rattle.utf8.proofs.Cuts.{valid_nil, valid_more, bad_not_valid, bad_place}

-- the answer of a reader in a state, whose character began at p, over bytes from place i on
abbrev run : Awaited → ℕ → ℕ → List ℕ → Option ℕ
run s p i xs = fault (read_all (record { awaited = s; begin = p }) i xs)

run_broken : (p i : ℕ) (xs : List ℕ) → run broken p i xs ≡ Some p
unfolding read_all
run_broken p i [] = refl
run_broken p i (b ∷ bs) = run_broken p (i + 1) bs

-- ---- what the answer tells

-- from a boundary at place i
abbrev Told : List ℕ → ℕ → Option ℕ → Type 0
Told xs i None = ValidUtf8 xs
Told xs i (Some q) = (k : ℕ) × (q ≡ i + k) × FirstBad xs k

-- the tails of a character, and a fact of the bytes after it
record Ends (n low high : ℕ) (xs : List ℕ) (P : List ℕ → List ℕ → Type 0) : Type 0 where
  ts : List ℕ
  rest : List ℕ
  tails : Tails n low high ts
  split : xs ≡ ts ++ rest
  so : P ts rest

abbrev NoTails : ℕ → ℕ → ℕ → List ℕ → Type 0
NoTails n low high xs = (ts rest : List ℕ) → xs ≡ ts ++ rest → Tails n low high ts → ⊥

-- with n tails to come of a character that began at p
abbrev ToldWithin : ℕ → ℕ → ℕ → List ℕ → ℕ → ℕ → Option ℕ → Type 0
ToldWithin n low high xs p i None = Ends n low high xs (λ ts rest. ValidUtf8 rest)
ToldWithin n low high xs p i (Some q) =
    ((q ≡ p) × NoTails n low high xs) ⊎ Ends n low high xs (λ ts rest. (k : ℕ) × (q ≡ i + length ts + k) × FirstBad rest k)

bad_more : (c xs : List ℕ) (k : ℕ) → Character c → FirstBad xs k → FirstBad (c ++ xs) (length c + k)
bad_more c xs k h b = record {
  good = c ++ b.good;
  rest = b.rest;
  split = ap (λ l. c ++ l) b.split ∙ sym (append_assoc c b.good b.rest);
  place = length-append c b.good ∙ ap (λ m. length c + m) b.place;
  text = valid_more c b.good h b.text;
  more = b.more;
  none = b.none;
}

bad_here : (b : ℕ) (bs : List ℕ) → ((ts rest : List ℕ) → bs ≡ ts ++ rest → Character (b ∷ ts) → ⊥) → FirstBad (b ∷ bs) 0
bad_here b bs never = record {
  good = [];
  rest = b ∷ bs;
  split = refl;
  place = refl;
  text = valid_nil;
  more = omega arith;
  none = none;
}
  where
    none : (c after : List ℕ) → b ∷ bs ≡ c ++ after → Character c → ⊥
    none [] after e h = h
    none (x ∷ c) after e h =
        let same : b ≡ x = cc in let rest : bs ≡ c ++ after = cc in never c after rest (subst (λ y. Character (y ∷ c)) (sym same) h)

-- a lead byte, and what the answer tells of its tails
told_lead : (b : ℕ) (bs : List ℕ) (i : ℕ) (l : IsLead rows b) (o : Option ℕ) → ToldWithin l.n l.low l.high bs i (i + 1) o → Told (b ∷ bs) i o
told_lead b bs i l None e = subst (λ x. ValidUtf8 (b ∷ x)) (sym e.split) (valid_more (b ∷ e.ts) e.rest (l.to e.ts e.tails) e.so)
told_lead b bs i l (Some q) d =
    ⊎_elim
    (λ x. (0, x.0 ∙ sym (add-zero i), bad_here b bs (λ ts rest e c. x.1 ts rest e (l.from ts c))))
    (λ (e : Ends l.n l.low l.high bs (λ ts rest. (k : ℕ) × (q ≡ i + 1 + length ts + k) × FirstBad rest k)).
    let at = e.so.1 in (
      length (b ∷ e.ts) + e.so.0,
      at ∙ omega arith,
      subst (λ x. FirstBad (b ∷ x) (length (b ∷ e.ts) + e.so.0)) (sym e.split) (bad_more (b ∷ e.ts) e.rest e.so.0 (l.to e.ts e.tails) e.so.2),
    ))
    d

-- no tails to come: a boundary
told_boundary : (low high : ℕ) (xs : List ℕ) (p i : ℕ) (o : Option ℕ) → Told xs i o → ToldWithin 0 low high xs p i o
told_boundary low high xs p i None u = record { ts = []; rest = xs; tails = tt; split = refl; so = u }
told_boundary low high xs p i (Some q) b = inr (record { ts = []; rest = xs; tails = tt; split = refl; so = (b.0, b.1 ∙ omega arith, b.2) })

-- a tail more
told_tail : (m low high b : ℕ) (bs : List ℕ) (p i : ℕ) (o : Option ℕ) → low ≤ b → b ≤ high → ToldWithin m 0x80 0xBF bs p (i + 1) o → ToldWithin (suc m) low high (b ∷ bs) p i o
told_tail m low high b bs p i None x y e = record { ts = b ∷ e.ts; rest = e.rest; tails = (x, y, e.tails); split = ap (λ l. b ∷ l) e.split; so = e.so }
told_tail m low high b bs p i (Some q) x y d =
    ⊎_elim (λ z. inl (z.0, more z.1))
    (λ (e : Ends m 0x80 0xBF bs (λ ts rest. (k : ℕ) × (q ≡ i + 1 + length ts + k) × FirstBad rest k)).
    let at = e.so.1 in inr (record { ts = b ∷ e.ts; rest = e.rest; tails = (x, y, e.tails); split = ap (λ l. b ∷ l) e.split; so = (e.so.0, at ∙ omega arith, e.so.2) }))
    d
  where
    more : NoTails m 0x80 0xBF bs → NoTails (suc m) low high (b ∷ bs)
    more never [] rest e t = t
    more never (c ∷ ts) rest e t = let r : bs ≡ ts ++ rest = cc in never ts rest r t.2

none_left : (m low high : ℕ) → NoTails (suc m) low high []
none_left m low high [] rest e t = t
none_left m low high (c ∷ ts) rest e t = let z : ◌≡◌ {A = ℕ} 0 1 = cc in omega arith

not_tail : (m low high b : ℕ) (bs : List ℕ) → (low ≤ b → b ≤ high → ⊥) → NoTails (suc m) low high (b ∷ bs)
not_tail m low high b bs never [] rest e t = t
not_tail m low high b bs never (c ∷ ts) rest e t =
    let same : b ≡ c = cc in never (subst (λ y. low ≤ y) (sym same) t.0) (subst (λ y. y ≤ high) (sym same) t.1)

-- ---- over all bytes, from a boundary and from within a character

record Both (xs : List ℕ) : Type 0 where
  start : (p i : ℕ) → Told xs i (run boundary p i xs)
  within : (n low high p i : ℕ) → ToldWithin n low high xs p i (run (awaiting n low high) p i xs)

both_nil : (n low high p i : ℕ) → ToldWithin n low high [] p i (run (awaiting n low high) p i [])
unfolding read_all
both_nil zero low high p i = told_boundary low high [] p i None valid_nil
both_nil (suc m) low high p i = inl (refl, none_left m low high)

start_more : (b : ℕ) (bs : List ℕ) → Both bs → (p i : ℕ) → Told (b ∷ bs) i (run boundary p i (b ∷ bs))
unfolding read_all
start_more b bs ih p i =
    ⊎_elim
    (λ (x : NoLead rows b).
    subst (Told (b ∷ bs) i) (sym (ap (λ s. run s i (i + 1) bs) x.is ∙ run_broken i (i + 1) bs)) (0, sym (add-zero i), bad_here b bs (λ ts rest e c. x.none ts c)))
    (λ (x : IsLead rows b).
    subst (Told (b ∷ bs) i) (sym (ap (λ s. run s i (i + 1) bs) x.is)) (told_lead b bs i x _ (ih.within x.n x.low x.high i (i + 1))))
    (lead_told b)

within_more : (b : ℕ) (bs : List ℕ) → Both bs → (n low high p i : ℕ) → ToldWithin n low high (b ∷ bs) p i (run (awaiting n low high) p i (b ∷ bs))
unfolding read_all
within_more b bs ih zero low high p i = told_boundary low high (b ∷ bs) p i _ (start_more b bs ih p i)
within_more b bs ih (suc m) low high p i =
    let less : suc m - 1 ≡ m = omega arith in
    ⊎_elim
    (λ (x : Inside low high b).
    subst (ToldWithin (suc m) low high (b ∷ bs) p i)
    (sym (ap (λ v. run (cond v (awaiting (suc m - 1) 0x80 0xBF) broken) p (i + 1) bs) x.test ∙ ap (λ k. run (awaiting k 0x80 0xBF) p (i + 1) bs) less))
    (told_tail m low high b bs p i _ x.above x.below (ih.within m 0x80 0xBF p (i + 1))))
    (λ (x : Outside low high b).
    subst (ToldWithin (suc m) low high (b ∷ bs) p i)
    (sym (ap (λ v. run (cond v (awaiting (suc m - 1) 0x80 0xBF) broken) p (i + 1) bs) x.test ∙ run_broken p (i + 1) bs))
    (inl (refl, not_tail m low high b bs x.not)))
    (inside low high b)

both : (xs : List ℕ) → Both xs
unfolding read_all
both [] = record { start = λ p i. valid_nil; within = both_nil }
both (b ∷ bs) = let ih = both bs in record { start = start_more b bs ih; within = within_more b bs ih }

-- ---- the four laws

accepts : (xs : List ℕ) → first_fault xs ≡ None → ValidUtf8 xs
accepts xs e = subst (Told xs 0) e ((both xs).start 0 0)

refuses : (xs : List ℕ) (k : ℕ) → first_fault xs ≡ Some k → FirstBad xs k
refuses xs k e = let b = subst (Told xs 0) e ((both xs).start 0 0) in let same : k ≡ b.0 = omega (arith, b.1) in subst (FirstBad xs) (sym same) b.2

accepted : (xs : List ℕ) → ValidUtf8 xs → first_fault xs ≡ None
accepted xs u = by (first_fault xs) refl
  where
    by : (o : Option ℕ) → first_fault xs ≡ o → o ≡ None
    by None e = refl
    by (Some q) e = absurd (bad_not_valid xs q (refuses xs q e) u)

refused : (xs : List ℕ) (k : ℕ) → FirstBad xs k → first_fault xs ≡ Some k
refused xs k b = by (first_fault xs) refl
  where
    by : (o : Option ℕ) → first_fault xs ≡ o → o ≡ Some k
    by None e = absurd (bad_not_valid xs k b (accepts xs e))
    by (Some q) e = ap (λ m. Some m) (bad_place xs q k (refuses xs q e) b)

pub reader_decides : ReaderDecides
reader_decides = record { accepts = accepts; accepted = accepted; refuses = refuses; refused = refused }
