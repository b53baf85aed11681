-- A text is cut into characters in one way; where two texts meet, and where a text can be cut in two.
use Rattle.std.proofs.Common.{◌≡◌, ℕ, zero, suc, ◌≤◌, List, [], ◌∷◌, ◌++◌, length, sym, refl, ap, ◌∙◌, subst, ⊎_elim, arith}
use Rattle.std.specs.List.{flat_map}
use Rattle.std.proofs.lemmas.List.{append_assoc, append-nil}
use Rattle.utf8.specs.Abnf.{UTF8-tail}
use Rattle.utf8.specs.Grammar.{rows, Tails, Character, Characters, ValidUtf8, FirstBad}
use Rattle.utf8.proofs.Leads.{NoLead, IsLead, lead_told}

abbrev text : List (List ℕ) → List ℕ
text cs = flat_map (λ c. c) cs

pub valid_nil : ValidUtf8 []
valid_nil = record { characters = []; each = tt; whole = refl }

-- a character more in front
pub valid_more : (c xs : List ℕ) → Character c → ValidUtf8 xs → ValidUtf8 (c ++ xs)
valid_more c xs h u = record { characters = c ∷ u.characters; each = (h, u.each); whole = ap (λ l. c ++ l) u.whole }

pub valid_append : (xs ys : List ℕ) → ValidUtf8 xs → ValidUtf8 ys → ValidUtf8 (xs ++ ys)
valid_append xs ys u v = subst (λ l. ValidUtf8 (l ++ ys)) u.whole (onto u.characters u.each)
  where
    onto : (cs : List (List ℕ)) → Characters cs → ValidUtf8 (text cs ++ ys)
    onto [] h = v
    onto (c ∷ cs) h = rw append_assoc (valid_more c (text cs ++ ys) h.0 (onto cs h.1))

-- ---- one way to cut

tails_same : (n low high : ℕ) (ts us x y : List ℕ) → Tails n low high ts → Tails n low high us → ts ++ x ≡ us ++ y → (ts ≡ us) × (x ≡ y)
tails_same zero low high [] [] x y t u e = (refl, e)
tails_same zero low high [] (c ∷ us) x y t u e = absurd u
tails_same zero low high (b ∷ ts) us x y t u e = absurd t
tails_same (suc n) low high [] us x y t u e = absurd t
tails_same (suc n) low high (b ∷ ts) [] x y t u e = absurd u
tails_same (suc n) low high (b ∷ ts) (c ∷ us) x y t u e =
    let same : b ≡ c = cc in
    let on : ts ++ x ≡ us ++ y = cc in
    let ih = tails_same n 0x80 0xBF ts us x y t.2 u.2 on in
    let front = ih.0 in
    (cc, ih.1)

character_same : (c d x y : List ℕ) → Character c → Character d → c ++ x ≡ d ++ y → (c ≡ d) × (x ≡ y)
character_same [] d x y h k e = absurd h
character_same (a ∷ ts) [] x y h k e = absurd k
character_same (a ∷ ts) (b ∷ us) x y h k e =
    let same : a ≡ b = cc in
    let on : ts ++ x ≡ us ++ y = cc in
    ⊎_elim (λ (l : NoLead rows a). absurd (l.none ts h))
    (λ (l : IsLead rows a).
    let p = tails_same l.n l.low l.high ts us x y (l.from ts h) (l.from us (subst (λ z. Character (z ∷ us)) (sym same) k)) on in
    let front = p.0 in
    (cc, p.1))
    (lead_told a)

-- no character begins here
abbrev Stop : List ℕ → Type 0
Stop xs = (c after : List ℕ) → xs ≡ c ++ after → Character c → ⊥

stop_nil : Stop []
stop_nil [] after e h = h
stop_nil (a ∷ ts) after e h = let z : ◌≡◌ {A = ℕ} 0 1 = cc in omega arith

-- characters up to a place where no character begins
stops_same : (cs ds : List (List ℕ)) (x y : List ℕ) → Characters cs → Characters ds → text cs ++ x ≡ text ds ++ y → Stop x → Stop y → (text cs ≡ text ds) × (x ≡ y)
stops_same [] [] x y h k e s t = (refl, e)
stops_same [] (d ∷ ds) x y h k e s t = absurd (s d (text ds ++ y) (e ∙ append_assoc d (text ds) y) k.0)
stops_same (c ∷ cs) [] x y h k e s t = absurd (t c (text cs ++ x) (sym e ∙ append_assoc c (text cs) x) h.0)
stops_same (c ∷ cs) (d ∷ ds) x y h k e s t =
    let p = character_same c d (text cs ++ x) (text ds ++ y) h.0 k.0 (sym (append_assoc c (text cs) x) ∙ e ∙ append_assoc d (text ds) y) in
    let q = stops_same cs ds x y h.1 k.1 p.1 s t in
    let front = p.0 in
    let back = q.0 in
    (cc, q.1)

-- the bytes before a first bad character, and those from it on
bad_parts : (xs : List ℕ) (k : ℕ) (b : FirstBad xs k) → text b.text.characters ++ b.rest ≡ xs
bad_parts xs k b = ap (λ l. l ++ b.rest) b.text.whole ∙ sym b.split

pub bad_not_valid : (xs : List ℕ) (k : ℕ) → FirstBad xs k → ValidUtf8 xs → ⊥
bad_not_valid xs k b u =
    let whole = bad_parts xs k b ∙ sym u.whole ∙ sym (append-nil (text u.characters)) in
    let p = stops_same b.text.characters u.characters b.rest [] b.text.each u.each whole b.none stop_nil in
    let l = ap length p.1 in
    omega (arith, b.more)

pub bad_place : (xs : List ℕ) (j k : ℕ) → FirstBad xs j → FirstBad xs k → j ≡ k
bad_place xs j k a b =
    let p = stops_same a.text.characters b.text.characters a.rest b.rest a.text.each b.text.each (bad_parts xs j a ∙ sym (bad_parts xs k b)) a.none b.none in
    sym (ap length a.text.whole ∙ a.place) ∙ ap length p.0 ∙ ap length b.text.whole ∙ b.place

-- ---- a text cut in two

-- bytes in hex 80 to BF
abbrev AllTails : List ℕ → Type 0
AllTails [] = Unit {0}
AllTails (b ∷ bs) = UTF8-tail b × AllTails bs

tails_all : (n low high : ℕ) (ts : List ℕ) → 0x80 ≤ low → high ≤ 0xBF → Tails n low high ts → AllTails ts
tails_all zero low high [] least most t = tt
tails_all zero low high (b ∷ ts) least most t = absurd t
tails_all (suc n) low high [] least most t = absurd t
tails_all (suc n) low high (b ∷ ts) least most t = ((omega arith, omega arith), tails_all n 0x80 0xBF ts (omega arith) (omega arith) t.2)

-- the bytes of a character after its lead, and the lead itself
character_tails : (a : ℕ) (ts : List ℕ) → Character (a ∷ ts) → AllTails ts
character_tails a ts h =
    ⊎_elim (λ (l : NoLead rows a). absurd (l.none ts h))
    (λ (l : IsLead rows a). tails_all l.n l.low l.high ts l.least l.most (l.from ts h))
    (lead_told a)

character_lead : (a : ℕ) (ts : List ℕ) → Character (a ∷ ts) → UTF8-tail a → ⊥
character_lead a ts h t = grind arith

-- no text begins with a byte in hex 80 to BF
pub starts : (b : ℕ) (bs : List ℕ) → ValidUtf8 (b ∷ bs) → ((0x80 ≤ b) × (b ≤ 0xBF)) → ⊥
starts b bs u t = begun u.characters u.each u.whole
  where
    begun : (cs : List (List ℕ)) → Characters cs → text cs ≡ b ∷ bs → ⊥
    begun [] h e = let z : ◌≡◌ {A = ℕ} 0 1 = cc in omega arith
    begun ([] ∷ cs) h e = h.0
    begun ((a ∷ ts) ∷ cs) h e = let same : a ≡ b = cc in character_lead a ts h.0 (subst UTF8-tail (sym same) t)

-- tail bytes in front of a byte that is none end before it
tails_before : (ts x xs : List ℕ) (b : ℕ) (bs : List ℕ) → AllTails ts → (UTF8-tail b → ⊥) → ts ++ x ≡ xs ++ b ∷ bs → (ys : List ℕ) × (xs ≡ ts ++ ys) × (x ≡ ys ++ b ∷ bs)
tails_before [] x xs b bs h out e = (xs, refl, e)
tails_before (t ∷ ts) x [] b bs h out e = let same : t ≡ b = cc in absurd (out (subst UTF8-tail same h.0))
tails_before (t ∷ ts) x (y ∷ ys) b bs h out e =
    let same : t ≡ y = cc in
    let on : ts ++ x ≡ ys ++ b ∷ bs = cc in
    let p = tails_before ts x ys b bs h.1 out on in
    let front = p.1 in
    (p.0, cc, p.2)

-- a text cut where a byte outside hex 80 to BF stands is two texts
pub valid_cut : (xs : List ℕ) (b : ℕ) (bs : List ℕ) → ValidUtf8 (xs ++ b ∷ bs) → (((0x80 ≤ b) × (b ≤ 0xBF)) → ⊥) → ValidUtf8 xs × ValidUtf8 (b ∷ bs)
valid_cut xs b bs u out = cut u.characters xs u.each u.whole
  where
    cut : (cs : List (List ℕ)) (ys : List ℕ) → Characters cs → text cs ≡ ys ++ b ∷ bs → ValidUtf8 ys × ValidUtf8 (b ∷ bs)
    cut cs [] h e = (valid_nil, record { characters = cs; each = h; whole = e })
    cut [] (y ∷ ys) h e = let z : ◌≡◌ {A = ℕ} 0 1 = cc in absurd (omega arith)
    cut ([] ∷ cs) (y ∷ ys) h e = absurd h.0
    cut ((a ∷ ts) ∷ cs) (y ∷ ys) h e =
        let same : a ≡ y = cc in
        let on : ts ++ text cs ≡ ys ++ b ∷ bs = cc in
        let p = tails_before ts (text cs) ys b bs (character_tails a ts h.0) out on in
        let q = cut cs p.0 h.1 p.2 in
        let front = p.1 in
        let all : (a ∷ ts) ++ p.0 ≡ y ∷ ys = cc in
        (subst ValidUtf8 all (valid_more (a ∷ ts) p.0 h.0 q.0), q.1)
