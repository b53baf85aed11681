-- What the lead byte of a character tells: how many bytes follow, and within which bounds.
use Rattle.std.proofs.Common.{◌≡◌, ℕ, ◌<◌, ◌≤◌, true, false, cond, ◌&&◌, leb, ◌⊎◌, List, [], ◌∷◌, refl, ap, ◌∙◌, inl, inr, ⊎_elim, arith}
use Rattle.std.proofs.lemmas.Bool.{cases_lt}
use Rattle.std.proofs.lemmas.Bool.Decides.{nat_tests}
use Rattle.utf8.specs.declared.lead.Lead.{Lead}
use Rattle.utf8.specs.Grammar.{rows, Tails, CharacterBy}
use Rattle.utf8.specs.Reading.{broken, awaiting, after_lead}

-- a byte within two bounds, and the test for it
pub record Inside (low high b : ℕ) : Type 0 where
  pub test : (leb low b && leb b high) ≡ true
  pub above : low ≤ b
  pub below : b ≤ high

pub record Outside (low high b : ℕ) : Type 0 where
  pub test : (leb low b && leb b high) ≡ false
  pub not : low ≤ b → b ≤ high → ⊥

pub inside : (low high b : ℕ) → Inside low high b ⊎ Outside low high b
inside low high b =
    ⊎_elim
    (λ (x : b < low). inr (record { test = grind (arith, nat_tests); not = λ y _. omega arith }))
    (λ (x : low ≤ b).
    ⊎_elim (λ (y : high < b). inr (record { test = grind (arith, nat_tests); not = λ _ z. omega arith }))
    (λ (y : b ≤ high). inl (record { test = grind (arith, nat_tests); above = x; below = y })) (cases_lt high b))
    (cases_lt b low)

-- every row's leads stand above m
abbrev Above : ℕ → List Lead → Type 0
Above m [] = Unit {0}
Above m (r ∷ rs) = (m < r.first) × Above m rs

-- the rows stand in order and do not overlap, and the bounds of a second byte lie within hex 80 to BF
abbrev Ordered : List Lead → Type 0
Ordered [] = Unit {0}
Ordered (r ∷ rs) = Above r.last rs × (0x80 ≤ r.low) × (r.high ≤ 0xBF) × Ordered rs

not_above : (rs : List Lead) (m a : ℕ) (ts : List ℕ) → Above m rs → a ≤ m → CharacterBy rs (a ∷ ts) → ⊥
not_above [] m a ts h le c = c
not_above (r ∷ rs) m a ts h le c = ⊎_elim (λ x. omega (arith, h.0, x.0)) (λ y. not_above rs m a ts h.1 le y) c

-- no character begins with b
pub record NoLead (rs : List Lead) (b : ℕ) : Type 0 where
  pub is : after_lead rs b ≡ broken
  pub none : (ts : List ℕ) → CharacterBy rs (b ∷ ts) → ⊥

-- n more bytes follow b in each character that begins with it
pub record IsLead (rs : List Lead) (b : ℕ) : Type 0 where
  pub n : ℕ
  pub low : ℕ
  pub high : ℕ
  pub is : after_lead rs b ≡ awaiting n low high
  pub to : (ts : List ℕ) → Tails n low high ts → CharacterBy rs (b ∷ ts)
  pub from : (ts : List ℕ) → CharacterBy rs (b ∷ ts) → Tails n low high ts
  pub least : 0x80 ≤ low
  pub most : high ≤ 0xBF

told : (rs : List Lead) (b : ℕ) → Ordered rs → NoLead rs b ⊎ IsLead rs b
told [] b o = inl (record { is = refl; none = λ ts c. c })
told (r ∷ rs) b o = ⊎_elim here (there (told rs b o.3)) (inside r.first r.last b)
  where
    here : Inside r.first r.last b → NoLead (r ∷ rs) b ⊎ IsLead (r ∷ rs) b
    here x =
        inr (record {
          n = r.tails;
          low = r.low;
          high = r.high;
          is = ap (λ v. cond v (awaiting r.tails r.low r.high) (after_lead rs b)) x.test;
          to = λ ts t. inl (x.above, x.below, t);
          from = λ ts c. ⊎_elim (λ y. y.2) (λ y. absurd (not_above rs r.last b ts o.0 x.below y)) c;
          least = o.1;
          most = o.2;
        })

    there : NoLead rs b ⊎ IsLead rs b → Outside r.first r.last b → NoLead (r ∷ rs) b ⊎ IsLead (r ∷ rs) b
    there ih x =
        let skip : after_lead (r ∷ rs) b ≡ after_lead rs b = ap (λ v. cond v (awaiting r.tails r.low r.high) (after_lead rs b)) x.test in
        ⊎_elim
        (λ (y : NoLead rs b). inl (record { is = skip ∙ y.is; none = λ ts c. ⊎_elim (λ z. x.not z.0 z.1) (y.none ts) c }))
        (λ (y : IsLead rs b).
        inr (record {
          n = y.n;
          low = y.low;
          high = y.high;
          is = skip ∙ y.is;
          to = λ ts t. inr (y.to ts t);
          from = λ ts c. ⊎_elim (λ z. absurd (x.not z.0 z.1)) (y.from ts) c;
          least = y.least;
          most = y.most;
        }))
        ih

ordered : Ordered rows
ordered = search (arith)

pub lead_told : (b : ℕ) → NoLead rows b ⊎ IsLead rows b
lead_told b = told rows b ordered
