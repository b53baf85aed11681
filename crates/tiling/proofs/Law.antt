-- The law of the tiling check: the offsets of slots that stand behind some first bytes tile the heap exactly when each slot is UTF-8.
use Rattle.std.proofs.Common.{◌≡◌, ℕ, zero, suc, ◌+◌, ◌-◌, ◌<◌, ◌≤◌, true, cond, List, [], ◌∷◌, ◌++◌, length, get_or, take, drop, pos, Some, None, sym, refl, ap, ◌∙◌, subst, inl, inr, ⊎_elim, arith}
use Rattle.std.specs.List.{between}
use Rattle.std.proofs.lemmas.List.{append_assoc, append-nil, length-append, drop_at, take_all, get_or_at}
use Rattle.std.proofs.lemmas.Bool.Decides.{nat_tests}
use Rattle.ptype.specs.Integers.{amount_at, integers_of}
use Rattle.ptype.specs.Searches.{is_within, first_fall}
use Rattle.slots.specs.Slots.{Slot, ends_from, offsets_from, heap_of}
use Rattle.utf8.specs.Grammar.{ValidUtf8}
use Rattle.utf8.proofs.Cuts.{valid_nil, valid_append, starts, valid_cut}
use Rattle.tiling.specs.Tiling.{Boundary, Tiles, EachUtf8, TilingLaw}

-- ---- the offsets of slots

pub within : (low high n : ℕ) → low ≤ n → n ≤ high → is_within low high (pos n) ≡ true
within low high n a b = grind (arith, nat_tests)

-- they never fall, and end within any heap that has the slots' bytes
pub never_fall : (limit low p n : ℕ) (ss : List Slot) → low ≤ n → n + length (heap_of ss) ≤ limit → first_fall limit low p (integers_of (offsets_from n ss)) ≡ None
unfolding first_fall ends_from
never_fall limit low p n [] a b = ap (λ t. cond t (first_fall limit n (p + 1) []) (Some p)) (within low limit n a (omega arith))
never_fall limit low p n (s ∷ ss) a b =
    let l = length-append s.content (heap_of ss) in
    ap (λ t. cond t (first_fall limit n (p + 1) (integers_of (offsets_from (n + length s.content) ss))) (Some p)) (within low limit n a (omega arith))
    ∙ never_fall limit n (p + 1) (n + length s.content) ss (omega arith) (omega arith)

-- the last of them is where the slots' bytes end
pub last_is : (n : ℕ) (ss : List Slot) → amount_at (integers_of (offsets_from n ss)) (length (integers_of (ends_from n ss))) ≡ n + length (heap_of ss)
unfolding ends_from
last_is n [] = omega arith
last_is n (s ∷ ss) =
    let l = length-append s.content (heap_of ss) in
    let r = last_is (n + length s.content) ss in
    r ∙ omega arith

-- from the first to the last of them are the slots' bytes
pub text_is : (first : List ℕ) (ss : List Slot) → between (length first) (amount_at (integers_of (offsets_from (length first) ss)) (length (integers_of (offsets_from (length first) ss)) - 1)) (first ++ heap_of ss) ≡ heap_of ss
text_is first ss =
    let k = length (integers_of (ends_from (length first) ss)) in
    let e : suc k - 1 ≡ k = omega arith in
    let last = ap (amount_at (integers_of (offsets_from (length first) ss))) e ∙ last_is (length first) ss in
    ap (λ o. take (o - length first) (drop (length first) (first ++ heap_of ss))) last
    ∙ ap (take (length first + length (heap_of ss) - length first)) (drop_at first (heap_of ss) (length first) refl)
    ∙ take_all (length first + length (heap_of ss) - length first) (heap_of ss) (omega arith)

-- ---- each slot is UTF-8

pub heap_valid : (ss : List Slot) → EachUtf8 ss → ValidUtf8 (heap_of ss)
heap_valid [] u = valid_nil
heap_valid (s ∷ ss) u = valid_append s.content (heap_of ss) u.0 (heap_valid ss u.1)

-- where a text begins is a boundary
pub bound_at : (first rest : List ℕ) → ValidUtf8 rest → Boundary (first ++ rest) (length first)
bound_at first [] u = inl (omega (arith, length-append first []))
bound_at first (b ∷ bs) u = inr (λ t. let e = get_or_at first b bs 0 (length first) refl in starts b bs u (omega arith, omega arith))

pub bounds : (first : List ℕ) (ss : List Slot) (n : ℕ) (heap : List ℕ) → length first ≡ n → first ++ heap_of ss ≡ heap → EachUtf8 ss → (i : ℕ) → i < length (integers_of (offsets_from n ss)) → Boundary heap (amount_at (integers_of (offsets_from n ss)) i)
unfolding ends_from
bounds first ss n heap e w u zero h = subst (λ l. Boundary l n) w (subst (Boundary (first ++ heap_of ss)) e (bound_at first (heap_of ss) (heap_valid ss u)))
bounds first [] n heap e w u (suc i) h = absurd (omega arith)
bounds first (s ∷ ss) n heap e w u (suc i) h =
    bounds (first ++ s.content) ss (n + length s.content) heap
    (length-append first s.content ∙ ap (λ m. m + length s.content) e)
    (append_assoc first s.content (heap_of ss) ∙ w)
    u.1 i (omega arith)

-- ---- and back: a text is cut at a boundary

byte_at : (first xs : List ℕ) (y : ℕ) (ys : List ℕ) → get_or (first ++ (xs ++ y ∷ ys)) (length first + length xs) 0 ≡ y
byte_at first xs y ys = ap (λ l. get_or l (length first + length xs) 0) (sym (append_assoc first xs (y ∷ ys))) ∙ get_or_at (first ++ xs) y ys 0 (length first + length xs) (length-append first xs)

pub split_at : (first xs rest : List ℕ) → ValidUtf8 (xs ++ rest) → Boundary (first ++ (xs ++ rest)) (length first + length xs) → ValidUtf8 xs × ValidUtf8 rest
split_at first xs [] u b = (subst ValidUtf8 (append-nil xs) u, valid_nil)
split_at first xs (y ∷ ys) u b =
    ⊎_elim
    (λ (e : length first + length xs ≡ length (first ++ (xs ++ y ∷ ys))). absurd (omega (arith, length-append first (xs ++ y ∷ ys), length-append xs (y ∷ ys))))
    (λ (out : ((0x80 ≤ get_or (first ++ (xs ++ y ∷ ys)) (length first + length xs) 0) × (get_or (first ++ (xs ++ y ∷ ys)) (length first + length xs) 0 ≤ 0xBF)) → ⊥).
    let e = byte_at first xs y ys in
    valid_cut xs y ys u (λ t. out (omega arith, omega arith)))
    b

pub cuts : (first : List ℕ) (ss : List Slot) (n : ℕ) (heap : List ℕ) → length first ≡ n → first ++ heap_of ss ≡ heap → ValidUtf8 (heap_of ss) → ((i : ℕ) → i < length (integers_of (offsets_from n ss)) → Boundary heap (amount_at (integers_of (offsets_from n ss)) i)) → EachUtf8 ss
unfolding ends_from
cuts first [] n heap e w u b = tt
cuts first (s ∷ ss) n heap e w u b =
    let here : Boundary heap (n + length s.content) = b 1 (omega arith) in
    let moved : Boundary heap (length first + length s.content) = subst (λ m. Boundary heap (m + length s.content)) (sym e) here in
    let there : Boundary (first ++ (s.content ++ heap_of ss)) (length first + length s.content) = subst (λ l. Boundary l (length first + length s.content)) (sym w) moved in
    let p = split_at first s.content (heap_of ss) u there in (
      p.0,
      cuts (first ++ s.content) ss (n + length s.content) heap
          (length-append first s.content ∙ ap (λ m. m + length s.content) e)
          (append_assoc first s.content (heap_of ss) ∙ w)
          p.1 (λ i h. b (suc i) (omega arith)),
    )

-- ---- the law

pub tiles_each : (first : List ℕ) (ss : List Slot) → Tiles (integers_of (offsets_from (length first) ss)) (first ++ heap_of ss) → EachUtf8 ss
tiles_each first ss t = cuts first ss (length first) (first ++ heap_of ss) refl refl (subst ValidUtf8 (text_is first ss) t.text) t.boundaries

pub each_tiles : (first : List ℕ) (ss : List Slot) → EachUtf8 ss → Tiles (integers_of (offsets_from (length first) ss)) (first ++ heap_of ss)
each_tiles first ss u = record {
  some = omega arith;
  rising = never_fall (length (first ++ heap_of ss)) 0 0 (length first) ss (omega arith) (omega (arith, length-append first (heap_of ss)));
  text = subst ValidUtf8 (sym (text_is first ss)) (heap_valid ss u);
  boundaries = bounds first ss (length first) (first ++ heap_of ss) refl refl u;
}

pub tiling_law : TilingLaw
tiling_law = record { to = tiles_each; from = each_tiles }
