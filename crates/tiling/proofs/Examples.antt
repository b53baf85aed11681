-- The examples of the tiling check: one character of two bytes, whole and cut, and a byte that no character begins with.
use Rattle.std.proofs.Common.{◌≡◌, ◌≤◌, true, [], ◌∷◌, refl, inl, inr, ⊎_elim, arith, lit<, lit≤}
use Rattle.ptype.specs.Integers.{integers_of}
use Rattle.slots.specs.Slots.{slot, ends_from}
use Rattle.utf8.specs.Grammar.{ValidUtf8}
use Rattle.tiling.specs.Tiling.{Tiles, TilingExamples}
use Rattle.tiling.proofs.Law.{each_tiles}

-- C2 B5 is one character
one : ValidUtf8 (0xC2 ∷ 0xB5 ∷ [])
one = record { characters = (0xC2 ∷ 0xB5 ∷ []) ∷ []; each = (inr (inl (lit≤ tt, lit≤ tt, (lit≤ tt, lit≤ tt, tt))), tt); whole = refl }

whole_tiles : Tiles (integers_of (0 ∷ 2 ∷ [])) (0xC2 ∷ 0xB5 ∷ [])
unfolding ends_from
whole_tiles = each_tiles [] (slot true (0xC2 ∷ 0xB5 ∷ []) ∷ []) (one, tt)

pub examples : TilingExamples
examples = record {
  whole = whole_tiles;
  cut = λ t. ⊎_elim (λ (e : 1 ≡ 2). omega arith) (λ (out : ((0x80 ≤ 0xB5) × (0xB5 ≤ 0xBF)) → ⊥). out (lit≤ tt, lit≤ tt)) (t.boundaries 1 (lit< tt));
  empty = λ t. ⊎_elim (λ (e : 0 ≡ 1). omega arith) (λ (out : ((0x80 ≤ 0xB5) × (0xB5 ≤ 0xBF)) → ⊥). out (lit≤ tt, lit≤ tt)) (t.boundaries 0 (lit< tt));
}
