-- What a slice of any kind means: a list of integers.
use Rattle.std.specs.Prelude.{List, map, ℤ, pos}
use Rattle.integers.specs.declared.slices.IntegerSlice.{IntegerSlice}
use Rattle.integers.specs.declared.slices.IntegerSlice.TheVariants.{U8, U16, U32, U64, I8, I16, I32, I64}
use Rattle.integers.specs.declared.unsigned.UnsignedSlice.{UnsignedSlice}
use Rattle.integers.specs.declared.unsigned.UnsignedSlice.TheVariants.{U8 as Unsigned8, U16 as Unsigned16, U32 as Unsigned32, U64 as Unsigned64}

abbrev pub integers : IntegerSlice → List ℤ
integers (U8 s) = map pos s.now
integers (U16 s) = map pos s.now
integers (U32 s) = map pos s.now
integers (U64 s) = map pos s.now
integers (I8 s) = map (λ z. z) s.now
integers (I16 s) = map (λ z. z) s.now
integers (I32 s) = map (λ z. z) s.now
integers (I64 s) = map (λ z. z) s.now

-- the same four kinds among the eight
abbrev pub widened : UnsignedSlice → IntegerSlice
widened (Unsigned8 s) = U8 s
widened (Unsigned16 s) = U16 s
widened (Unsigned32 s) = U32 s
widened (Unsigned64 s) = U64 s
