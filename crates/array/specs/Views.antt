-- What an opened view holds, and where the part lies that it hands out.
use Rattle.std.specs.Prelude.{◌≡◌, ℕ, ◌+◌, Bool, List, Some, None, Option}
use Rattle.std.specs.Borrow.{Bor}
use Rattle.std.specs.List.{between}
use Rattle.mask.specs.Masks.{flags}
use Rattle.mask.specs.declared.mask.Mask.{Mask}
use Rattle.integers.specs.Slices.{integers}
use Rattle.integers.specs.declared.slices.IntegerSlice.{IntegerSlice}
use Rattle.array.specs.Columns.{row_count}
use Rattle.array.specs.Opening.{row_flags}
use Rattle.array.specs.declared.view.VarBinArray.{VarBinArray}

-- the part that a row hands out begins at place a of the memory and ends before place b
abbrev pub Placed : Option (Option (Bor (List ℕ))) → Bor (List ℕ) → ℕ → ℕ → Type 0
Placed None memory a b = Unit {0}
Placed (Some None) memory a b = Unit {0}
Placed (Some (Some part)) memory a b = (part.ref_ptr ≡ (memory.ref_ptr.0, memory.ref_ptr.1 + a)) × (part.now ≡ between a b memory.now)

-- the view over these parts
pub record Opened (view : VarBinArray) (offsets : IntegerSlice) (heap : Bor (List ℕ)) (mask : Option Mask) (nullable is_text : Bool) : Type 0 where
  pub offsets_are : view.offsets ≡ offsets
  pub heap_is : view.heap ≡ heap
  pub valid_are : flags view.validity ≡ row_flags mask (row_count (integers offsets))
  pub nullable_is : view.dtype.nullable ≡ nullable
  pub text_is : view.dtype.utf8 ≡ is_text
