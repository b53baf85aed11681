-- What is read of the offsets of a column that never fall, and of its rows.
use Rattle.std.proofs.Common.{◌≡◌, ℕ, ◌+◌, ◌<◌, ◌≤◌, Bool, true, false, cond, List, length, get_or, ℤ, is_some, Some, None, Option, sym, refl, ap, ◌∙◌, arith}
use Rattle.std.specs.List.{slice_get}
use Rattle.std.proofs.lemmas.List.FromFn.{length-map-range_with_len, get_or-map-range_with_len}
use Rattle.std.proofs.lemmas.Option.{slice_get-get_or, slice_get_past}
use Rattle.ptype.specs.Integers.{amount_at}
use Rattle.ptype.specs.Searches.{first_fall}
use Rattle.ptype.proofs.Rising.{each, ordered}
use Rattle.slots.specs.Rows.{null, bytes}
use Rattle.array.specs.Columns.{row_count, slot_bytes, column_row, column_rows}

pub is_none : {X : Type 0} (o : Option X) → is_some o ≡ false → o ≡ None
is_none None e = refl
is_none (Some x) e = let z : ◌≡◌ {A = ℕ} 0 1 = cc in absurd (omega arith)

-- two offsets in a row
pub record Bounds (zs : List ℤ) (heap i : ℕ) : Type 0 where
  pub rise : amount_at zs i ≤ amount_at zs (i + 1)
  pub stay : amount_at zs (i + 1) ≤ heap

pub bounds : (zs : List ℤ) (heap i : ℕ) → is_some (first_fall heap 0 0 zs) ≡ false → i + 1 < length zs → Bounds zs heap i
bounds zs heap i e h =
    let none = is_none (first_fall heap 0 0 zs) e in
    record { rise = ordered heap 0 0 zs none i (i + 1) (omega arith) h; stay = (each heap 0 0 zs none (i + 1) h).below }

-- two offsets in a row, as they were read
pub record Read (zs : List ℤ) (heap i from to : ℕ) : Type 0 where
  pub first : from ≡ amount_at zs i
  pub second : to ≡ amount_at zs (i + 1)
  pub order : from ≤ to
  pub inside : to ≤ heap

pub read_both : (zs : List ℤ) (heap i from to : ℕ) → is_some (first_fall heap 0 0 zs) ≡ false → i + 1 < length zs → from ≡ amount_at zs i → to ≡ amount_at zs (i + 1) → Read zs heap i from to
read_both zs heap i from to e h f t =
    let b = bounds zs heap i e h in
    record { first = f; second = t; order = omega (arith, b.rise); inside = omega (arith, b.stay) }

module _ (zs : List ℤ) (heap : List ℕ) (fs : List Bool) where
  pub length_rows : length (column_rows zs heap fs) ≡ row_count zs
  length_rows = length-map-range_with_len (column_row zs heap fs) 0 (row_count zs)

  pub row_past : (i : ℕ) → row_count zs ≤ i → slice_get (column_rows zs heap fs) i ≡ None
  row_past i h = slice_get_past (column_rows zs heap fs) i (omega (arith, length_rows))

  row_in : (i : ℕ) → i < row_count zs → slice_get (column_rows zs heap fs) i ≡ Some (column_row zs heap fs i)
  row_in i h =
      slice_get-get_or (column_rows zs heap fs) i null (omega (arith, length_rows))
      ∙ ap (λ r. Some r) (get_or-map-range_with_len (column_row zs heap fs) 0 (row_count zs) i i null h (omega arith))

  pub row_null : (i : ℕ) → i < row_count zs → false ≡ get_or fs i false → slice_get (column_rows zs heap fs) i ≡ Some null
  row_null i h e = row_in i h ∙ ap (λ b. Some (cond b (bytes (slot_bytes zs heap i)) null)) (sym e)

  pub row_bytes : (i : ℕ) → i < row_count zs → true ≡ get_or fs i false → slice_get (column_rows zs heap fs) i ≡ Some (bytes (slot_bytes zs heap i))
  row_bytes i h e = row_in i h ∙ ap (λ b. Some (cond b (bytes (slot_bytes zs heap i)) null)) (sym e)
