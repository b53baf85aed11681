-- A slot is a valid flag and a list of bytes; a column is what Arrow's variable-size binary layout makes of a list of slots.
use Rattle.std.specs.Prelude.{ℕ, ◌+◌, Bool, true, false, cond, List, [], ◌∷◌, map, length}
use Rattle.std.specs.List.{flat_map}
use Rattle.slots.specs.declared.slot.SlotRef.{SlotRef}
use Rattle.slots.specs.Rows.{Row, null, bytes}

pub record Slot : Type 0 where
  pub valid : Bool
  pub content : List ℕ

abbrev pub slot : Bool → List ℕ → Slot
slot valid content = record { valid = valid; content = content }

-- a slot as code hands it on
abbrev pub slot_of : SlotRef → Slot
slot_of s = slot s.valid s.bytes.now

-- the row of a slot: its bytes where it is valid, else null, whatever bytes lie under it
abbrev pub slot_row : Slot → Row
slot_row s = cond s.valid (bytes s.content) null

-- a row as a slot: a null row has no bytes
abbrev pub row_slot : Row → Slot
row_slot null = slot false []
row_slot (bytes bs) = slot true bs

abbrev pub content_of : Slot → List ℕ
content_of s = s.content

abbrev pub valid_of : Slot → Bool
valid_of s = s.valid

-- how many bytes the slots have together
unfoldable pub byte_count : List Slot → ℕ
byte_count [] = 0
byte_count (s ∷ ss) = length s.content + byte_count ss

-- where each slot ends, if the first begins at n
unfoldable pub ends_from : ℕ → List Slot → List ℕ
ends_from n [] = []
ends_from n (s ∷ ss) = (n + length s.content) ∷ ends_from (n + length s.content) ss

-- the offsets of a column whose first slot begins at n
abbrev pub offsets_from : ℕ → List Slot → List ℕ
offsets_from n ss = n ∷ ends_from n ss

-- the heap of a column: the slots' bytes in order
abbrev pub heap_of : List Slot → List ℕ
heap_of ss = flat_map content_of ss

-- the validity of a column: a flag a row
abbrev pub flags_of : List Slot → List Bool
flags_of ss = map valid_of ss
