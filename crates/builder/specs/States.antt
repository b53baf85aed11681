-- All that a builder holds together with its memory, and what one slot more makes of it.
use Rattle.std.specs.Prelude.{◌≡◌, ℕ, ◌+◌, ◌-◌, Bool, cond, List, [], ◌∷◌, ◌++◌, length, take, drop}
use Rattle.mask.specs.Bits.{put_bit}
use Rattle.slots.specs.Slots.{Slot}
use Rattle.builder.specs.declared.builder.VarBinBuilder.{VarBinBuilder}
use Rattle.builder.specs.declared.memory.Memory.{Memory}

pub record State : Type 0 where
  -- the memory: the store's offsets, free entries and top, the heap, the bit bytes
  pub offsets : List ℕ
  pub free : ℕ
  pub top : ℕ
  pub heap : List ℕ
  pub bits : List ℕ
  -- the builder: rows, used heap bytes, valid rows, how many rows it may have
  pub nullable : Bool
  pub rows : ℕ
  pub used : ℕ
  pub valid : ℕ
  pub capacity : ℕ
  -- the memory as the builder was left: free entries, heap length, bit bytes
  pub free_left : ℕ
  pub heap_left : ℕ
  pub bits_left : ℕ

-- what a builder, a store and two parts of memory stand for
abbrev pub state_of : {S : Type 0} → (S → List ℕ) → (S → ℕ) → (S → ℕ) → VarBinBuilder → S → List ℕ → List ℕ → State
state_of offsets free top b s heap bits = record {
  offsets = offsets s;
  free = free s;
  top = top s;
  heap = heap;
  bits = bits;
  nullable = b.dtype.nullable;
  rows = b.rows;
  used = b.used;
  valid = b.valid;
  capacity = b.capacity;
  free_left = b.free_left;
  heap_left = b.heap_left;
  bits_left = b.bits_left;
}

-- what a builder and the memory that comes with a call stand for
abbrev pub state_with : {S : Type 0} → (S → List ℕ) → (S → ℕ) → (S → ℕ) → VarBinBuilder → Memory S → State
state_with offsets free top b memory = state_of offsets free top b memory.store.now memory.heap.now memory.bits.now

-- the same memory is lent: what is written to it, its lender finds; heap and bits lie where they lay, and are as long as they were
pub record SameMemory {S : Type 0} (before after : Memory S) : Type 0 where
  pub same_store : after.store.ghost_name ≡ before.store.ghost_name
  pub same_heap : after.heap.ghost_name ≡ before.heap.ghost_name
  pub same_bits : after.bits.ghost_name ≡ before.bits.ghost_name
  pub heap_place : after.heap.ref_ptr ≡ before.heap.ref_ptr
  pub bits_place : after.bits.ref_ptr ≡ before.bits.ref_ptr
  pub heap_length : length after.heap.now ≡ length before.heap.now
  pub bits_length : length after.bits.now ≡ length before.bits.now

-- bytes laid over a heap from a place on
abbrev pub put_bytes : List ℕ → ℕ → List ℕ → List ℕ
put_bytes heap at bs = take at heap ++ (bs ++ drop (at + length bs) heap)

-- the same with another heap
abbrev pub with_heap : State → List ℕ → State
with_heap m heap = record {
  offsets = m.offsets;
  free = m.free;
  top = m.top;
  heap = heap;
  bits = m.bits;
  nullable = m.nullable;
  rows = m.rows;
  used = m.used;
  valid = m.valid;
  capacity = m.capacity;
  free_left = m.free_left;
  heap_left = m.heap_left;
  bits_left = m.bits_left;
}

-- one row more of so many bytes, which stand behind the used ones: its end in the store, its bit
abbrev pub add_row : State → Bool → ℕ → State
add_row m valid size = record {
  offsets = m.offsets ++ (m.used + size) ∷ [];
  free = m.free - 1;
  top = m.top;
  heap = m.heap;
  bits = put_bit m.bits m.rows valid;
  nullable = m.nullable;
  rows = m.rows + 1;
  used = m.used + size;
  valid = m.valid + cond valid 1 0;
  capacity = m.capacity;
  free_left = m.free_left - 1;
  heap_left = m.heap_left;
  bits_left = m.bits_left;
}

-- one slot more: its end in the store, its bytes behind the used ones, its bit
abbrev pub add_slot : State → Slot → State
add_slot m s = record {
  offsets = m.offsets ++ (m.used + length s.content) ∷ [];
  free = m.free - 1;
  top = m.top;
  heap = put_bytes m.heap m.used s.content;
  bits = put_bit m.bits m.rows s.valid;
  nullable = m.nullable;
  rows = m.rows + 1;
  used = m.used + length s.content;
  valid = m.valid + cond s.valid 1 0;
  capacity = m.capacity;
  free_left = m.free_left - 1;
  heap_left = m.heap_left;
  bits_left = m.bits_left;
}

unfoldable pub add_slots : State → List Slot → State
add_slots m [] = m
add_slots m (s ∷ ss) = add_slots (add_slot m s) ss

-- rows whose bytes stand behind the used ones already, by their flags and sizes
unfoldable pub add_rows : State → List Bool → List ℕ → State
add_rows m [] sizes = m
add_rows m (f ∷ fs) [] = m
add_rows m (f ∷ fs) (n ∷ ns) = add_rows (add_row m f n) fs ns
