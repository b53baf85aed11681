-- The same memory from call to call.
use Rattle.std.proofs.Common.{refl, ◌∙◌}
use Rattle.builder.specs.States.{SameMemory}
use Rattle.builder.specs.declared.memory.Memory.{Memory}

module _ {S : Type 0} where
  pub same : (m : Memory S) → SameMemory m m
  same m = record { same_store = refl; same_heap = refl; same_bits = refl; heap_place = refl; bits_place = refl; heap_length = refl; bits_length = refl }

  pub then_same : (m n o : Memory S) → SameMemory m n → SameMemory n o → SameMemory m o
  then_same m n o a b = record {
    same_store = b.same_store ∙ a.same_store;
    same_heap = b.same_heap ∙ a.same_heap;
    same_bits = b.same_bits ∙ a.same_bits;
    heap_place = b.heap_place ∙ a.heap_place;
    bits_place = b.bits_place ∙ a.bits_place;
    heap_length = b.heap_length ∙ a.heap_length;
    bits_length = b.bits_length ∙ a.bits_length;
  }
