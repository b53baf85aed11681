-- What making a builder asks, and what it leaves.
use Rattle.std.specs.Prelude.{ℕ, ◌-◌, ◌*◌, min, Bool, not, ◌||◌, List, [], ◌∷◌, length, Option, ◌==◌, nat_lt}
use Rattle.refusal.specs.Refusals.{Code, rule, refuse_if, first_refusal}
use Rattle.builder.specs.States.{State}

-- 14 a heap over the limit; 13 a store that holds an offset or has no free entry
abbrev pub make_answer : ℕ → ℕ → ℕ → Option Code
make_answer offsets free heap = first_refusal (refuse_if (nat_lt 68719476736 heap) (rule 14) ∷ refuse_if (not (offsets == 0) || free == 0) (rule 13) ∷ [])

-- the least of the free entries behind offset 0, 8 times the bit bytes, and the row limit
abbrev pub capacity_of : ℕ → ℕ → ℕ
capacity_of free bits = min (free - 1) (min (8 * bits) 16777216)

-- a builder fresh from making, with its memory
abbrev pub made : Bool → ℕ → ℕ → List ℕ → List ℕ → State
made nullable free top heap bits = record {
  offsets = 0 ∷ [];
  free = free - 1;
  top = top;
  heap = heap;
  bits = bits;
  nullable = nullable;
  rows = 0;
  used = 0;
  valid = 0;
  capacity = capacity_of free (length bits);
  free_left = free - 1;
  heap_left = length heap;
  bits_left = length bits;
}
