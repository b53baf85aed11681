-- Placing slots that fit, one after the other.
use Rattle.std.proofs.Common.{◌≡◌, ℕ, suc, ◌+◌, ◌-◌, ◌<◌, ◌≤◌, Bool, List, [], ◌∷◌, length, replicate, sym, refl, ap, ◌∙◌, subst, arith, length-append, length-drop, length-take}
use Rattle.slots.specs.Slots.{Slot, byte_count}
use Rattle.builder.specs.Calls.{RowsFit, Fits}
use Rattle.builder.specs.Space.{Room, RowRoom}
use Rattle.builder.specs.States.{State, SameMemory, put_bytes, add_row, add_slot, add_slots}
use Rattle.builder.specs.declared.memory.Memory.{Memory}

length_put : (heap : List ℕ) (at : ℕ) (bs : List ℕ) → at + length bs ≤ length heap → length (put_bytes heap at bs) ≡ length heap
length_put heap at bs h = simp (length-append, length-take, length-drop) (omega arith)

-- the first of the slots has room
pub first_row : (m : State) (count size n : ℕ) → n ≤ size → RowsFit m (suc count) size → RowRoom m n
first_row m count size n le f = record { entry = omega (arith, f.entries); row = omega (arith, f.rows); left = omega (arith, f.left); below = omega (arith, f.below) }

pub first_room : (m : State) (s : Slot) (ss : List Slot) → Fits m (s ∷ ss) → Room m (length s.content)
unfolding byte_count
first_room m s ss f = record { entry = omega (arith, f.entries); row = omega (arith, f.rows); fits = omega (arith, f.heap); left = omega (arith, f.left); below = omega (arith, f.below) }

-- and the others fit behind it
pub rest_rows : (m : State) (count size n : ℕ) (valid : Bool) → RowsFit m (suc count) (n + size) → RowsFit (add_row m valid n) count size
rest_rows m count size n valid f = record { entries = omega (arith, f.entries); rows = omega (arith, f.rows); left = omega (arith, f.left); below = omega (arith, f.below) }

rest_fits : (m : State) (s : Slot) (ss : List Slot) → Fits m (s ∷ ss) → Fits (add_slot m s) ss
unfolding byte_count
rest_fits m s ss f =
    let long = length_put m.heap m.used s.content (omega (arith, f.heap)) in
    record { entries = omega (arith, f.entries); rows = omega (arith, f.rows); heap = omega (arith, f.heap); left = omega (arith, f.left); below = omega (arith, f.below) }

-- m is where the slots of `all` have come from m0, and ss are left
pub record Filling (m0 : State) (all : List Slot) (m : State) (ss : List Slot) : Type 0 where
  pub goes : add_slots m ss ≡ add_slots m0 all
  pub fits : Fits m ss

pub begin : (m : State) (ss : List Slot) → Fits m ss → Filling m ss m ss
begin m ss f = record { goes = refl; fits = f }

pub more : (m0 : State) (all : List Slot) (m : State) (s : Slot) (ss : List Slot) (m1 : State) → Filling m0 all m (s ∷ ss) → m1 ≡ add_slot m s → Filling m0 all m1 ss
unfolding add_slots
more m0 all m s ss m1 f e = record { goes = ap (λ x. add_slots x ss) e ∙ f.goes; fits = subst (λ x. Fits x ss) (sym e) (rest_fits m s ss f.fits) }

pub ends : (m0 : State) (all : List Slot) (m : State) → Filling m0 all m [] → m ≡ add_slots m0 all
unfolding add_slots
ends m0 all m f = f.goes

-- the same for lent memory, in whose place no other was put
pub record Placing {S : Type 0} (m0 : State) (all : List Slot) (m : State) (ss : List Slot) (before after : Memory S) : Type 0 where
  pub filling : Filling m0 all m ss
  pub same : SameMemory before after

-- one of n equal slots
pub one_of : {X : Type 0} (n i : ℕ) (x : X) → i < n → replicate (n - i) x ≡ x ∷ replicate (n - (i + 1)) x
one_of n i x h = let e : n - i ≡ suc (n - (i + 1)) = omega arith in ap (λ k. replicate k x) e

pub none_of : {X : Type 0} (n i : ℕ) (x : X) → n ≤ i → replicate (n - i) x ≡ []
none_of n i x h = let e : n - i ≡ 0 = omega arith in ap (λ k. replicate k x) e

pub begin_equal : (m : State) (n : ℕ) (x : Slot) → Fits m (replicate n x) → Filling m (replicate n x) m (replicate (n - 0) x)
begin_equal m n x f = let e : n ≡ n - 0 = omega arith in subst (λ k. Filling m (replicate n x) m (replicate k x)) e (begin m (replicate n x) f)
