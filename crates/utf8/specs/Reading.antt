-- The reader as an abstract machine: what it awaits, and where the character that it reads began.
use Rattle.std.specs.Prelude.{ℕ, zero, suc, ◌+◌, ◌-◌, cond, ◌&&◌, List, [], ◌∷◌, Some, None, Ok, Err, Option, Result, nat_le}
use Rattle.utf8.specs.declared.lead.Lead.{Lead}
use Rattle.utf8.specs.declared.reader.State.{State}
use Rattle.utf8.specs.declared.reader.State.TheVariants.{Start, Need, Wrong}
use Rattle.utf8.specs.declared.reader.Utf8Reader.{Utf8Reader}
use Rattle.utf8.specs.declared.validate.Utf8Error.{Utf8Error}
use Rattle.utf8.specs.Grammar.{rows}

-- between two characters; within one, with so many bytes to come and bounds for the next; or past a bad byte
pub data Awaited : Type 0 where
  boundary : Awaited
  tails : ℕ → ℕ → ℕ → Awaited
  broken : Awaited

pub record Reading : Type 0 where
  pub awaited : Awaited
  pub begin : ℕ

-- n bytes to come
abbrev pub awaiting : ℕ → ℕ → ℕ → Awaited
awaiting zero low high = boundary
awaiting (suc n) low high = tails (suc n) low high

-- after a lead byte, by the row that has it
abbrev pub after_lead : List Lead → ℕ → Awaited
after_lead [] b = broken
after_lead (r ∷ rs) b = cond (nat_le r.first b && nat_le b r.last) (awaiting r.tails r.low r.high) (after_lead rs b)

abbrev pub after_byte : Awaited → ℕ → Awaited
after_byte boundary b = after_lead rows b
after_byte (tails n low high) b = cond (nat_le low b && nat_le b high) (awaiting (n - 1) 0x80 0xBF) broken
after_byte broken b = broken

-- where the character began that a byte at this place belongs to
abbrev pub begin_at : Awaited → ℕ → ℕ → ℕ
begin_at boundary begin place = place
begin_at (tails n low high) begin place = begin
begin_at broken begin place = begin

-- a byte more, which stands at this place
abbrev pub stepped : Reading → ℕ → ℕ → Reading
stepped m place b = record { awaited = after_byte m.awaited b; begin = begin_at m.awaited m.begin place }

abbrev pub fresh : Reading
fresh = record { awaited = boundary; begin = 0 }

-- where the first bad character begins, if the text ends here; a character that is cut off begins at its lead byte
abbrev pub fault_of : Awaited → ℕ → Option ℕ
fault_of boundary begin = None
fault_of (tails n low high) begin = Some begin
fault_of broken begin = Some begin

abbrev pub fault : Reading → Option ℕ
fault m = fault_of m.awaited m.begin

-- after all of these bytes, the first of which stands at this place
unfoldable pub read_all : Reading → ℕ → List ℕ → Reading
read_all m place [] = m
read_all m place (b ∷ bs) = read_all (stepped m place b) (place + 1) bs

-- where the first bad character of a text begins, if there is one
abbrev pub first_fault : List ℕ → Option ℕ
first_fault xs = fault (read_all fresh 0 xs)

-- what the code's reader stands for
abbrev pub awaited_of : State → Awaited
awaited_of Start = boundary
awaited_of (Need n low high) = tails n low high
awaited_of Wrong = broken

abbrev pub reading : Utf8Reader → Reading
reading r = record { awaited = awaited_of r.state; begin = r.begin }

-- the answer of a check: no bad character, or the place of the first
abbrev pub checked : {X : Type 0} → Result X Utf8Error → Option ℕ
checked (Ok x) = None
checked (Err e) = Some e.valid_up_to
