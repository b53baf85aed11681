-- A refusal as three numbers: which rule turned a call down, at which entry, and at which byte. A place that is not named is 0.
use Rattle.std.specs.Prelude.{ℕ, Bool, true, false, List, [], ◌∷◌, Some, None, Ok, Err, Option, Result}
use Rattle.refusal.specs.declared.Refusal.{Refusal}
use Rattle.refusal.specs.declared.Refusal.TheVariants.{OtherMemory, RowsOverCapacity, BytesOverHeap, BytesOverTop, NullNotAllowed, CountsDiffer, BadEnd, TotalDiffers, DecoderRefused, DecodedCountDiffers, RowAbsent, MaskLengthDiffers, StoreNotFresh, OverLimit, NoOffsets, ValidityMismatch, BadOffset, NotUtf8, MalformedRecord}

pub record Code : Type 0 where
  pub number : ℕ
  pub entry : ℕ
  pub byte : ℕ

abbrev pub code : ℕ → ℕ → ℕ → Code
code number entry byte = record { number = number; entry = entry; byte = byte }

-- a rule without a place
abbrev pub rule : ℕ → Code
rule number = code number 0 0

-- the number, entry and byte of each refusal
abbrev pub code_of : Refusal → Code
code_of OtherMemory = rule 1
code_of RowsOverCapacity = rule 2
code_of BytesOverHeap = rule 3
code_of BytesOverTop = rule 4
code_of NullNotAllowed = rule 5
code_of CountsDiffer = rule 6
code_of (BadEnd entry) = code 7 entry 0
code_of TotalDiffers = rule 8
code_of DecoderRefused = rule 9
code_of DecodedCountDiffers = rule 10
code_of (RowAbsent entry) = code 11 entry 0
code_of MaskLengthDiffers = rule 12
code_of StoreNotFresh = rule 13
code_of OverLimit = rule 14
code_of NoOffsets = rule 15
code_of ValidityMismatch = rule 16
code_of (BadOffset entry) = code 17 entry 0
code_of (NotUtf8 entry byte) = code 18 entry byte
code_of (MalformedRecord entry) = code 19 entry 0

-- the answer of a call: nothing where it accepts, else the refusal
abbrev pub answer : {X : Type 0} → Result X Refusal → Option Code
answer (Ok x) = None
answer (Err e) = Some (code_of e)

-- a check that turns a call down where a test holds
abbrev pub refuse_if : Bool → Code → Option Code
refuse_if true c = Some c
refuse_if false c = None

-- the answer of checks in their order: the first refusal
abbrev pub first_refusal : List (Option Code) → Option Code
first_refusal [] = None
first_refusal (None ∷ cs) = first_refusal cs
first_refusal (Some c ∷ cs) = Some c
