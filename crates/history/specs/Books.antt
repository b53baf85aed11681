-- The account of a history by slots alone. It is given what making a builder was given and each call's arguments, and never sees memory.
-- (The rules call it the book.)
use Rattle.std.specs.Prelude.{ℕ, ◌+◌, ◌-◌, max, Bool, not, ◌&&◌, List, [], ◌∷◌, ◌++◌, length, Some, None, Option, ◌==◌}
use Rattle.builder.specs.Bulk.{unset_count, counts_check, values_checks, decode_checks}
use Rattle.builder.specs.Making.{capacity_of}
use Rattle.builder.specs.Space.{space_checks}
use Rattle.builder.specs.Calls.{null_count}
use Rattle.compute.specs.Selections.{selection_checks}
use Rattle.mask.specs.Masks.{flags, covered}
use Rattle.refusal.specs.Refusals.{Code, rule, refuse_if, first_refusal}
use Rattle.slots.specs.Slots.{Slot, byte_count}
use Rattle.history.specs.Requests.{Request, value, equal_values, nulls, values, decoding, select, named_slots}

-- what making was given: nullability, the store's free entries and its top, the heap's length, how many bit bytes
pub record Making : Type 0 where
  pub nullable : Bool
  pub entries : ℕ
  pub top : ℕ
  pub heap_length : ℕ
  pub bit_bytes : ℕ

-- what the account holds: the slots that were added, in order
pub record Book : Type 0 where
  pub slots : List Slot

abbrev pub empty_book : Book
empty_book = record { slots = [] }

-- space behind the slots so far: rows, nulls among them, bytes, heap bytes asked for
abbrev pub book_space : Making → Book → ℕ → ℕ → ℕ → ℕ → List (Option Code)
book_space g b rows null_rows size asked =
    space_checks g.nullable (capacity_of g.entries g.bit_bytes) (length b.slots) (byte_count b.slots) g.heap_length g.top rows null_rows size asked

abbrev pub book_space_for : Making → Book → List Slot → List (Option Code)
book_space_for g b ss = book_space g b (length ss) (null_count ss) (byte_count ss) (byte_count ss)

-- what is asked before a decoder runs
abbrev pub book_before : Making → Book → Request → List (Option Code)
book_before g b (value bs) = []
book_before g b (equal_values bs n) = []
book_before g b (nulls n) = []
book_before g b (values bs ends mask) = []
book_before g b (decoding count slack lengths mask means) = counts_check lengths (flags mask) (covered mask) ∷ book_space g b (length lengths) (unset_count (flags mask)) count (count + slack)
book_before g b (select rows s) = []

-- all that is asked, in the order of checking
abbrev pub book_checks : Making → Book → Request → List (Option Code)
book_checks g b (value bs) = book_space_for g b (named_slots (value bs))
book_checks g b (equal_values bs n) = book_space_for g b (named_slots (equal_values bs n))
book_checks g b (nulls n) = book_space_for g b (named_slots (nulls n))
book_checks g b (values bs ends mask) = values_checks bs ends mask ++ book_space_for g b (named_slots (values bs ends mask))
book_checks g b (decoding count slack lengths mask means) = book_before g b (decoding count slack lengths mask means) ++ decode_checks means (count + slack) count lengths
book_checks g b (select rows s) = selection_checks (length rows) s ++ book_space_for g b (named_slots (select rows s))

abbrev pub book_answer : Making → Book → Request → Option Code
book_answer g b r = first_refusal (book_checks g b r)

-- an accepted call adds the slots that it names, a refused one nothing
abbrev pub added_by : Option Code → Request → List Slot
added_by None r = named_slots r
added_by (Some c) r = []

abbrev pub book_after : Making → Book → Request → Book
book_after g b r = record { slots = b.slots ++ added_by (book_answer g b r) r }

-- how far from its start the heap was wiped by decodes so far: a decoder that was asked had its part wiped
abbrev pub wiped_by : Option Code → Book → ℕ → Request → ℕ
wiped_by before b w (value bs) = w
wiped_by before b w (equal_values bs n) = w
wiped_by before b w (nulls n) = w
wiped_by before b w (values bs ends mask) = w
wiped_by None b w (decoding count slack lengths mask means) = max w (byte_count b.slots + (count + slack))
wiped_by (Some c) b w (decoding count slack lengths mask means) = w
wiped_by before b w (select rows s) = w

abbrev pub wiped_after : Making → Book → ℕ → Request → ℕ
wiped_after g b w r = wiped_by (first_refusal (book_before g b r)) b w r

-- ---- entries of a history

-- memory as a call sees it: how many offsets, the last of them, free entries, heap length, bit bytes
pub record Figures : Type 0 where
  pub offset_count : ℕ
  pub last_offset : ℕ
  pub free_entries : ℕ
  pub heap_bytes : ℕ
  pub bit_count : ℕ

abbrev pub same_figures : Figures → Figures → Bool
same_figures a b =
    (a.offset_count == b.offset_count)
    && (a.last_offset == b.last_offset
    && (a.free_entries == b.free_entries
    && (a.heap_bytes == b.heap_bytes && a.bit_count == b.bit_count)))

-- a call on the builder's own memory, or on other memory with these figures
pub data Entry : Type 0 where
  own : Request → Entry
  elsewhere : Figures → Request → Entry

-- the figures that the account reckons for the builder's own memory
abbrev pub book_figures : Making → Book → Figures
book_figures g b = record {
  offset_count = length b.slots + 1;
  last_offset = byte_count b.slots;
  free_entries = g.entries - 1 - length b.slots;
  heap_bytes = g.heap_length;
  bit_count = g.bit_bytes;
}

-- 1: other figures; memory with the builder's own figures is its own and stands in no such entry
abbrev pub book_entry_answer : Making → Book → Entry → Option Code
book_entry_answer g b (own r) = book_answer g b r
book_entry_answer g b (elsewhere f r) = refuse_if (not (same_figures f (book_figures g b))) (rule 1)

abbrev pub book_entry_after : Making → Book → Entry → Book
book_entry_after g b (own r) = book_after g b r
book_entry_after g b (elsewhere f r) = b

abbrev pub wiped_entry : Making → Book → ℕ → Entry → ℕ
wiped_entry g b w (own r) = wiped_after g b w r
wiped_entry g b w (elsewhere f r) = w

-- ---- whole histories

unfoldable pub book_run : Making → Book → List Entry → Book
book_run g b [] = b
book_run g b (e ∷ es) = book_run g (book_entry_after g b e) es

unfoldable pub book_answers : Making → Book → List Entry → List (Option Code)
book_answers g b [] = []
book_answers g b (e ∷ es) = book_entry_answer g b e ∷ book_answers g (book_entry_after g b e) es

unfoldable pub wiped_run : Making → Book → ℕ → List Entry → ℕ
wiped_run g b w [] = w
wiped_run g b w (e ∷ es) = wiped_run g (book_entry_after g b e) (wiped_entry g b w e) es
