-- Every history follows its account: the theorem, whole.
use Rattle.std.specs.Prelude.{◌≡◌, ℕ, ◌+◌, ◌-◌, ◌≤◌, max, Bool, true, false, List, ◌++◌, map, length, take, drop, replicate, Some, None, Option}
use Rattle.array.specs.Columns.{row_count, column_rows}
use Rattle.array.specs.Opening.{row_flags, open_answer}
use Rattle.builder.specs.Finishing.{finished_of}
use Rattle.builder.specs.Making.{make_answer, made}
use Rattle.builder.specs.States.{State}
use Rattle.compute.specs.Agreement.{Alike, SelectionsAgree}
use Rattle.compute.specs.Selections.{Selection, expansion}
use Rattle.integers.specs.Slices.{integers}
use Rattle.integers.specs.declared.slices.IntegerSlice.{IntegerSlice}
use Rattle.mask.specs.Bits.{bit_at}
use Rattle.mask.specs.Masks.{bit_flags}
use Rattle.mask.specs.declared.mask.Mask.{Mask}
use Rattle.ptype.specs.Integers.{integers_of}
use Rattle.refusal.specs.Refusals.{rule}
use Rattle.slots.specs.Rows.{Row}
use Rattle.slots.specs.Slots.{Slot, byte_count, slot_row, offsets_from, heap_of, flags_of}
use Rattle.tiling.specs.Tiling.{Tiles, EachUtf8}
use Rattle.utf8.specs.Laws.{ReaderDecides}
use Rattle.history.specs.Books.{Making, Book, empty_book, Entry, same_figures, book_run, book_answers, wiped_run}
use Rattle.history.specs.Finished.{HandedOver, finished_heap, slots_text}
use Rattle.history.specs.Histories.{figures_of, figures_left, state_after, entry_answers, added_slots, column_of}
use Rattle.history.specs.Requests.{Request, select, request_answer, request_after}
use Rattle.history.specs.Running.{finished_state}
use Rattle.history.specs.Runs.{step}

-- what making was given, with the bytes that heap and bits held then
pub record Made : Type 0 where
  pub nullable : Bool
  pub entries : ℕ
  pub top : ℕ
  pub heap : List ℕ
  pub bits : List ℕ
  -- and that it was accepted
  pub accepted : make_answer 0 entries (length heap) ≡ None

abbrev pub making_of : Made → Making
making_of g = record { nullable = g.nullable; entries = g.entries; top = g.top; heap_length = length g.heap; bit_bytes = length g.bits }

-- builder and memory fresh from making
abbrev pub made_state : Made → State
made_state g = made g.nullable g.entries g.top g.heap g.bits

-- the account and the memory after the first n entries
abbrev pub book_at : Made → List Entry → ℕ → Book
book_at g es n = book_run (making_of g) empty_book (take n es)

abbrev pub state_at : Made → List Entry → ℕ → State
state_at g es n = state_after (made_state g) (take n es)

-- how far the heap was wiped
abbrev pub wiped_at : Made → List Entry → ℕ → ℕ
wiped_at g es n = wiped_run (making_of g) empty_book 0 (take n es)

-- memory m, made as g, shows these slots; decodes wiped the heap up to w
pub record Shows (g : Made) (ss : List Slot) (w : ℕ) (m : State) : Type 0 where
  -- the column: offsets, used heap, row bits
  pub offsets : m.offsets ≡ offsets_from 0 ss
  pub used_heap : take m.used m.heap ≡ heap_of ss
  pub row_bits : bit_flags m.rows m.bits ≡ flags_of ss
  -- what the builder counts
  pub rows : m.rows ≡ length ss
  pub used : m.used ≡ byte_count ss
  -- and the rest: behind the used heap zeros as far as decodes wiped it, then the bytes as made; the other bits as made
  pub other_heap : drop m.used m.heap ≡ replicate (w - m.used) 0 ++ drop (max m.used w) g.heap
  pub other_bits : (k : ℕ) → m.rows ≤ k → bit_at m.bits k ≡ bit_at g.bits k
  pub heap_length : length m.heap ≡ length g.heap
  pub bits_length : length m.bits ≡ length g.bits
  pub top : m.top ≡ g.top
  pub entries : m.free + m.rows ≡ g.entries - 1

pub record HistoriesFollow : Type 0 where
  -- each call is refused exactly when the account refuses it, with the same number, entry and byte
  pub same_answers : (g : Made) (es : List Entry) → entry_answers (made_state g) es ≡ book_answers (making_of g) empty_book es
  -- after every prefix, store, heap and bits show the account's slots
  pub shows : (g : Made) (es : List Entry) (n : ℕ) → Shows g (book_at g es n).slots (wiped_at g es n) (state_at g es n)
  -- a call on memory that differs in one of the five figures is refused with 1 and leaves builder and memory
  pub other_memory : (m : State) (r : Request) → same_figures (figures_of m) (figures_left m) ≡ false → (request_answer m r ≡ Some (rule 1)) × (request_after m r (Some (rule 1)) ≡ m)
  -- the builder's own memory is never refused with 1
  pub own_memory : (g : Made) (es : List Entry) (n : ℕ) → same_figures (figures_of (state_at g es n)) (figures_left (state_at g es n)) ≡ true
  -- the slots of the account are those that the accepted calls added
  pub added : (g : Made) (es : List Entry) → added_slots (made_state g) es ≡ (book_run (making_of g) empty_book es).slots
  -- two histories leave the same column exactly when their accepted calls added the same slots in the same order
  pub same_column : (g h : Made) (es fs : List Entry) → added_slots (made_state g) es ≡ added_slots (made_state h) fs → column_of (state_after (made_state g) es) ≡ column_of (state_after (made_state h) fs)
  pub same_slots : (g h : Made) (es fs : List Entry) → column_of (state_after (made_state g) es) ≡ column_of (state_after (made_state h) fs) → added_slots (made_state g) es ≡ added_slots (made_state h) fs
  -- selections that expand to the same row indices agree
  pub selections : SelectionsAgree
  -- also where each is the last call of a history: only the indices, the rows and the eight figures matter
  pub last_selections : (g h : Made) (es fs : List Entry) (rows : List Row) (s t : Selection) (ns : List (Option ℕ)) → expansion (length rows) s ≡ Some ns → expansion (length rows) t ≡ Some ns → Alike (state_after (made_state g) es) (state_after (made_state h) fs)
      → (request_answer (state_after (made_state g) es) (select rows s) ≡ request_answer (state_after (made_state h) fs) (select rows t)) × Alike (step (state_after (made_state g) es) (select rows s)) (step (state_after (made_state h) fs) (select rows t))
  -- the finished record is the account's
  pub record_is : (g : Made) (es : List Entry) → finished_state (state_after (made_state g) es) ≡ finished_of g.nullable (book_run (making_of g) empty_book es).slots
  -- the tiling check over the store's offsets in any kind and the heap cut at the record's bytes says yes exactly when every slot is UTF-8, null ones too
  pub tiles_each : (g : Made) (es : List Entry) (slice : IntegerSlice) → integers slice ≡ integers_of (state_after (made_state g) es).offsets → Tiles (integers slice) (finished_heap (state_after (made_state g) es)) → EachUtf8 (book_run (making_of g) empty_book es).slots
  pub each_tiles : (g : Made) (es : List Entry) (slice : IntegerSlice) → integers slice ≡ integers_of (state_after (made_state g) es).offsets → EachUtf8 (book_run (making_of g) empty_book es).slots → Tiles (integers slice) (finished_heap (state_after (made_state g) es))
  -- the finished column opens as bytes, and its rows are the account's slots read as rows
  pub opens : (g : Made) (es : List Entry) (slice : IntegerSlice) (mask : Option Mask) → HandedOver (state_after (made_state g) es) slice mask → open_answer g.nullable false (integers slice) (finished_heap (state_after (made_state g) es)) mask ≡ None
  pub opened_rows : (g : Made) (es : List Entry) (slice : IntegerSlice) (mask : Option Mask) → HandedOver (state_after (made_state g) es) slice mask → column_rows (integers slice) (finished_heap (state_after (made_state g) es)) (row_flags mask (row_count (integers slice))) ≡ map slot_row (book_run (making_of g) empty_book es).slots
  -- as text it opens exactly when each valid slot is UTF-8, else 18 at the first that is not, with its heap place
  pub opens_as_text : (g : Made) (es : List Entry) (slice : IntegerSlice) (mask : Option Mask) → HandedOver (state_after (made_state g) es) slice mask → open_answer g.nullable true (integers slice) (finished_heap (state_after (made_state g) es)) mask ≡ slots_text (book_run (making_of g) empty_book es).slots
  -- where the reader of text that judges this decides the grammar of RFC 3629
  pub text_reader : ReaderDecides
