-- Every history follows its account: the theorem, from its parts.
use Rattle.std.proofs.Common.{◌≡◌, List, [], take, sym, subst, arith}
use Rattle.compute.proofs.Agreeing.{Bounds, same_answers, alike_after, selections_agree}
use Rattle.integers.specs.Slices.{integers}
use Rattle.integers.specs.declared.slices.IntegerSlice.{IntegerSlice}
use Rattle.ptype.specs.Integers.{integers_of}
use Rattle.slots.specs.Slots.{Slot, offsets_from, heap_of}
use Rattle.tiling.specs.Tiling.{Tiles}
use Rattle.tiling.proofs.Law.{tiles_each, each_tiles}
use Rattle.utf8.proofs.Decided.{reader_decides}
use Rattle.history.specs.Books.{Entry, empty_book, book_run, wiped_run}
use Rattle.history.specs.Finished.{finished_heap}
use Rattle.history.specs.Histories.{state_after}
use Rattle.history.specs.Theorem.{Made, making_of, made_state, HistoriesFollow}
use Rattle.history.proofs.Following.{fresh, own_figures, owned}
use Rattle.history.proofs.Opening.{numbers_are, heap_is, opens, opens_text, opened_rows}
use Rattle.history.proofs.Whole.{answers_follow, follows, added_slots_lem, shown, finished, same_column, same_slots, other_memory}

module _ (g : Made) (es : List Entry) where
  abbrev slots : List Slot
  slots = (book_run (making_of g) empty_book es).slots

  -- the finished column's offsets and heap are those of the slots
  tiled : (slice : IntegerSlice) → integers slice ≡ integers_of (state_after (made_state g) es).offsets → Tiles (integers slice) (finished_heap (state_after (made_state g) es)) ≡ Tiles (integers_of (offsets_from 0 slots)) (heap_of slots)
  tiled slice e =
      let f = follows g es in
      let w = wiped_run (making_of g) empty_book 0 es in
      λ t. Tiles (numbers_are g slots w (state_after (made_state g) es) f slice e t) (heap_is g slots w (state_after (made_state g) es) f t)

  bounded : Bounds (state_after (made_state g) es)
  bounded = let f = follows g es in record { entries = omega (arith, f.capacity, f.free, f.free_left, f.rows); bits = omega (arith, f.capacity, f.bits_left) }

pub histories_follow : HistoriesFollow
histories_follow = record {
  same_answers = λ g es. answers_follow g empty_book 0 (made_state g) es (fresh g);
  shows = λ g es n. shown g (book_run (making_of g) empty_book (take n es)).slots (wiped_run (making_of g) empty_book 0 (take n es)) (state_after (made_state g) (take n es)) (follows g (take n es));
  other_memory = other_memory;
  own_memory = λ g es n. own_figures g (book_run (making_of g) empty_book (take n es)).slots (wiped_run (making_of g) empty_book 0 (take n es)) (state_after (made_state g) (take n es)) (follows g (take n es));
  added = added_slots_lem;
  same_column = same_column;
  same_slots = same_slots;
  selections = selections_agree;
  last_selections = λ g h es fs rows s t ns x y a.
      let m = state_after (made_state g) es in
      let n = state_after (made_state h) fs in
      let p = owned g (slots g es) (wiped_run (making_of g) empty_book 0 es) m (follows g es) in
      let q = owned h (slots h fs) (wiped_run (making_of h) empty_book 0 fs) n (follows h fs) in
      (same_answers m n rows s t ns x y p q a (bounded g es) (bounded h fs), alike_after m n rows s t ns x y p q a (bounded g es) (bounded h fs));
  record_is = λ g es. finished g (slots g es) (wiped_run (making_of g) empty_book 0 es) (state_after (made_state g) es) (follows g es);
  tiles_each = λ g es slice e t. tiles_each [] (slots g es) (subst (λ x. x) (tiled g es slice e) t);
  each_tiles = λ g es slice e t. subst (λ x. x) (sym (tiled g es slice e)) (each_tiles [] (slots g es) t);
  opens = λ g es slice mask h. opens g (slots g es) (wiped_run (making_of g) empty_book 0 es) (state_after (made_state g) es) (follows g es) slice mask h;
  opened_rows = λ g es slice mask h. opened_rows g (slots g es) (wiped_run (making_of g) empty_book 0 es) (state_after (made_state g) es) (follows g es) slice mask h;
  opens_as_text = λ g es slice mask h. opens_text g (slots g es) (wiped_run (making_of g) empty_book 0 es) (state_after (made_state g) es) (follows g es) slice mask h;
  text_reader = reader_decides;
}
