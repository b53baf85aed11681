-- The worked examples, by computing.
use Rattle.std.proofs.Common.{refl}
use Rattle.builder.specs.States.{add_slots}
use Rattle.builder.specs.Calls.{null_count}
use Rattle.compute.specs.Indices.{take_indices, gather_indices, filter_indices}
use Rattle.compute.specs.Selections.{first_outside}
use Rattle.ptype.specs.Searches.{first_not_below, total}
use Rattle.slots.specs.Slots.{byte_count}
use Rattle.samples.specs.Selecting.{SelectionExamples}

pub selection_examples : SelectionExamples
unfolding add_slots null_count take_indices gather_indices filter_indices first_outside first_not_below total byte_count
selection_examples = record {
  take_1_null_2 = refl;
  take_1_null_2_offsets = refl;
  take_1_null_2_bits = refl;
  take_negative = refl;
  take_null_99 = refl;
  take_null_99_offsets = refl;
  take_null_99_bits = refl;
  run_0_of_3 = refl;
  run_0_of_3_offsets = refl;
  run_99_of_0 = refl;
  run_99_of_0_offsets = refl;
  run_1_of_3 = refl;
  filter_1_0_1 = refl;
  filter_1_0_1_offsets = refl;
  same_by_run = refl;
  same_by_mask = refl;
  expands_to = refl;
}
