-- The worked examples, by computing.
use Rattle.std.proofs.Common.{refl}
use Rattle.ptype.specs.Searches.{first_fall}
use Rattle.slots.specs.Slots.{byte_count}
use Rattle.builder.specs.Bulk.{cut_slots, last_end}
use Rattle.builder.specs.Samples.{ValuesExamples, TopExamples}
use Rattle.builder.specs.States.{add_slots}
use Rattle.builder.specs.Calls.{null_count}

pub values_examples : ValuesExamples
unfolding first_fall byte_count cut_slots last_end add_slots null_count
values_examples = record { ends_1_3 = refl; ends_1_3_offsets = refl; ends_2_1 = refl; ends_1_2 = refl }

pub top_examples : TopExamples
unfolding byte_count add_slots null_count
top_examples = record { takes_127 = refl; one_more = refl }
