-- The examples of opening, by computing.
use Rattle.std.proofs.Common.{refl}
use Rattle.ptype.specs.Searches.{first_fall}
use Rattle.utf8.specs.Reading.{read_all}
use Rattle.array.specs.Samples.{OpeningExamples}

pub opening_examples : OpeningExamples
unfolding first_fall read_all
opening_examples = record { k_layout = refl; k_text = refl; k_rows = refl; empty_as_text = refl; empty_as_bytes = refl }
