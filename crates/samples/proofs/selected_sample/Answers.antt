-- K itself, and the examples.
use Rattle.samples.proofs.Computed.{selection_examples}
use Rattle.samples.proofs.selected_sample.Goals as goal

pub returns : goal.returns
returns c = record { value = c.sample_k.ensures.value; examples = selection_examples }
