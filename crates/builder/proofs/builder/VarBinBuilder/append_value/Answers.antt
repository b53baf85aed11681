-- The examples.
use Rattle.builder.proofs.Samples.{top_examples}
use Rattle.builder.proofs.builder.VarBinBuilder.append_value.Goals as goal

pub returns-clause-examples : goal.returns-clause-examples
returns-clause-examples g c = top_examples
