use Rattle.hierarchy.proofs.Examples.{layer_examples}
use Rattle.hierarchy.proofs.layer_examples_stand.Goals as goal

pub returns : goal.returns
returns c = layer_examples
