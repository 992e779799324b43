use Rattle.hierarchy.proofs.Turns.{turns_make_layers}
use Rattle.hierarchy.proofs.turns_make_layers_stands.Goals as goal

pub returns : goal.returns
returns c = turns_make_layers
