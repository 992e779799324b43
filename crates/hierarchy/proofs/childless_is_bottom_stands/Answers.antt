use Rattle.hierarchy.proofs.Theorems.{childless_is_bottom}
use Rattle.hierarchy.proofs.childless_is_bottom_stands.Goals as goal

pub returns : goal.returns
returns c = childless_is_bottom
