use Rattle.hierarchy.proofs.Theorems.{bottom_is_cut}
use Rattle.hierarchy.proofs.bottom_is_cut_stands.Goals as goal

pub returns : goal.returns
returns c = bottom_is_cut
