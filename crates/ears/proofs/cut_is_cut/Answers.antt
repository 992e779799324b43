use Rattle.ears.proofs.Rotations.{cut_is_cut}
use Rattle.ears.proofs.cut_is_cut.Goals as goal

pub returns : goal.returns
returns c = cut_is_cut
