use Rattle.checking.proofs.Unaltered.{one_held}
use Rattle.checking.proofs.Whole.{none_wrong}
use Rattle.checking.proofs.held_is_read.Goals as goal

pub returns : goal.returns
returns c = (none_wrong, one_held)
