use Rattle.rules.proofs.EitherWay.{clashes_either_way}
use Rattle.rules.proofs.clashes_either_way_stand.Goals as goal

pub returns : goal.returns
returns c = clashes_either_way
