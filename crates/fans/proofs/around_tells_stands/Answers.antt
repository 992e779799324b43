use Rattle.fans.proofs.Tallies.{around_tells}
use Rattle.fans.proofs.around_tells_stands.Goals as goal

pub returns : goal.returns
returns c = around_tells
