use Rattle.placing.proofs.Tells.{place_tells}
use Rattle.placing.proofs.place_tells_stands.Goals as goal

pub returns : goal.returns
returns c = place_tells
