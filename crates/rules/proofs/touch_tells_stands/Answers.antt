use Rattle.rules.proofs.EitherWay.{touch_tells}
use Rattle.rules.proofs.touch_tells_stands.Goals as goal

pub returns : goal.returns
returns c = touch_tells
