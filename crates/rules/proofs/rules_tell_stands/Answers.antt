use Rattle.rules.proofs.Sound.{rules_tell}
use Rattle.rules.proofs.rules_tell_stands.Goals as goal

pub returns : goal.returns
returns c = rules_tell
