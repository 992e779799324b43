use Rattle.rules.proofs.Held.{tables_tell}
use Rattle.rules.proofs.tables_tell_stands.Goals as goal

pub returns : goal.returns
returns c = tables_tell
