use Rattle.rules.proofs.Apart.{checked_lies_apart}
use Rattle.rules.proofs.checked_lies_apart.Goals as goal

pub returns : goal.returns
returns c = checked_lies_apart
