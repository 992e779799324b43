use Rattle.rules.proofs.Orders.{checked_is_in_order}
use Rattle.rules.proofs.checked_is_in_order.Goals as goal

pub returns : goal.returns
returns c = checked_is_in_order
