use Rattle.std.proofs.Common.{◌∙◌}
use Rattle.lent.proofs.Puts.{puts_more}
use Rattle.sheet.proofs.body.append_all.Goals as goal

pub loop-item-preserved : goal.loop-item-preserved
loop-item-preserved g c =
    (puts_more _ _ _ _ _ _ c.loop-item-test.true c.item-item.is c.loop-item.invariant.0 c.append.ensures.kept, c.append.ensures.lent ∙ c.loop-item.invariant.1)
