use Rattle.std.proofs.Common.{◌∙◌, arith}
use Rattle.std.proofs.lemmas.List.{length-set}
use Rattle.placing.proofs.Listing.{list_step}
use Rattle.placing.proofs.answer_tips.Goals as goal

pub loop-i-preserved : goal.loop-i-preserved
loop-i-preserved g c = (
  list_step _ _ _ _ g.K.Kernel.means _ _ _ _ _ _ c.index-tips-i.is c.loop-i-test.true (omega (arith, c.loop-i-test.true, c.requires))
      c.loop-i.invariant.0 c.place_tip.ensures,
  length-set _ _ _ ∙ c.loop-i.invariant.1,
)
