use Rattle.std.proofs.Common.{refl, sym, ◌∙◌}
use Rattle.rounds.proofs.Kept.{kept_put}
use Rattle.rounds.proofs.live.keep.Goals as goal

pub loop-item-preserved : goal.loop-item-preserved
loop-item-preserved c =
    let goes = sym c.goes.ensures ∙ c.if-goes.false in
    (kept_put _ _ _ _ _ _ _ _ c.loop-item-test.true goes refl c.loop-item.invariant.0 c.append.ensures.kept, c.append.ensures.lent ∙ c.loop-item.invariant.1)
