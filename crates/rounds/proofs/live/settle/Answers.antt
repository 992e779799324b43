use Rattle.std.proofs.Common.{refl, rules}
use Rattle.rounds.proofs.Kept.{settled_count, settled_live}
use Rattle.rounds.proofs.live.settle.Goals as goal

pub returns-clause-count : goal.returns-clause-count
returns-clause-count c =
    settled_count _ _ _ _ _ _ _ _ _ c.over-list.ensures.kept c.keep.ensures.kept c.append_range.ensures.kept refl refl c.requires.room _ c.count.ensures

pub returns-clause-live : goal.returns-clause-live
returns-clause-live c =
    settled_live _ _ _ _ _ _ _ _ _ c.over-list.ensures.kept c.keep.ensures.kept c.append_range.ensures.kept refl refl c.requires.room _ c.count.ensures _ (search rules)
