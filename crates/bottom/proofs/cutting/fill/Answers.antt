use Rattle.std.proofs.Common.{Err, ap, ◌∙◌, rules}
use Rattle.bottom.proofs.Filling.{fill_done, fill_stuck}
use Rattle.bottom.proofs.cutting.fill.Goals as goal

pub returns-in_default-clause-said : goal.returns-in_default-clause-said
returns-in_default-clause-said g c = (fill_done _ _ _ _ _ _ _ c.empty.ensures.nodes (rw c.empty.ensures.room c.requires.room) c.cut_loops.ensures.nodes (search rules)).0

pub returns-in_default-clause-nodes : goal.returns-in_default-clause-nodes
returns-in_default-clause-nodes g c = (fill_done _ _ _ _ _ _ _ c.empty.ensures.nodes (rw c.empty.ensures.room c.requires.room) c.cut_loops.ensures.nodes (search rules)).1

pub returns-clause-said : goal.returns-clause-said
returns-clause-said g c = ap Err c.new.ensures ∙ (fill_stuck _ _ _ _ _ _ _ c.empty.ensures.nodes (rw c.empty.ensures.room c.requires.room) c.cut_loops.ensures.nodes _ c.in-Some.is).0

pub returns-clause-nodes : goal.returns-clause-nodes
returns-clause-nodes g c = c.empty-2.ensures.nodes ∙ (fill_stuck _ _ _ _ _ _ _ c.empty.ensures.nodes (rw c.empty.ensures.room c.requires.room) c.cut_loops.ensures.nodes _ c.in-Some.is).1
