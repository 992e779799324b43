use Rattle.std.proofs.Common.{arith, ◌∙◌}
use Rattle.std.proofs.lemmas.List.{length-set}
use Rattle.rounds.proofs.Nears.{gathered_more}
use Rattle.rounds.proofs.held.gather.Goals as goal

pub loop-item-preserved : goal.loop-item-preserved
loop-item-preserved c =
    let i = c.loop-item.invariant in
    let room = c.requires in
    let long = i.2 in
    (gathered_more _ _ _ _ _ _ i.0 c.loop-item-test.true _ c.in-Some.ensures (omega arith), omega arith, length-set _ _ _ ∙ i.2)
