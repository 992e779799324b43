use Rattle.std.proofs.Common.{ap, ◌∙◌, arith, rules}
use Rattle.checking.specs.Entries.{next_start}
use Rattle.checking.proofs.Links.{link_goes}
use Rattle.checking.proofs.entries.wrong_link.Goals as goal

pub loop-i-preserved : goal.loop-i-preserved
loop-i-preserved c =
    c.loop-i.invariant
    ∙ link_goes _ _ _ c.args.edges.now c.loop-i.i _ (omega arith) (c.next_start-next.ensures ∙ ap (next_start _) c.behind.ensures) (search rules)
