use Rattle.std.proofs.Common.{ap, ◌∙◌}
use Rattle.bottom.specs.Cuts.{answered, cut_live, cut_nodes}
use Rattle.bottom.proofs.Held.{ready}
use Rattle.bottom.proofs.cutting.cut_held.Goals as goal

pub cut_fronts-requires-clause-few_inner : goal.cut_fronts-requires-clause-few_inner
cut_fronts-requires-clause-few_inner g c =
    (ready _ _ _ _ _ _ _ _ _ _ _ c.front-fronts.ensures c.from.ensures c.front-listed.ensures c.from-2.ensures c.front-loops.ensures c.from-3.ensures c.requires.room c.requires.held).inner

pub cut_fronts-requires-clause-short : goal.cut_fronts-requires-clause-short
cut_fronts-requires-clause-short g c =
    (ready _ _ _ _ _ _ _ _ _ _ _ c.front-fronts.ensures c.from.ensures c.front-listed.ensures c.from-2.ensures c.front-loops.ensures c.from-3.ensures c.requires.room c.requires.held).short

pub cut_fronts-requires-clause-rows : goal.cut_fronts-requires-clause-rows
cut_fronts-requires-clause-rows g c =
    (ready _ _ _ _ _ _ _ _ _ _ _ c.front-fronts.ensures c.from.ensures c.front-listed.ensures c.from-2.ensures c.front-loops.ensures c.from-3.ensures c.requires.room c.requires.held).rows

pub returns-clause-said : goal.returns-clause-said
returns-clause-said g c =
    c.cut_fronts.ensures.said
    ∙ ap answered
    ((ready _ _ _ _ _ _ _ _ _ _ _ c.front-fronts.ensures c.from.ensures c.front-listed.ensures c.from-2.ensures c.front-loops.ensures c.from-3.ensures c.requires.room c.requires.held).cut _)

pub returns-clause-nodes : goal.returns-clause-nodes
returns-clause-nodes g c =
    c.cut_fronts.ensures.nodes
    ∙ ap (λ said. cut_nodes said (g.S.ReadStore.nodes c.args.store.now))
    ((ready _ _ _ _ _ _ _ _ _ _ _ c.front-fronts.ensures c.from.ensures c.front-listed.ensures c.from-2.ensures c.front-loops.ensures c.from-3.ensures c.requires.room c.requires.held).cut _)

pub returns-clause-live : goal.returns-clause-live
returns-clause-live g c =
    c.cut_fronts.ensures.live
    ∙ ap (λ said. cut_live said c.args.live.now)
    ((ready _ _ _ _ _ _ _ _ _ _ _ c.front-fronts.ensures c.from.ensures c.front-listed.ensures c.from-2.ensures c.front-loops.ensures c.from-3.ensures c.requires.room c.requires.held).cut _)

pub cut_fronts-requires-clause-within : goal.cut_fronts-requires-clause-within
cut_fronts-requires-clause-within g c =
    (ready _ _ _ _ _ _ _ _ _ _ _ c.front-fronts.ensures c.from.ensures c.front-listed.ensures c.from-2.ensures c.front-loops.ensures c.from-3.ensures c.requires.room c.requires.held).within
