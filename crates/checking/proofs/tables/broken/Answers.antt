use Rattle.std.proofs.Common.{◌+◌, ap, take, ◌∙◌}
use Rattle.checking.proofs.Told.{fronts_tell}
use Rattle.checking.proofs.tables.broken.Goals as goal

pub returns : goal.returns
returns c =
    fronts_tell c.args.size c.args.points.now _ c.args.edges.now _ c.args.loops.now _ _ _
    (c.front-points.ensures ∙ ap (λ n. take (n + 4) c.args.points.now) c.from.ensures)
    (c.front-edges.ensures ∙ ap (λ n. take (n + 4) c.args.edges.now) c.from-2.ensures)
    (c.front-loops.ensures ∙ ap (λ n. take n c.args.loops.now) c.from-3.ensures)
    c.requires.room c.requires.held c.first_broken.ensures.rules
