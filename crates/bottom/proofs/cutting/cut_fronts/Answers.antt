use Rattle.std.proofs.Common.{rules, sym, ◌∙◌, arith}
use Rattle.bottom.proofs.Fronts.{live_told, said_told, sum_kept}
use Rattle.bottom.proofs.cutting.cut_fronts.Goals as goal

pub fill-requires-clause-room : goal.fill-requires-clause-room
fill-requires-clause-room g c =
    let sum = sum_kept c.args.inner c.args.loops.now (search rules) in
    omega (arith, c.requires.rows, sum, c.if-capacity-from.false, c.from.ensures, c.capacity.ensures)

pub returns-clause-said : goal.returns-clause-said
returns-clause-said g c =
    said_told _ c.args.inner _ _ _ _ (sum_kept c.args.inner c.args.loops.now (search rules))
    (omega (arith, c.if-capacity-from.false, c.from.ensures, c.capacity.ensures)) c.requires.rows
    (sym c.in_ok-fill.was ∙ c.fill.ensures.said)

pub returns-clause-live : goal.returns-clause-live
returns-clause-live g c =
    c.number.ensures
    ∙ live_told _ c.args.inner _ _ _ _ (sum_kept c.args.inner c.args.loops.now (search rules))
    (omega (arith, c.if-capacity-from.false, c.from.ensures, c.capacity.ensures)) c.requires.rows
    (sym c.in_ok-fill.was ∙ c.fill.ensures.said) _
