use Rattle.std.proofs.Common.{arith}
use Rattle.std.proofs.lemmas.Result.{err_from_is_err_and}
use Rattle.fans.proofs.Tallies.{counted_all, counted_more, counted_none, counted_refused}
use Rattle.fans.proofs.counts.tally_all.Goals as goal

pub loop-k-init : goal.loop-k-init
loop-k-init g c = counted_none _ _ _ c.requires

pub loop-k-preserved : goal.loop-k-preserved
loop-k-preserved g c = counted_more _ _ _ _ c.loop-k.invariant _ _ c.loop-k-test.true c.in_ok-read_corners.ensures (omega arith) c.tally.ensures

pub returns-in_err-read_corners-clause-said : goal.returns-in_err-read_corners-clause-said
returns-in_err-read_corners-clause-said g c =
    let p = err_from_is_err_and c.from_residual.result c.from_residual.ensures.1 in
    rw (p.1, p.2) (counted_refused _ _ _ _ c.loop-k.invariant _ c.loop-k-test.true c.in_err-read_corners.ensures)

pub returns-clause-said : goal.returns-clause-said
returns-clause-said g c = counted_all _ _ _ _ c.loop-k.invariant c.loop-k-test.false
