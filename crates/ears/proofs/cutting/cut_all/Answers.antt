use Rattle.std.proofs.Common.{arith}
use Rattle.ears.proofs.Steps.{next, start}
use Rattle.ears.proofs.cutting.cut_all.Goals as goal

pub loop-made-init : goal.loop-made-init
loop-made-init c = start _ c.args.ring.now c.args.triangles.now

pub loop-made-preserved : goal.loop-made-preserved
loop-made-preserved c =
    next _ _ _ _ _ _ c.loop-made.invariant c.loop-made.auto.ring _ _ c.loop-made-test.true (omega arith) c.cut_ear.auto.ring c.in_ok-triangles.ensures
