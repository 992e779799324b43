use Rattle.plane.specs.Points.{place_of}
use Rattle.ears.proofs.Steps.{Sofar}
use Rattle.ears.proofs.cutting.cut_all.Given as goal

-- what is made so far, with the cut of the corners that are left, is the cut of all
abbrev pub invariant-loop-made : goal.invariant-loop-made
invariant-loop-made l = Sofar (place_of l.points) l.fn.ring l.ring l.fn.triangles l.triangles l.made
