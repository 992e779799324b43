use Rattle.std.proofs.Common.{◌≡◌, length}
use Rattle.plane.specs.Points.{place_of}
use Rattle.rounds.specs.Near.{found_of}
use Rattle.rounds.proofs.Sounds.{Looked}
use Rattle.rounds.proofs.choices.look_all.Given as goal

-- what is found up to here leaves the rest
abbrev pub invariant-loop-i : goal.invariant-loop-i
invariant-loop-i l =
    Looked (place_of l.points) l.held (length l.degrees) l.i (found_of l.marks l.tally)
    × (length l.found ≡ 8194) × (length l.links ≡ 8194)
