use Rattle.std.proofs.Common.{◌≡◌, ◌-◌, find, length}
use Rattle.std.specs.List.{range_with_len}
use Rattle.plane.specs.Points.{place_of}
use Rattle.ears.specs.Ears.{first_ear, is_ear}
use Rattle.ears.proofs.ears.first_ear.Given as goal

-- the first ear is the first from here on
abbrev pub invariant-loop-i : goal.invariant-loop-i
invariant-loop-i l = first_ear (place_of l.points) l.ring ≡ find (is_ear (place_of l.points) l.ring) (range_with_len l.i (length l.ring - l.i))
