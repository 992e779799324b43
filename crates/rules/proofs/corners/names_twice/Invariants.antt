use Rattle.std.proofs.Common.{◌≡◌, eqb, is_some, map}
use Rattle.plane.specs.declared.Edge.{Edge}
use Rattle.clash.specs.Clashes.{first_clash_in}
use Rattle.rules.proofs.Twice.{left_twice}
use Rattle.rules.proofs.corners.names_twice.Given as goal

-- what the corners up to here leave to those that follow
abbrev pub invariant-loop-later : goal.invariant-loop-later
invariant-loop-later l = is_some (first_clash_in eqb (map (λ (e : Edge). e.from) l.edges)) ≡ left_twice l.edges l.later
