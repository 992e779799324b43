use Rattle.std.proofs.Common.{◌≡◌, ◌≤◌, ◌*◌, drop, unsigned_abs, ◌+ℤ◌}
use Rattle.plane.specs.Edges.{sum_of}
use Rattle.plane.specs.Points.{place_of}
use Rattle.rules.specs.Rules.{swept}
use Rattle.rules.proofs.turns.signed_area.Given as goal

-- the area so far, with what the edges from here on sweep, is that of all of them
abbrev pub invariant-loop-edge : goal.invariant-loop-edge
invariant-loop-edge l =
    (l.area +ℤ sum_of (swept (place_of l.points)) (drop l.edge-index l.edges) ≡ sum_of (swept (place_of l.points)) l.edges)
    × (unsigned_abs l.area ≤ 4294967296 * l.edge-index)
