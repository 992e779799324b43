use Rattle.std.proofs.Common.{◌≡◌, ◌-◌, ◌++◌, length}
use Rattle.plane.specs.Points.{place_of}
use Rattle.rounds.specs.Near.{closings_near}
use Rattle.rounds.proofs.closing.close_all.Given as goal

-- the holes up to here are closed
abbrev pub invariant-loop-vertex : goal.invariant-loop-vertex
invariant-loop-vertex g l =
    (g.S.ReadStore.nodes l.initial.store ++ closings_near (place_of l.points) l.held l.marks (length l.marks - 4) 4
    ≡ g.S.ReadStore.nodes l.store ++ closings_near (place_of l.points) l.held l.marks (length l.marks - l.vertex) l.vertex)
    × (g.S.WriteStore.room l.store ≡ g.S.WriteStore.room l.initial.store)
    × (length l.found ≡ 8194) × (length l.links ≡ 8194)
