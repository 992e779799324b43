use Rattle.std.proofs.Common.{◌≡◌, ◌++◌, map, take}
use Rattle.ears.specs.Cutting.{triangle_of}
use Rattle.rounds.specs.Near.{node_over}
use Rattle.rounds.proofs.holes.add_all.Given as goal

-- the nodes of the triangles up to here are added
abbrev pub invariant-loop-triangle : goal.invariant-loop-triangle
invariant-loop-triangle g l =
    (g.S.ReadStore.nodes l.store ≡ g.S.ReadStore.nodes l.initial.store ++ map (node_over l.size l.children) (map triangle_of (take l.triangle-index l.triangles)))
    × (g.S.WriteStore.room l.store ≡ g.S.WriteStore.room l.initial.store)
