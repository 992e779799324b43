use Rattle.std.proofs.Common.{◌≡◌, drop, map}
use Rattle.bottom.specs.Bottom.{bottom_node}
use Rattle.bottom.specs.Cuts.{adds}
use Rattle.ears.specs.Cutting.{triangle_of}
use Rattle.bottom.proofs.loops.add_all.Given as goal

-- what the triangles up to here leave to those that follow
abbrev pub invariant-loop-triangle : goal.invariant-loop-triangle
invariant-loop-triangle g l =
    (adds (g.S.ReadStore.nodes l.initial.store) (g.S.WriteStore.room l.initial.store) (map (bottom_node l.listed l.ring) (map triangle_of l.triangles))
    ≡ adds (g.S.ReadStore.nodes l.store) (g.S.WriteStore.room l.store) (map (bottom_node l.listed l.ring) (map triangle_of (drop l.triangle-index l.triangles))))
    × (g.S.WriteStore.room l.store ≡ g.S.WriteStore.room l.initial.store)
