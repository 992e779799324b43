use Rattle.std.proofs.Common.{◌≡◌, drop, map}
use Rattle.bottom.specs.Cuts.{poured}
use Rattle.checking.specs.Held.{ring_at}
use Rattle.plane.specs.Points.{place_of}
use Rattle.bottom.proofs.loops.cut_loops.Given as goal

-- what the loops up to here leave to those that follow
abbrev pub invariant-loop-number : goal.invariant-loop-number
invariant-loop-number g l =
    (poured (place_of l.points) l.listed (g.S.WriteStore.room l.initial.store) 0 (map (ring_at l.edges) l.loops) (g.S.ReadStore.nodes l.initial.store)
    ≡ poured (place_of l.points) l.listed (g.S.WriteStore.room l.store) l.number (map (ring_at l.edges) (drop l.number l.loops)) (g.S.ReadStore.nodes l.store))
    × (g.S.WriteStore.room l.store ≡ g.S.WriteStore.room l.initial.store)
