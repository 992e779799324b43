-- How often the edges of a loop pass a point on its right, counted up and down.
use Rattle.std.specs.Prelude.{ℕ, cond, ◌&&◌, List, ℤ, pos, negsuc, ◌*ℤ◌, int_le, int_lt}
use Rattle.plane.specs.declared.Edge.{Edge}
use Rattle.plane.specs.Edges.{ring_edges, sum_of}
use Rattle.plane.specs.Points.{GridPoint, Spot, det}

-- an edge from one height to another, at a height y, with the determinant d:
-- 1 where it goes up from at most y to above y with d above 0, -1 where it goes down from above y to at most y with d below 0
abbrev pub passing : ℤ → ℤ → ℤ → ℤ → ℤ
passing from to y d =
    cond (int_le from y && (int_lt y to && int_lt (pos 0) d)) (pos 1) (cond (int_le to y && (int_lt y from && int_lt d (pos 0))) (negsuc 0) (pos 0))

-- the crossing number of the edge from a to b about p; heights are taken Z times
unfoldable pub crossing : GridPoint → GridPoint → Spot → ℤ
crossing a b p = passing (a.y *ℤ p.Z) (b.y *ℤ p.Z) p.Y (det a b p)

-- the same of an edge between vertices
abbrev pub edge_crossing : (ℕ → GridPoint) → Spot → Edge → ℤ
edge_crossing at p e = crossing (at e.from) (at e.to) p

-- the crossing sum of a loop about p
abbrev pub crossing_sum : (ℕ → GridPoint) → List ℕ → Spot → ℤ
crossing_sum at cs p = sum_of (edge_crossing at p) (ring_edges cs)
