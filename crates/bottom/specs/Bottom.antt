-- The bottom nodes of a sheet: its loops, cut into triangles.
use Rattle.std.specs.Prelude.{ℕ, ◌+◌, Bool, cond, List, [], ◌∷◌, ◌++◌, map, replicate, Some, None, Option, Ok, Err, Result}
use Rattle.plane.specs.declared.Edge.{Edge}
use Rattle.plane.specs.Points.{GridPoint, place_of}
use Rattle.tiling.specs.Cells.{joins, some_of}
use Rattle.tiling.specs.Triangles.{Triangle}
use Rattle.ears.specs.Ears.{cut_of}
use Rattle.nodes.specs.declared.node.Node.{Node}
use Rattle.sheet.specs.Sheets.{Ring, Sheet, edges_of, points_of}

-- there is an edge between u and v, in one direction or the other
abbrev pub is_drawn : List Edge → ℕ → ℕ → Bool
is_drawn es u v = some_of (joins u v) es

abbrev pub mark : Bool → ℕ → ℕ
mark b n = cond b n 0

-- which sides of a triangle are edges of the sheet: 1 for ab, 2 for bc, 4 for ca
abbrev pub sides_number : List Edge → Triangle → ℕ
sides_number es t = mark (is_drawn es t.a t.b) 1 + (mark (is_drawn es t.b t.c) 2 + mark (is_drawn es t.c t.a) 4)

-- a node without children
abbrev pub bottom_node : List Edge → ℕ → Triangle → Node
bottom_node es l t =
    record { a = t.a; b = t.b; c = t.c; ring = l; sides = sides_number es t; count = 0; children = replicate 8 0 }

-- the nodes of a loop and then those of the others; or the first loop that is stuck
abbrev pub cut_next : ℕ → (List Triangle → List Node) → Option (List Triangle) → Result (List Node) ℕ → Result (List Node) ℕ
cut_next l nodes None others = Err l
cut_next l nodes (Some ts) (Ok ns) = Ok (nodes ts ++ ns)
cut_next l nodes (Some ts) (Err k) = Err k

-- the loops from l on, each cut into triangles
unfoldable pub cut_loops : (ℕ → GridPoint) → List Edge → ℕ → List Ring → Result (List Node) ℕ
cut_loops at es l [] = Ok []
cut_loops at es l (r ∷ rs) = cut_next l (map (bottom_node es l)) (cut_of at r.corners) (cut_loops at es (l + 1) rs)

-- the bottom nodes of a sheet, loop after loop; or the first loop that is stuck
unfoldable pub bottom_of : Sheet → Result (List Node) ℕ
bottom_of s = cut_loops (place_of (points_of s)) (edges_of s) 0 s.rings
