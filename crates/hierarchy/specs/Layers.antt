-- The nodes of a sheet as cutting and rounds make them, layer upon layer.
use Rattle.std.specs.Prelude.{◌≡◌, ℕ, ◌+◌, List, [], ◌++◌, length, replicate, slice_index_or, Some, None, Option, Ok}
use Rattle.std.specs.List.{range_with_len}
use Rattle.plane.specs.Points.{place_of}
use Rattle.tiling.specs.Order.{loop_of}
use Rattle.tiling.specs.Triangles.{Triangle, triangle}
use Rattle.ears.specs.Ears.{cut_of}
use Rattle.nodes.specs.declared.node.Node.{Node}
use Rattle.nodes.specs.Nodes.{blank}
use Rattle.sheet.specs.Sheets.{Sheet, points_of}
use Rattle.rules.specs.Planes.{plane_of}
use Rattle.bottom.specs.Bottom.{bottom_of}
use Rattle.rounds.specs.Choices.{Found, closings, look_all, rounded_live, rounded_nodes}

-- Nodes, the numbers of those that are live, for each node the round in which it was made, and how many rounds there were.
-- The bottom is made before the first round, and all of it is live. A round takes out the vertices that it chose.
pub data Layers (s : Sheet) : List Node → List ℕ → List ℕ → ℕ → Type 0 where
  bottom : (ns : List Node) → bottom_of s ≡ Ok ns → Layers s ns (range_with_len 0 (length ns)) (replicate (length ns) 0) 0
  round : (nodes : List Node) (live made : List ℕ) (r : ℕ) → Layers s nodes live made r
      → (f : Found) → look_all (place_of (points_of s)) nodes live (length s.inner) ≡ Ok f
      → Layers s (rounded_nodes (place_of (points_of s)) nodes live (length s.inner) f.marks) (rounded_live (place_of (points_of s)) nodes live f)
      (made ++ replicate (length (closings (place_of (points_of s)) nodes live f.marks (length s.inner) 4)) (r + 1)) (r + 1)

-- node k, and its triangle
abbrev pub node_at : List Node → ℕ → Node
node_at nodes k = slice_index_or nodes k blank

abbrev pub shape : Node → Triangle
shape n = triangle n.a n.b n.c

abbrev pub triangle_of : List Node → ℕ → Triangle
triangle_of nodes k = shape (node_at nodes k)

-- child i of a node
abbrev pub child : Node → ℕ → ℕ
child n i = slice_index_or n.children i 0

-- the triangles of a loop that is cut; there are none where it cannot be
abbrev pub or_none : Option (List Triangle) → List Triangle
or_none (Some ts) = ts
or_none None = []

abbrev pub triangles_of_loop : Sheet → ℕ → List Triangle
triangles_of_loop s l = or_none (cut_of (place_of (points_of s)) (loop_of (plane_of s) l))
