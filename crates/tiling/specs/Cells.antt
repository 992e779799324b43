-- A planar straight-line subdivision of a sheet, its cells, and when a cell holds a point.
use Rattle.std.specs.Prelude.{ℕ, Bool, false, not, ◌&&◌, ◌||◌, List, [], ◌∷◌, ◌++◌, ℤ, pos, ◌==◌, nat_lt, slice_index_or}
use Rattle.std.specs.List.{flat_map}
use Rattle.plane.specs.declared.Edge.{Edge}
use Rattle.plane.specs.Crossings.{crossing_sum}
use Rattle.plane.specs.Edges.{outside, ring_edges}
use Rattle.plane.specs.Points.{GridPoint, Spot, between, int_same, is_at, on_segment}

-- a sheet from (0, 0) to (width, height): how many vertices it has, where each is, and the corners of each loop
pub record Subdivision : Type 0 where
  pub width : ℤ
  pub height : ℤ
  pub vertices : ℕ
  pub at : ℕ → GridPoint
  pub loops : List (List ℕ)

-- the edges of all loops, and then the border
abbrev pub listed : Subdivision → List Edge
listed s = flat_map ring_edges s.loops ++ outside

abbrev pub some_of : {X : Type 0} → (X → Bool) → List X → Bool
some_of test [] = false
some_of test (x ∷ l) = test x || some_of test l

-- there is an edge between u and v, in one direction or the other
abbrev pub joins : ℕ → ℕ → Edge → Bool
joins u v e = (e.from == u && e.to == v) || (e.from == v && e.to == u)

abbrev pub drawn : Subdivision → ℕ → ℕ → Bool
drawn s u v = some_of (joins u v) (listed s)

-- p is on some edge, its ends included
abbrev pub on_some_edge : Subdivision → Spot → Bool
on_some_edge s p = some_of (λ e. on_segment (s.at e.from) (s.at e.to) p) (listed s)

-- a vertex, an edge without its ends, named by its lower vertex first, or the face of a loop
pub data Cell : Type 0 where
  vertex : ℕ → Cell
  open_edge : ℕ → ℕ → Cell
  face : ℕ → Cell

abbrev pub vertex_holds : Subdivision → ℕ → Spot → Bool
vertex_holds s v p = nat_lt v s.vertices && is_at (s.at v) p

abbrev pub edge_holds : Subdivision → ℕ → ℕ → Spot → Bool
edge_holds s u v p = (nat_lt u v && drawn s u v) && between (s.at u) (s.at v) p

-- the face of a loop: the points on no edge about which the loop's crossing sum is 1
abbrev pub face_holds : Subdivision → ℕ → Spot → Bool
face_holds s l p = int_same (crossing_sum s.at (slice_index_or s.loops l []) p) (pos 1) && not (on_some_edge s p)

abbrev pub cell_holds : Subdivision → Cell → Spot → Bool
cell_holds s (vertex v) p = vertex_holds s v p
cell_holds s (open_edge u v) p = edge_holds s u v p
cell_holds s (face l) p = face_holds s l p
