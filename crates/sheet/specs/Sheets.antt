-- A sheet as its file describes it, and what the caller's tables hold of it.
use Rattle.std.specs.Prelude.{ℕ, ◌+◌, List, [], ◌∷◌, ◌++◌, length}
use Rattle.std.specs.List.{flat_map}
use Rattle.plane.specs.declared.Point.{Point}
use Rattle.plane.specs.declared.Edge.{Edge}
use Rattle.plane.specs.Edges.{outside, ring_edges}
use Rattle.sheet.specs.declared.tables.Loop.{Loop}
use Rattle.sheet.specs.declared.tables.Size.{Size}

-- a loop: its numeral, and its corners in order
pub record Ring : Type 0 where
  pub numeral : ℕ
  pub corners : List ℕ

-- vertices 0 to 3 are the corners of the sheet, and the inner ones follow
pub record Sheet : Type 0 where
  pub width : ℕ
  pub height : ℕ
  pub inner : List Point
  pub rings : List Ring

abbrev pub point : ℕ → ℕ → Point
point x y = record { x = x; y = y }

-- the four corners of a sheet of that size
abbrev pub corners : ℕ → ℕ → List Point
corners w h = point 0 0 ∷ point w 0 ∷ point w h ∷ point 0 h ∷ []

abbrev pub points_of : Sheet → List Point
points_of s = corners s.width s.height ++ s.inner

abbrev pub edges_of : Sheet → List Edge
edges_of s = flat_map (λ r. ring_edges r.corners) s.rings ++ outside

-- how many corners the loops have together
abbrev pub corners_in : List Ring → ℕ
corners_in [] = 0
corners_in (r ∷ rs) = length r.corners + corners_in rs

-- what the table says of a loop: its numeral, the position of its first edge, and how many corners it has
abbrev pub loop_at : ℕ → ℕ → ℕ → Loop
loop_at numeral start corners = record { numeral = numeral; start = start; corners = corners }

abbrev pub entry : ℕ → Ring → Loop
entry start r = loop_at r.numeral start (length r.corners)

-- loops one behind another, the first edge at a position
abbrev pub loops_from : ℕ → List Ring → List Loop
loops_from start [] = []
loops_from start (r ∷ rs) = entry start r ∷ loops_from (start + length r.corners) rs

abbrev pub loops_of : Sheet → List Loop
loops_of s = loops_from 0 s.rings

abbrev pub sizes : ℕ → ℕ → ℕ → ℕ → ℕ → Size
sizes width height inner loops corners = record { width = width; height = height; inner = inner; loops = loops; corners = corners }

abbrev pub size_of : Sheet → Size
size_of s = sizes s.width s.height (length s.inner) (length s.rings) (corners_in s.rings)
