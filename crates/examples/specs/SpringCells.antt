-- The worked examples of cells, computed from the definitions: where the points of the spring sheet lie, and which of all its cells hold them.
use Rattle.std.specs.Prelude.{◌≡◌, ℕ, false, List, [], ◌∷◌, map, filter, pos, negsuc, slice_index_or}
use Rattle.plane.specs.Crossings.{crossing_sum}
use Rattle.plane.specs.Points.{GridPoint, Spot, det, grid_point, is_on_sheet, side_of}
use Rattle.plane.specs.declared.Side.TheVariants.{Left, On, Right}
use Rattle.tiling.specs.Cells.{Cell, Subdivision, cell_holds, face, open_edge, vertex}
use Rattle.tiling.specs.Order.{grid}
use Rattle.examples.specs.Spring.{spring, spring_points}

abbrev pub spot : ℕ → ℕ → ℕ → Spot
spot x y z = record { X = pos x; Y = pos y; Z = pos z }

abbrev pub places : ℕ → GridPoint
places v = slice_index_or (map grid_point spring_points) v (grid (pos 0) (pos 0))

-- the spring sheet as a subdivision of the plane
abbrev pub spring_plane : Subdivision
spring_plane = record { width = pos 12; height = pos 10; vertices = 8; at = places; loops = map (λ r. r.corners) spring.rings }

-- its cells: eight vertices, twelve edges, five faces
abbrev pub spring_cells : List Cell
spring_cells =
    vertex 0 ∷ vertex 1 ∷ vertex 2 ∷ vertex 3 ∷ vertex 4 ∷ vertex 5 ∷ vertex 6 ∷ vertex 7
    ∷ open_edge 0 1 ∷ open_edge 1 2 ∷ open_edge 2 3 ∷ open_edge 0 3 ∷ open_edge 4 5 ∷ open_edge 5 6 ∷ open_edge 6 7 ∷ open_edge 4 7
    ∷ open_edge 0 4 ∷ open_edge 1 5 ∷ open_edge 2 6 ∷ open_edge 3 7
    ∷ face 0 ∷ face 1 ∷ face 2 ∷ face 3 ∷ face 4 ∷ []

-- those that hold a point
abbrev pub holders : Spot → List Cell
holders p = filter (λ c. cell_holds spring_plane c p) spring_cells

-- one cell holds each of these points, and none holds a point off the sheet
pub record Held : Type 0 where
  pub middle : holders (spot 6 5 1) ≡ face 0 ∷ []
  pub corner : holders (spot 9 7 1) ≡ vertex 6 ∷ []
  pub seam : holders (spot 1 1 1) ≡ open_edge 0 4 ∷ []
  pub rational : holders (spot 9 14 3) ≡ open_edge 4 7 ∷ []
  pub below : holders (spot 6 1 1) ≡ face 1 ∷ []
  pub border : holders (spot 5 0 1) ≡ open_edge 0 1 ∷ []
  pub off : holders (spot 13 5 1) ≡ []
  pub not_on : is_on_sheet (pos 12) (pos 10) (spot 13 5 1) ≡ false

-- the determinant of the line from vertex 4 to vertex 5, and the side that it tells
pub record Sided : Type 0 where
  pub above : det (places 4) (places 5) (spot 6 5 1) ≡ pos 12
  pub under : det (places 4) (places 5) (spot 6 1 1) ≡ negsuc 11
  pub on : det (places 4) (places 5) (spot 13 6 2) ≡ pos 0
  pub left : side_of (pos 12) ≡ Left
  pub right : side_of (negsuc 11) ≡ Right
  pub between : side_of (pos 0) ≡ On

-- how often the loop of the spring goes round a point
pub record Wound : Type 0 where
  pub inside : crossing_sum places (4 ∷ 5 ∷ 6 ∷ 7 ∷ []) (spot 6 5 1) ≡ pos 1
  pub outside : crossing_sum places (4 ∷ 5 ∷ 6 ∷ 7 ∷ []) (spot 1 5 1) ≡ pos 0
  pub turned : crossing_sum places (7 ∷ 6 ∷ 5 ∷ 4 ∷ []) (spot 6 5 1) ≡ negsuc 0

abbrev pub CellExamples : Type 0
CellExamples = Held × Sided × Wound
