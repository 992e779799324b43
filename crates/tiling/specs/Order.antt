-- What is asked of a subdivision and of its triangles.
use Rattle.std.specs.Prelude.{◌≡◌, ℕ, ◌<◌, ◌≤◌, List, [], length, ℤ, pos, ◌<ℤ◌, slice_index_or}
use Rattle.plane.specs.declared.Edge.{Edge}
use Rattle.plane.specs.Edges.{In, Once, back}
use Rattle.plane.specs.Points.{GridPoint}
use Rattle.tiling.specs.Cells.{Subdivision, listed}
use Rattle.tiling.specs.Cuts.{Cut}
use Rattle.tiling.specs.Triangles.{AllLeftward, Triangle}

abbrev pub grid : ℤ → ℤ → GridPoint
grid x y = record { x = x; y = y }

-- strictly inside the sheet
pub record Inner (width height : ℤ) (a : GridPoint) : Type 0 where
  pub left : pos 0 <ℤ a.x
  pub right : a.x <ℤ width
  pub below : pos 0 <ℤ a.y
  pub above : a.y <ℤ height

pub record InOrder (s : Subdivision) : Type 0 where
  pub wide : pos 0 <ℤ s.width
  pub high : pos 0 <ℤ s.height
  -- vertices 0 to 3 are the corners of the sheet, and the others lie strictly inside, no two at one place
  pub corner_0 : s.at 0 ≡ grid (pos 0) (pos 0)
  pub corner_1 : s.at 1 ≡ grid s.width (pos 0)
  pub corner_2 : s.at 2 ≡ grid s.width s.height
  pub corner_3 : s.at 3 ≡ grid (pos 0) s.height
  pub four : 4 ≤ s.vertices
  pub inner : (v : ℕ) → 4 ≤ v → v < s.vertices → Inner s.width s.height (s.at v)
  pub apart : (u v : ℕ) → u < s.vertices → v < s.vertices → s.at u ≡ s.at v → u ≡ v
  -- loops name vertices, and name every inner one
  pub named : (l : List ℕ) → In l s.loops → (v : ℕ) → In v l → v < s.vertices
  pub used : (v : ℕ) → 4 ≤ v → v < s.vertices → (l : List ℕ) × In l s.loops × In v l
  -- no directed edge is listed twice, and the reverse of each is listed
  pub once : Once (listed s)
  pub paired : (e : Edge) → In e (listed s) → In (back e) (listed s)

abbrev pub loop_of : Subdivision → ℕ → List ℕ
loop_of s l = slice_index_or s.loops l []

-- each loop is cut into triangles whose corners turn to the left
pub record Triangulated (s : Subdivision) (triangles : ℕ → List Triangle) : Type 0 where
  pub cut : (l : ℕ) → l < length s.loops → Cut (loop_of s l) (triangles l)
  pub leftward : (l : ℕ) → l < length s.loops → AllLeftward s.at (triangles l)
