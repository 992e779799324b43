-- Ears told by the numbers of their corners, and not by positions: of a list that names no vertex twice it is the same.
use Rattle.std.specs.Prelude.{◌≡◌, ℕ, ◌<◌, ◌==◌, Bool, not, ◌&&◌, ◌||◌, List, length}
use Rattle.std.specs.List.{list_any}
use Rattle.plane.specs.Edges.{Once}
use Rattle.plane.specs.Points.{GridPoint, spot_at}
use Rattle.tiling.specs.Triangles.{Triangle, closed_holds}
use Rattle.ears.specs.Ears.{is_ear, is_left, triangle_at}

abbrev pub has_corner : Triangle → ℕ → Bool
has_corner t v = v == t.a || (v == t.b || v == t.c)

-- v is none of the triangle's corners, and lies in it or on its border
abbrev pub blocks_by_number : (ℕ → GridPoint) → Triangle → ℕ → Bool
blocks_by_number at t v = not (has_corner t v) && closed_holds at t (spot_at (at v))

-- the triangle at a position turns left, and no vertex of the list blocks it
abbrev pub is_ear_by_number : (ℕ → GridPoint) → List ℕ → ℕ → Bool
is_ear_by_number at cs i = is_left at (triangle_at cs i) && not (list_any (blocks_by_number at (triangle_at cs i)) cs)

-- the theorem: the ears of a polygon that names no vertex twice are told by numbers as by positions
abbrev pub EarsByNumber : Type 0
EarsByNumber = (at : ℕ → GridPoint) (cs : List ℕ) (i : ℕ) → Once cs → i < length cs → is_ear at cs i ≡ is_ear_by_number at cs i
