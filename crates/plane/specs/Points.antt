-- Points of the plane, on which side of a line a point is, and when it is in a segment or on a sheet.
use Rattle.std.specs.Prelude.{◌==◌, ℕ, Bool, cond, ◌&&◌, ◌||◌, List, ℤ, pos, negsuc, ◌+ℤ◌, ◌-ℤ◌, ◌*ℤ◌, int_le, int_lt, slice_index_or}
use Rattle.plane.specs.declared.Point.{Point}
use Rattle.plane.specs.declared.Side.{Side}
use Rattle.plane.specs.declared.Side.TheVariants.{Right, On, Left}

-- a point with whole coordinates
pub record GridPoint : Type 0 where
  pub x : ℤ
  pub y : ℤ

-- the point (X/Z, Y/Z); Z is above 0 wherever something is said of one
pub record Spot : Type 0 where
  pub X : ℤ
  pub Y : ℤ
  pub Z : ℤ

-- two points of a sheet are one
abbrev pub same_point : Point → Point → Bool
same_point a b = a.x == b.x && a.y == b.y

abbrev pub grid_point : Point → GridPoint
grid_point a = record { x = pos a.x; y = pos a.y }

-- a vertex by its number: (0, 0) where there is no such vertex
abbrev pub vertex_of : List Point → ℕ → Point
vertex_of ps v = slice_index_or ps v (record { x = 0; y = 0 })

-- where a vertex is
abbrev pub place_of : List Point → ℕ → GridPoint
place_of ps v = grid_point (vertex_of ps v)

abbrev pub spot_at : GridPoint → Spot
spot_at a = record { X = a.x; Y = a.y; Z = pos 1 }

abbrev pub int_same : ℤ → ℤ → Bool
int_same u v = int_le u v && int_le v u

-- the determinant of a, b and p: Z times twice the signed area of their triangle, above 0 where p is to the left of a → b
unfoldable pub det : GridPoint → GridPoint → Spot → ℤ
det a b p = (b.x -ℤ a.x) *ℤ (p.Y -ℤ a.y *ℤ p.Z) -ℤ (b.y -ℤ a.y) *ℤ (p.X -ℤ a.x *ℤ p.Z)

-- the side that a determinant tells, by its sign
abbrev pub side_of : ℤ → Side
side_of d = cond (int_lt (pos 0) d) Left (cond (int_lt d (pos 0)) Right On)

-- the numbers of the sides
abbrev pub side_number : Side → ℤ
side_number Right = negsuc 0
side_number On = pos 0
side_number Left = pos 1

-- twice the signed area: above 0 where a, b, c turn to the left
abbrev pub area : GridPoint → GridPoint → GridPoint → ℤ
area a b c = det a b (spot_at c)

-- how far p is from a in the direction (u, v), by the scale of p and of the direction
unfoldable pub along : ℤ → ℤ → GridPoint → Spot → ℤ
along u v a p = u *ℤ (p.X -ℤ a.x *ℤ p.Z) +ℤ v *ℤ (p.Y -ℤ a.y *ℤ p.Z)

-- how far p is from a in the direction of b
abbrev pub ahead : GridPoint → GridPoint → Spot → ℤ
ahead a b p = along (b.x -ℤ a.x) (b.y -ℤ a.y) a p

-- p is the point a
abbrev pub is_at : GridPoint → Spot → Bool
is_at a p = int_same p.X (a.x *ℤ p.Z) && int_same p.Y (a.y *ℤ p.Z)

-- p is in the segment of a and b, and at neither end
abbrev pub between : GridPoint → GridPoint → Spot → Bool
between a b p = int_same (det a b p) (pos 0) && (int_lt (pos 0) (ahead a b p) && int_lt (pos 0) (ahead b a p))

-- p is in the segment of a and b, or at an end
abbrev pub on_segment : GridPoint → GridPoint → Spot → Bool
on_segment a b p = is_at a p || (is_at b p || between a b p)

-- p is on the closed sheet from (0, 0) to (width, height)
abbrev pub is_on_sheet : ℤ → ℤ → Spot → Bool
is_on_sheet width height p = (int_le (pos 0) p.X && int_le p.X (width *ℤ p.Z)) && (int_le (pos 0) p.Y && int_le p.Y (height *ℤ p.Z))
