-- A triangle with where its corners are and the box that they span, by which most corners are told not to block it.
use Rattle.std.specs.Prelude.{ℕ, Bool, ◌&&◌, List, length, max, min, pos, int_le, int_lt, nat_le, slice_index}
use Rattle.plane.specs.declared.Point.{Point}
use Rattle.plane.specs.Points.{area, det, grid_point, spot_at, vertex_of}
use Rattle.plane.specs.declared.Corners.{Corners}
use Rattle.ears.specs.declared.shape.Shape.{Shape}
use Rattle.ears.specs.Ears.{is_other}

abbrev pub least : ℕ → ℕ → ℕ → ℕ
least u v w = min (min u v) w

abbrev pub greatest : ℕ → ℕ → ℕ → ℕ
greatest u v w = max (max u v) w

-- the triangle of three vertices
abbrev pub shape_at : Corners → Point → Point → Point → Shape
shape_at t a b c =
    record {
      corners = t;
      a = a;
      b = b;
      c = c;
      low = record { x = least a.x b.x c.x; y = least a.y b.y c.y };
      high = record { x = greatest a.x b.x c.x; y = greatest a.y b.y c.y };
    }

abbrev pub shape_of : List Point → Corners → Shape
shape_of ps t = shape_at t (vertex_of ps t.a) (vertex_of ps t.b) (vertex_of ps t.c)

-- its corners turn to the left
abbrev pub turns_left : Shape → Bool
turns_left s = int_lt (pos 0) (area (grid_point s.a) (grid_point s.b) (grid_point s.c))

-- x is one of low to high
abbrev pub in_range : ℕ → ℕ → ℕ → Bool
in_range low high x = nat_le low x && nat_le x high

-- q is in the box
abbrev pub in_box : Shape → Point → Bool
in_box s q = in_range s.low.x s.high.x q.x && in_range s.low.y s.high.y q.y

-- q is not to the right of the line from a to b
abbrev pub not_right : Point → Point → Point → Bool
not_right a b q = int_le (pos 0) (det (grid_point a) (grid_point b) (spot_at (grid_point q)))

-- q is in the triangle or on its border
abbrev pub holds : Shape → Point → Bool
holds s q = not_right s.a s.b q && (not_right s.b s.c q && not_right s.c s.a q)

-- a vertex is in the triangle or on its border, told by the box first
abbrev pub holds_in_box : List Point → Shape → ℕ → Bool
holds_in_box ps s v = in_box s (vertex_of ps v) && holds s (vertex_of ps v)

-- the corner at another position j than those of the triangle is, which stands at position i
abbrev pub blocks_in_box : List Point → Shape → List ℕ → (i j : ℕ) → Bool
blocks_in_box ps s cs i j = is_other (length cs) i j && holds_in_box ps s (slice_index cs j)
