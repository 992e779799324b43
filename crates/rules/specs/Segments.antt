-- Segments between points of a sheet, and their boxes.
use Rattle.std.specs.Prelude.{ℕ, Bool, ◌&&◌, ◌||◌, max, min, nat_le}
use Rattle.plane.specs.declared.Point.{Point}
use Rattle.plane.specs.Points.{grid_point}
use Rattle.rules.specs.Rules.{lies_on, meet}

-- of u to v and u to w, v lies on the second or w on the first
abbrev pub overlap_at : Point → Point → Point → Bool
overlap_at u v w = lies_on (grid_point u) (grid_point w) (grid_point v) || lies_on (grid_point u) (grid_point v) (grid_point w)

abbrev pub meet_at : Point → Point → Point → Point → Bool
meet_at a b c d = meet (grid_point a) (grid_point b) (grid_point c) (grid_point d)

-- x is one of u to v, in either order
abbrev pub in_range : ℕ → ℕ → ℕ → Bool
in_range u v x = nat_le (min u v) x && nat_le x (max u v)

abbrev pub in_box : Point → Point → Point → Bool
in_box a b q = in_range a.x b.x q.x && in_range a.y b.y q.y

-- two ranges have a number in common
abbrev pub ranges_meet : ℕ → ℕ → ℕ → ℕ → Bool
ranges_meet a b c d = nat_le (min a b) (max c d) && nat_le (min c d) (max a b)

abbrev pub boxes_meet : Point → Point → Point → Point → Bool
boxes_meet a b c d = ranges_meet a.x b.x c.x d.x && ranges_meet a.y b.y c.y d.y
