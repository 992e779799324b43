-- Ears of a polygon, and the polygon cut at its ears. A polygon is a cyclic list of corners, by the numbers of vertices.
use Rattle.std.specs.Prelude.{ℕ, zero, suc, ◌+◌, ◌-◌, ◌==◌, Bool, not, cond, ◌&&◌, ◌||◌, List, [], ◌∷◌, length, pos, int_lt, slice_index, Some, None, Option}
use Rattle.std.specs.List.{find, list_any, range_with_len, remove}
use Rattle.std.specs.Option.{option_and_then, option_map}
use Rattle.plane.specs.Points.{GridPoint, area, spot_at}
use Rattle.tiling.specs.Triangles.{Triangle, closed_holds, triangle}

-- of n positions in a ring, the one before i and the one after it
abbrev pub before : ℕ → ℕ → ℕ
before n i = cond (i == 0) (n - 1) (i - 1)

abbrev pub after : ℕ → ℕ → ℕ
after n i = cond (i + 1 == n) 0 (i + 1)

-- the corner at a position with its neighbours: the one before, itself, the one after
abbrev pub triangle_at : List ℕ → ℕ → Triangle
triangle_at cs i = triangle (slice_index cs (before (length cs) i)) (slice_index cs i) (slice_index cs (after (length cs) i))

-- the position j is another than i and the two beside it
abbrev pub is_other : ℕ → ℕ → ℕ → Bool
is_other n i j = not (j == before n i || (j == i || j == after n i))

module _ (at : ℕ → GridPoint) where
  -- c is strictly to the left of the line from a to b
  abbrev pub is_left : Triangle → Bool
  is_left t = int_lt (pos 0) (area (at t.a) (at t.b) (at t.c))

  -- the corner at another position j lies in the triangle at i, or on its border
  abbrev pub blocks : List ℕ → ℕ → ℕ → Bool
  blocks cs i j = is_other (length cs) i j && closed_holds at (triangle_at cs i) (spot_at (at (slice_index cs j)))

  -- the triangle at a position turns left, and no other corner of the list blocks it
  unfoldable pub is_ear : List ℕ → ℕ → Bool
  is_ear cs i = is_left (triangle_at cs i) && not (list_any (blocks cs i) (range_with_len 0 (length cs)))

  -- the lowest position that is an ear
  abbrev pub first_ear : List ℕ → Option ℕ
  first_ear cs = find (is_ear cs) (range_with_len 0 (length cs))

  -- three corners are one triangle, the one at position 1, and it turns left
  abbrev pub last_cut : List ℕ → Option (List Triangle)
  last_cut cs = cond (length cs == 3 && is_left (triangle_at cs 1)) (Some (triangle_at cs 1 ∷ [])) None

  -- n times the first ear is cut off: its triangle is made, and its corner goes; then the last three are left
  unfoldable pub cut_by : ℕ → List ℕ → Option (List Triangle)
  cut_by zero cs = last_cut cs
  cut_by (suc n) cs = option_and_then (λ i. option_map (λ ts. triangle_at cs i ∷ ts) (cut_by n (remove cs i))) (first_ear cs)

  -- the triangles of a polygon, in the order in which they are made; none where it is stuck, or has fewer than three corners
  unfoldable pub cut_of : List ℕ → Option (List Triangle)
  cut_of cs = cut_by (length cs - 3) cs
