-- Worked examples of cutting, computed from the definitions.
use Rattle.std.specs.Prelude.{◌≡◌, ℕ, false, true, List, [], ◌∷◌, Some, None, Option}
use Rattle.plane.specs.declared.Point.{Point}
use Rattle.plane.specs.Points.{place_of}
use Rattle.tiling.specs.Triangles.{Triangle, triangle}
use Rattle.ears.specs.Ears.{cut_of, first_ear, is_ear}
use Rattle.ears.specs.Numbers.{is_ear_by_number}

abbrev pub point : ℕ → ℕ → Point
point x y = record { x = x; y = y }

abbrev pub square : List Point
square = point 0 0 ∷ point 2 0 ∷ point 2 2 ∷ point 0 2 ∷ []

-- vertex 1 is in line with 0 and 2
abbrev pub straight : List Point
straight = point 0 0 ∷ point 1 0 ∷ point 2 0 ∷ point 2 2 ∷ point 0 2 ∷ []

-- vertex 2 is on the line from 1 to 4
abbrev pub notched : List Point
notched = point 0 0 ∷ point 4 0 ∷ point 2 2 ∷ point 4 4 ∷ point 0 4 ∷ []

-- vertex 3 is below the line from 4 to 1
abbrev pub dented : List Point
dented = point 0 0 ∷ point 6 0 ∷ point 6 6 ∷ point 3 2 ∷ point 0 6 ∷ []

-- vertex 0 is in the triangle of 1, 2 and 3, and vertex 4 beyond the line from 2 to 3
abbrev pub slit : List Point
slit = point 3 2 ∷ point 0 0 ∷ point 6 0 ∷ point 3 6 ∷ point 7 5 ∷ []

abbrev pub cut_in : List Point → List ℕ → Option (List Triangle)
cut_in ps cs = cut_of (place_of ps) cs

pub record EarExamples : Type 0 where
  pub square_cut : cut_in square (0 ∷ 1 ∷ 2 ∷ 3 ∷ []) ≡ Some (triangle 3 0 1 ∷ triangle 1 2 3 ∷ [])
  -- the same square from another corner
  pub square_turned : cut_in square (1 ∷ 2 ∷ 3 ∷ 0 ∷ []) ≡ Some (triangle 0 1 2 ∷ triangle 2 3 0 ∷ [])
  pub three : cut_in square (0 ∷ 1 ∷ 2 ∷ []) ≡ Some (triangle 0 1 2 ∷ [])
  -- a straight corner is no ear
  pub straight_first : first_ear (place_of straight) (1 ∷ 2 ∷ 3 ∷ 4 ∷ 0 ∷ []) ≡ Some 1
  pub straight_cut : cut_in straight (1 ∷ 2 ∷ 3 ∷ 4 ∷ 0 ∷ []) ≡ Some (triangle 1 2 3 ∷ triangle 0 1 3 ∷ triangle 3 4 0 ∷ [])
  -- vertex 2 lies on the border of the triangle of 4, 0 and 1, which is no ear: cut off, it would leave the others stuck
  pub border_blocks : is_ear (place_of notched) (0 ∷ 1 ∷ 2 ∷ 3 ∷ 4 ∷ []) 0 ≡ false
  pub border_left : cut_in notched (1 ∷ 2 ∷ 3 ∷ 4 ∷ []) ≡ None
  pub border_cut : cut_in notched (0 ∷ 1 ∷ 2 ∷ 3 ∷ 4 ∷ []) ≡ Some (triangle 0 1 2 ∷ triangle 4 0 2 ∷ triangle 2 3 4 ∷ [])
  -- vertex 3 lies in the triangle of 4, 0 and 1 and in that of 0, 1 and 2
  pub dented_cut : cut_in dented (0 ∷ 1 ∷ 2 ∷ 3 ∷ 4 ∷ []) ≡ Some (triangle 1 2 3 ∷ triangle 0 1 3 ∷ triangle 0 3 4 ∷ [])
  -- a square taken clockwise is stuck, and so are three corners in line, and fewer than three
  pub clockwise : cut_in square (3 ∷ 2 ∷ 1 ∷ 0 ∷ []) ≡ None
  pub in_line : cut_in straight (0 ∷ 1 ∷ 2 ∷ []) ≡ None
  pub two : cut_in square (0 ∷ 1 ∷ []) ≡ None
  -- vertex 1 stands on either side of the slit from 1 to 0: the triangle of 0, 1 and 2 has no other vertex in it, but at another position its
  -- corner 1 once more; by numbers it would be the first ear, and the list be cut into 0 1 2, 0 2 4, 0 4 3 and 3 1 0
  pub slit_first : first_ear (place_of slit) (1 ∷ 2 ∷ 4 ∷ 3 ∷ 1 ∷ 0 ∷ []) ≡ Some 2
  pub slit_blocked : is_ear (place_of slit) (1 ∷ 2 ∷ 4 ∷ 3 ∷ 1 ∷ 0 ∷ []) 0 ≡ false
  pub slit_by_number : is_ear_by_number (place_of slit) (1 ∷ 2 ∷ 4 ∷ 3 ∷ 1 ∷ 0 ∷ []) 0 ≡ true
  pub slit_stuck : cut_in slit (1 ∷ 2 ∷ 4 ∷ 3 ∷ 1 ∷ 0 ∷ []) ≡ None
