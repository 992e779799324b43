-- The worked examples of the rules, computed from the definitions: a sheet that keeps all of them, and for each rule one that breaks it first.
use Rattle.std.specs.Prelude.{◌≡◌, ℕ, Bool, true, false, List, [], ◌∷◌, map, Some, None}
use Rattle.plane.specs.declared.Point.{Point}
use Rattle.plane.specs.Edges.{edge}
use Rattle.refusal.specs.declared.Cause.TheVariants.{LoopSum, SamePoint, VertexTwice, EdgeTwice, NoReverse, VertexUnused, EdgesTouch, LoopTurned}
use Rattle.refusal.specs.declared.Layer.TheVariants.{Check}
use Rattle.refusal.specs.Numbers.{refused}
use Rattle.sheet.specs.Sheets.{Ring, Sheet, point}
use Rattle.plane.specs.Points.{place_of}
use Rattle.rules.specs.Rules.{first_broken, touch}

abbrev unnamed : List ℕ → Ring
unnamed cs = record { numeral = 0; corners = cs }

-- the spring sheet, with the corners of its first loop
abbrev pub spring : List ℕ → Sheet
spring middle =
    record {
      width = 12;
      height = 10;
      inner = point 3 3 ∷ point 9 3 ∷ point 9 7 ∷ point 3 7 ∷ [];
      rings = record { numeral = 14; corners = middle } ∷ map unnamed ((0 ∷ 1 ∷ 5 ∷ 4 ∷ []) ∷ (1 ∷ 2 ∷ 6 ∷ 5 ∷ []) ∷ (2 ∷ 3 ∷ 7 ∷ 6 ∷ []) ∷ (3 ∷ 0 ∷ 4 ∷ 7 ∷ []) ∷ []);
    }

-- a sheet of 4 by 4 with two inner vertices
abbrev pub small : Point → Point → List (List ℕ) → Sheet
small a b loops = record { width = 4; height = 4; inner = a ∷ b ∷ []; rings = map unnamed loops }

-- four loops about the edge from vertex 4 to vertex 5: they fit where 4 is to the left of 5
abbrev pub about : List (List ℕ)
about = (0 ∷ 1 ∷ 5 ∷ 4 ∷ []) ∷ (1 ∷ 2 ∷ 5 ∷ []) ∷ (2 ∷ 3 ∷ 4 ∷ 5 ∷ []) ∷ (3 ∷ 0 ∷ 4 ∷ []) ∷ []

pub record SpringRules : Type 0 where
  pub spring_whole : first_broken (spring (4 ∷ 5 ∷ 6 ∷ 7 ∷ [])) ≡ None
  pub small_whole : first_broken (small (point 1 2) (point 3 2) about) ≡ None
  -- the last loop is missing
  pub loop_sum :
      first_broken (small (point 1 2) (point 3 2) ((0 ∷ 1 ∷ 5 ∷ 4 ∷ []) ∷ (1 ∷ 2 ∷ 5 ∷ []) ∷ (2 ∷ 3 ∷ 4 ∷ 5 ∷ []) ∷ []))
      ≡ Some (refused LoopSum Check 0)
  -- vertex 5 is where vertex 4 is
  pub same_point : first_broken (small (point 1 2) (point 1 2) about) ≡ Some (refused SamePoint Check 5)
  -- loop 2 names vertex 2 twice
  pub vertex_twice :
      first_broken (small (point 1 2) (point 3 2) ((0 ∷ 1 ∷ 5 ∷ 4 ∷ []) ∷ (1 ∷ 2 ∷ 5 ∷ []) ∷ (2 ∷ 3 ∷ 2 ∷ 5 ∷ []) ∷ (3 ∷ 0 ∷ 4 ∷ []) ∷ []))
      ≡ Some (refused VertexTwice Check 2)
  -- the first loop is taken the other way round, so that position 6 lists the edge of position 2 again
  pub edge_twice : first_broken (spring (7 ∷ 6 ∷ 5 ∷ 4 ∷ [])) ≡ Some (refused EdgeTwice Check 6)
  -- loop 1 goes to vertex 4 in place of 5, so that nothing goes from vertex 5 to vertex 1
  pub no_reverse :
      first_broken (small (point 1 2) (point 3 2) ((0 ∷ 1 ∷ 5 ∷ 4 ∷ []) ∷ (1 ∷ 2 ∷ 4 ∷ []) ∷ (2 ∷ 3 ∷ 4 ∷ 5 ∷ []) ∷ (3 ∷ 0 ∷ 4 ∷ []) ∷ []))
      ≡ Some (refused NoReverse Check 1)
  -- loops on both sides of the diagonal come to vertex 4, and none to vertex 5
  pub vertex_unused :
      first_broken (small (point 1 2) (point 3 2) ((3 ∷ 0 ∷ 4 ∷ []) ∷ (1 ∷ 2 ∷ 4 ∷ []) ∷ (0 ∷ 1 ∷ 4 ∷ 2 ∷ []) ∷ (0 ∷ 2 ∷ 3 ∷ 4 ∷ []) ∷ []))
      ≡ Some (refused VertexUnused Check 5)
  -- vertex 4 is to the right of vertex 5, so that the edge between 4 and 0, edge 3 of the sheet, crosses the one between 1 and 5
  pub edges_touch : first_broken (small (point 3 2) (point 1 2) about) ≡ Some (refused EdgesTouch Check 3)
  -- vertex 4 is above the diagonal and vertex 5 below it, so that loop 1 goes round clockwise
  pub loop_turned :
      first_broken (small (point 1 3) (point 3 1) ((0 ∷ 1 ∷ 2 ∷ 4 ∷ []) ∷ (0 ∷ 4 ∷ 2 ∷ 5 ∷ []) ∷ (0 ∷ 5 ∷ 2 ∷ 3 ∷ []) ∷ []))
      ≡ Some (refused LoopTurned Check 1)

-- vertices 0, 1, 2 and 4 stand on one line in this order, and 3 beside it
abbrev pub in_line : ℕ → ℕ → ℕ → ℕ → Bool
in_line a b c d = touch (place_of (point 0 0 ∷ point 2 0 ∷ point 4 0 ∷ point 2 2 ∷ point 6 0 ∷ [])) (edge a b) (edge c d)

-- which edges touch
pub record Touches : Type 0 where
  -- an end of one lies on the other
  pub first_end : in_line 1 3 0 2 ≡ true
  pub second_end : in_line 3 1 0 2 ≡ true
  pub on_first : in_line 0 2 1 3 ≡ true
  pub on_second : in_line 0 2 3 1 ≡ true
  pub along : in_line 0 2 1 4 ≡ true
  -- the other end of one lies on the other, whichever ends they have in common
  pub from_from : in_line 0 1 0 2 ≡ true
  pub longer_first : in_line 0 2 0 1 ≡ true
  pub from_to : in_line 0 1 2 0 ≡ true
  pub to_from : in_line 1 0 0 2 ≡ true
  pub to_to : in_line 1 0 2 0 ≡ true
  -- edges that only meet at a common end do not touch, and neither do those that share no point
  pub onward : in_line 0 1 1 2 ≡ false
  pub aside : in_line 0 1 3 1 ≡ false
  pub beyond : in_line 0 1 2 4 ≡ false
  pub apart : in_line 0 1 2 3 ≡ false

abbrev pub RuleExamples : Type 0
RuleExamples = SpringRules × Touches
