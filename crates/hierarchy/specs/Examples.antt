-- The worked examples of cutting and rounds, computed from the definitions.
use Rattle.std.specs.Prelude.{◌≡◌, ℕ, List, [], ◌∷◌, length, map, Ok, Err, Result}
use Rattle.std.specs.List.{filter, range_with_len}
use Rattle.plane.specs.Points.{place_of}
use Rattle.nodes.specs.declared.node.Node.{Node}
use Rattle.sheet.specs.Sheets.{Sheet, points_of}
use Rattle.tiling.specs.Triangles.{Triangle, triangle}
use Rattle.bottom.specs.Bottom.{bottom_of}
use Rattle.rounds.specs.Choices.{Found, is_marked, look_all, rounded_live, rounded_nodes}
use Rattle.rules.specs.Broken.{spring}
use Rattle.hierarchy.specs.Layers.{shape}

-- the nodes of a sheet, which of them are live, the vertices that the last round took out, and how many were left before it
pub record Stage : Type 0 where
  pub nodes : List Node
  pub live : List ℕ
  pub taken : List ℕ
  pub left : ℕ

abbrev pub stage : List Node → List ℕ → List ℕ → ℕ → Stage
stage nodes live taken left = record { nodes = nodes; live = live; taken = taken; left = left }

-- the bottom of a sheet, all of it live
abbrev pub at_bottom : Result (List Node) ℕ → Stage
at_bottom (Ok ns) = stage ns (range_with_len 0 (length ns)) [] 0
at_bottom (Err l) = stage [] [] [] 0

-- after what a round finds
abbrev pub after : Sheet → Stage → Result Found ℕ → Stage
after s t (Ok f) =
    stage (rounded_nodes (place_of (points_of s)) t.nodes t.live (length s.inner) f.marks) (rounded_live (place_of (points_of s)) t.nodes t.live f)
    (filter (is_marked f.marks) (range_with_len 4 (length s.inner)))
    f.left
after s t (Err v) = t

abbrev pub next : Sheet → Stage → Stage
next s t = after s t (look_all (place_of (points_of s)) t.nodes t.live (length s.inner))

abbrev pub spring_sheet : Sheet
spring_sheet = spring (4 ∷ 5 ∷ 6 ∷ 7 ∷ [])

abbrev pub bottom : Stage
bottom = at_bottom (bottom_of spring_sheet)

abbrev pub first : Stage
first = next spring_sheet bottom

abbrev pub second : Stage
second = next spring_sheet first

abbrev pub third : Stage
third = next spring_sheet second

-- a sheet of 2 by 2 without inner vertices
abbrev pub plain : Sheet
plain = record { width = 2; height = 2; inner = []; rings = record { numeral = 0; corners = 0 ∷ 1 ∷ 2 ∷ 3 ∷ [] } ∷ [] }

abbrev pub plain_bottom : Stage
plain_bottom = at_bottom (bottom_of plain)

abbrev pub shapes : Stage → List Triangle
shapes t = map shape t.nodes

pub record LayerExamples : Type 0 where
  -- the spring sheet: round 1 takes out 4 and 6, round 2 takes 5, round 3 takes 7
  pub ten : length bottom.nodes ≡ 10
  pub round_1 : first.taken ≡ 4 ∷ 6 ∷ []
  pub round_2 : second.taken ≡ 5 ∷ []
  pub round_3 : third.taken ≡ 7 ∷ []
  -- then it has 18 nodes, of which the last two are live, and no inner vertex is left
  pub eighteen : length third.nodes ≡ 18
  pub top : third.live ≡ 16 ∷ 17 ∷ []
  pub none : (next spring_sheet third).left ≡ 0
  -- the plain sheet is cut into two triangles, and there is no round
  pub two : shapes plain_bottom ≡ triangle 3 0 1 ∷ triangle 1 2 3 ∷ []
  pub plain_top : plain_bottom.live ≡ 0 ∷ 1 ∷ []
  pub plain_none : (next plain plain_bottom).left ≡ 0
