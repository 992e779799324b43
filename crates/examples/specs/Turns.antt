-- The worked examples of turns, from the bytes of a file on, over tables that are long enough, whatever they held before.
use Rattle.std.specs.Prelude.{◌≡◌, ◌≤◌, ℕ, List, [], ◌∷◌, length, true, Ok, Err, Result}
use Rattle.lent.specs.Kept.{over}
use Rattle.plane.specs.declared.Edge.{Edge}
use Rattle.plane.specs.declared.Point.{Point}
use Rattle.refusal.specs.declared.Cause.TheVariants.{EdgeTwice, NoneLeft}
use Rattle.refusal.specs.declared.Layer.TheVariants.{Build, Check}
use Rattle.refusal.specs.declared.Refusal.{Refusal}
use Rattle.refusal.specs.Numbers.{refused}
use Rattle.sheet.specs.declared.tables.Loop.{Loop}
use Rattle.sheet.specs.Sheets.{Sheet, edges_of, loops_of, points_of}
use Rattle.bottom.specs.Cuts.{build_room, cut_live}
use Rattle.rules.specs.Broken as broken
use Rattle.tiling.specs.Triangles.{triangle}
use Rattle.hierarchy.specs.Examples.{plain, plain_bottom, shapes}
use Rattle.board.specs.declared.stage.Board.{Board}
use Rattle.board.specs.Turns.{bare, check_board, checks, cut_board, cuts, load_board, loads, rounds}
use Rattle.examples.specs.Spring.{spring, spring_file}

-- the spring sheet's file, but for its first loop, which goes the other way round
abbrev pub turned_file : List ℕ
turned_file =
    1 ∷ 12 ∷ 10 ∷ 4 ∷ 3 ∷ 3 ∷ 9 ∷ 3 ∷ 9 ∷ 7 ∷ 3 ∷ 7 ∷ 5
    ∷ 14 ∷ 4 ∷ 7 ∷ 6 ∷ 5 ∷ 4
    ∷ 0 ∷ 4 ∷ 0 ∷ 1 ∷ 5 ∷ 4
    ∷ 0 ∷ 4 ∷ 1 ∷ 2 ∷ 6 ∷ 5
    ∷ 0 ∷ 4 ∷ 2 ∷ 3 ∷ 7 ∷ 6
    ∷ 0 ∷ 4 ∷ 3 ∷ 0 ∷ 4 ∷ 7
    ∷ 1 ∷ 14 ∷ 6 ∷ 115 ∷ 112 ∷ 114 ∷ 105 ∷ 110 ∷ 103 ∷ []

-- a sheet of 2 by 2 with one loop, no inner vertex and no label
abbrev pub plain_file : List ℕ
plain_file = 1 ∷ 2 ∷ 2 ∷ 0 ∷ 1 ∷ 0 ∷ 4 ∷ 0 ∷ 1 ∷ 2 ∷ 3 ∷ 0 ∷ []

-- an empty Draft takes the sheet of the file, and then its check answers so
abbrev pub LoadThenCheck : List ℕ → Sheet → Result (Unit {0}) Refusal → Type 0
LoadThenCheck file s said =
    (points : List Point) (edges : List Edge) (loops : List Loop) (live : List ℕ) (strokes : ℕ)
    → build_room (length points) (length edges) (length loops) (length live) ≡ true → 3077 ≤ strokes
    → (loads bare points edges loops live file ≡ Ok s)
    × (checks (load_board (Ok s) bare) (over (points_of s) points) (over (edges_of s) edges) (over (loops_of s) loops) strokes ≡ said)

-- the board of the plain sheet once it is Checked, and once it is cut
abbrev pub plain_checked : Board
plain_checked = check_board (Ok tt) (load_board (Ok plain) bare)

abbrev pub plain_layered : Board
plain_layered = cut_board (Ok plain_bottom.nodes) plain_checked

-- its cut makes its bottom nodes, and a round is refused, since no inner vertex is left
abbrev pub CutThenRound : Type 0
CutThenRound =
    (points : List Point) (edges : List Edge) (loops : List Loop) (live : List ℕ) (room : ℕ)
    → build_room (length points) (length edges) (length loops) (length live) ≡ true → 2 ≤ room
    → (cuts plain_checked (over (points_of plain) points) (over (edges_of plain) edges) (over (loops_of plain) loops) (length live) room ≡ Ok plain_bottom.nodes)
    × (rounds plain_layered (over (points_of plain) points) (cut_live (Ok plain_bottom.nodes) live) plain_bottom.nodes room ≡ Err (refused NoneLeft Build 0))

pub record TurnExamples : Type 0 where
  -- the spring sheet passes
  pub passes : LoadThenCheck spring_file spring (Ok tt)
  -- with its first loop the other way round it is loaded, and refused: position 6 lists an edge again
  pub turned : LoadThenCheck turned_file (broken.spring (7 ∷ 6 ∷ 5 ∷ 4 ∷ [])) (Err (refused EdgeTwice Check 6))
  -- the plain sheet passes, is cut into two triangles, and there is no round
  pub plain_passes : LoadThenCheck plain_file plain (Ok tt)
  pub plain_cut : CutThenRound
  pub plain_triangles : shapes plain_bottom ≡ triangle 3 0 1 ∷ triangle 1 2 3 ∷ []
