-- A sheet that stands on a board: what the turns leave of it as long as nobody alters a table or the store; and what is answered to its tips.
use Rattle.std.specs.Prelude.{◌≡◌, ℕ, true, List, length, IfOk, Some, Option, Ok, Result}
use Rattle.std.specs.List.{slice_get}
use Rattle.plane.specs.declared.Point.{Point}
use Rattle.plane.specs.declared.Edge.{Edge}
use Rattle.plane.specs.Points.{Spot}
use Rattle.refusal.specs.declared.Refusal.{Refusal}
use Rattle.nodes.specs.declared.node.Node.{Node}
use Rattle.sheet.specs.declared.tables.Loop.{Loop}
use Rattle.sheet.specs.Sheets.{Sheet}
use Rattle.checking.specs.Held.{Holds}
use Rattle.bottom.specs.Cuts.{cut_live}
use Rattle.rounds.specs.Rounds.{RoundLive, Rounded}
use Rattle.placing.specs.Placings.{Answered}
use Rattle.walk.specs.declared.Found.{Found}
use Rattle.board.specs.declared.stage.Board.{Board}
use Rattle.board.specs.Turns.{check_board, checks, cut_board, cuts, is_sealed, round_board, round_room, rounds, seal_board, seals}

-- board, points, edges, loops, live numbers and nodes as the granted turns leave them, from the check of the sheet that the tables hold
pub data Stands (s : Sheet) : Board → List Point → List Edge → List Loop → List ℕ → List Node → Type 0 where
  checked : (b : Board) (ps : List Point) (es : List Edge) (ls : List Loop) (live : List ℕ) (nodes : List Node) (strokes : ℕ)
      → Holds b.size ps es ls s → checks b ps es ls strokes ≡ Ok tt → Stands s (check_board (Ok tt) b) ps es ls live nodes
  cut : (b : Board) (ps : List Point) (es : List Edge) (ls : List Loop) (live : List ℕ) (nodes : List Node) (room : ℕ) (ns : List Node)
      → Stands s b ps es ls live nodes → cuts b ps es ls (length live) room ≡ Ok ns → Stands s (cut_board (Ok ns) b) ps es ls (cut_live (Ok ns) live) ns
  round : (b : Board) (ps : List Point) (es : List Edge) (ls : List Loop) (live new : List ℕ) (nodes : List Node) (room : ℕ) (r : Rounded)
      → Stands s b ps es ls live nodes → rounds b ps live nodes room ≡ Ok r → RoundLive (Ok r) live new → Stands s (round_board (Ok r) b) ps es ls new r.nodes
  seal : (b : Board) (ps : List Point) (es : List Edge) (ls : List Loop) (live : List ℕ) (nodes : List Node)
      → Stands s b ps es ls live nodes → seals b live nodes ≡ Ok tt → Stands s (seal_board (Ok tt) b) ps es ls live nodes

-- the theorem: in tables and a store that nobody altered since the check, every tip on the sheet is answered, by the one vertex, open edge or
-- open face that holds it
unfoldable pub TipTold : Board → List Point → (live : List ℕ) → List Node → (tip : Option Spot) → Result Found Refusal → Type 0
TipTold b ps live nodes tip said =
    (s : Sheet) (es : List Edge) (ls : List Loop) → Stands s b ps es ls live nodes
    → is_sealed b.stage ≡ true → round_room (length ps) (length live) ≡ true → Answered s tip said

-- so of a list that is granted: every tip of it that is on the sheet is answered so in its entry
unfoldable pub ListTold : Board → List Point → (live : List ℕ) → List Node → List (Option Spot) → (answers : List (Result Found Refusal))
    → Result (Unit {0}) Refusal → Type 0
ListTold b ps live nodes tips answers said =
    (s : Sheet) (es : List Edge) (ls : List Loop) → Stands s b ps es ls live nodes
    → IfOk said (λ _. (j : ℕ) (tip : Option Spot) → slice_get tips j ≡ Some tip → (entry : Result Found Refusal) × (slice_get answers j ≡ Some entry) × Answered s tip entry)
