-- Histories of a board: the turns that were made on it, and what was told.
use Rattle.std.specs.Prelude.{◌≡◌, ℕ, ◌+◌, Bool, true, false, cond, List, [], ◌∷◌, length, IfSome, Some, None, Option, Ok, Err, Result, nat_le}
use Rattle.std.specs.List.{All}
use Rattle.plane.specs.declared.Point.{Point}
use Rattle.plane.specs.declared.Edge.{Edge}
use Rattle.plane.specs.Kernels.{Scaled}
use Rattle.plane.specs.Points.{Spot}
use Rattle.refusal.specs.declared.Refusal.{Refusal}
use Rattle.nodes.specs.declared.node.Node.{Node}
use Rattle.sheet.specs.declared.tables.Loop.{Loop}
use Rattle.sheet.specs.Load.{sheet_of, upon}
use Rattle.sheet.specs.Sheets.{Sheet, edges_of, loops_of, points_of}
use Rattle.bottom.specs.Cuts.{cut_live, cut_nodes}
use Rattle.rounds.specs.Rounds.{RoundLive, round_nodes}
use Rattle.walk.specs.declared.Found.{Found}
use Rattle.board.specs.declared.stage.Board.{Board}
use Rattle.board.specs.Turns.{bare, check_board, checks, cut_board, cuts, lists, load_board, loads, places, round_board, rounds, seal_board, seals}

-- the eight turns; a tip is the point that it means, or none where it is not fit, and a list is lent a table for so many answers
pub data Turn : Type 0 where
  load : (file : List ℕ) → Turn
  check : Turn
  cut : Turn
  round : Turn
  seal : Turn
  place : (tip : Option Spot) → Turn
  list : (tips : List (Option Spot)) → (room : ℕ) → Turn
  wipe : Turn

-- what was told: a place hands out an answer, and a list an entry for each tip
pub data Told : Type 0 where
  granted : Told
  answered : Found → Told
  listed : List (Result Found Refusal) → Told
  refused : Refusal → Told

pub record Event : Type 0 where
  pub turn : Turn
  pub told : Told

abbrev pub event : Turn → Told → Event
event u o = record { turn = u; told = o }

-- the latest event comes first
abbrev pub History : Type 0
History = List Event

-- ---- how each turn changes a board with the tables and the store that are lent to it

-- of the strokes only their count matters, and a store never changes its capacity
pub record State : Type 0 where
  pub board : Board
  pub points : List Point
  pub edges : List Edge
  pub loops : List Loop
  pub strokes : ℕ
  pub live : List ℕ
  pub nodes : List Node
  pub room : ℕ

-- the same tables, and the same capacity, with another board, other live numbers and other nodes
abbrev pub after : State → Board → List ℕ → List Node → State
after s b live nodes =
    record { board = b; points = s.points; edges = s.edges; loops = s.loops; strokes = s.strokes; live = live; nodes = nodes; room = s.room }

abbrev pub told_by : {X : Type 0} → Result X Refusal → Told
told_by (Ok x) = granted
told_by (Err e) = refused e

abbrev pub answered_by : Result Found Refusal → Told
answered_by (Ok f) = answered f
answered_by (Err e) = refused e

abbrev pub listed_by : Result (List (Result Found Refusal)) Refusal → Told
listed_by (Ok es) = listed es
listed_by (Err e) = refused e

-- the state after a load
abbrev pub loaded : Result Sheet Refusal → State → State
loaded x s =
    record {
      board = load_board x s.board;
      points = upon x points_of s.points;
      edges = upon x edges_of s.edges;
      loops = upon x loops_of s.loops;
      strokes = s.strokes;
      live = s.live;
      nodes = s.nodes;
      room = s.room;
    }

-- one turn: what it tells, and the state that it leaves, by the definitions of the turns. What a round leaves behind the live numbers is open;
-- a point that a tip means has a Z of at least 1, as every kernel promises.
abbrev pub Step : State → Turn → Told → State → Type 0
Step s (load file) o t =
    let x = loads s.board s.points s.edges s.loops s.live file in
    (o ≡ told_by x) × (t ≡ loaded x s)
Step s check o t =
    let x = checks s.board s.points s.edges s.loops s.strokes in
    (o ≡ told_by x) × (t ≡ after s (check_board x s.board) s.live s.nodes)
Step s cut o t =
    let x = cuts s.board s.points s.edges s.loops (length s.live) s.room in
    (o ≡ told_by x) × (t ≡ after s (cut_board x s.board) (cut_live x s.live) (cut_nodes x s.nodes))
Step s round o t =
    let x = rounds s.board s.points s.live s.nodes s.room in
    (o ≡ told_by x) × RoundLive x s.live t.live × (length t.live ≡ length s.live) × (t ≡ after s (round_board x s.board) t.live (round_nodes x s.nodes))
Step s seal o t =
    let x = seals s.board s.live s.nodes in
    (o ≡ told_by x) × (t ≡ after s (seal_board x s.board) s.live s.nodes)
Step s (place tip) o t = Scaled tip × (o ≡ answered_by (places s.board s.points s.live s.nodes tip)) × (t ≡ s)
Step s (list tips room) o t = All Scaled tips × (o ≡ listed_by (lists s.board s.points s.live s.nodes tips room)) × (t ≡ s)
Step s wipe o t = (o ≡ granted) × (t ≡ after s bare s.live [])

-- the events of a history lead from one state to another, turn by turn
pub data Runs (start : State) : History → State → Type 0 where
  begin : Runs start [] start
  turn : (h : History) (s t : State) (u : Turn) (o : Told) → Runs start h s → Step s u o t → Runs start (event u o ∷ h) t
