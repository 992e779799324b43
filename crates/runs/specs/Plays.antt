-- The history that turns and their outcomes make.
use Rattle.std.specs.Prelude.{ℕ, ◌+◌, List, [], ◌∷◌, length, map, take, drop, Option, Result, vec_len}
use Rattle.plane.specs.Points.{Spot}
use Rattle.refusal.specs.declared.Refusal.{Refusal}
use Rattle.nodes.specs.declared.node.Node.{Node}
use Rattle.walk.specs.declared.Found.{Found}
use Rattle.board.specs.declared.stage.Board.{Board}
use Rattle.board.specs.Histories.{History, State, Told, Turn as Made, event}
use Rattle.board.specs.Histories.Told.{answered, granted, listed, refused}
use Rattle.board.specs.Histories.Turn.{check, cut, list, load, place, round, seal, wipe}
use Rattle.board.specs.Turns.{bare}
use Rattle.desk.specs.declared.Desk.{Desk}
use Rattle.runs.specs.declared.turns.Outcome.{Outcome}
use Rattle.runs.specs.declared.turns.Outcome.TheVariants.{Answered, Granted, Refused}
use Rattle.runs.specs.declared.turns.Turn.{Turn}
use Rattle.runs.specs.declared.turns.Turn.TheVariants.{Check, Cut, List as Tips, Load, Place, Round, Seal, Wipe}

-- a board over a desk's tables and a store, as a state
abbrev pub state_at : Board → Desk → List Node → (room : ℕ) → State
state_at b d nodes room =
    record {
      board = b;
      points = d.points.items;
      edges = d.edges.items;
      loops = d.loops.items;
      strokes = vec_len d.strokes;
      live = d.live.items;
      nodes = nodes;
      room = room;
    }

-- the state of a desk
abbrev pub state_of : Desk → List Node → (room : ℕ) → State
state_of d nodes room = state_at d.board d nodes room

-- the same, with an empty Draft on the board
abbrev pub set_up : Desk → List Node → (room : ℕ) → State
set_up d nodes room = state_at bare d nodes room

-- a turn by what its tips mean; a list is lent a table for so many answers
abbrev pub turn_of : {K : Type 0} → (K → Option Spot) → (room : ℕ) → Turn K → Made
turn_of means room (Load file) = load file.now
turn_of means room Check = check
turn_of means room Cut = cut
turn_of means room Round = round
turn_of means room Seal = seal
turn_of means room (Place tip) = place (means tip)
turn_of means room (Tips tips) = list (map means tips.now) room
turn_of means room Wipe = wipe

-- what an outcome tells; a granted list of so many tips has its entries in the front of this table
abbrev pub outcome_of : Outcome → Told
outcome_of Granted = granted
outcome_of (Answered f) = answered f
outcome_of (Refused e) = refused e

abbrev pub listed_of : ℕ → Outcome → List (Result Found Refusal) → Told
listed_of n Granted answers = listed (take n answers)
listed_of n (Answered f) answers = answered f
listed_of n (Refused e) answers = refused e

abbrev pub told_of : {K : Type 0} → Turn K → Outcome → List (Result Found Refusal) → Told
told_of (Load file) o answers = outcome_of o
told_of Check o answers = outcome_of o
told_of Cut o answers = outcome_of o
told_of Round o answers = outcome_of o
told_of Seal o answers = outcome_of o
told_of (Place tip) o answers = outcome_of o
told_of (Tips tips) o answers = listed_of (length tips.now) o answers
told_of Wipe o answers = outcome_of o

-- how many entries a turn fills
abbrev pub where_granted : ℕ → Outcome → ℕ
where_granted n Granted = n
where_granted n (Answered f) = 0
where_granted n (Refused e) = 0

abbrev pub filled : {K : Type 0} → Turn K → Outcome → ℕ
filled (Load file) o = 0
filled Check o = 0
filled Cut o = 0
filled Round o = 0
filled Seal o = 0
filled (Place tip) o = 0
filled (Tips tips) o = where_granted (length tips.now) o
filled Wipe o = 0

-- how many entries all turns fill
abbrev pub all_filled : {K : Type 0} → List (Turn K) → List Outcome → ℕ
all_filled [] os = 0
all_filled (t ∷ ts) [] = 0
all_filled (t ∷ ts) (o ∷ os) = filled t o + all_filled ts os

-- the history that turns make upon another: of each turn with its outcome, as long as there is one. Each list fills the table of answers
-- behind the list before it.
unfoldable pub history_on : {K : Type 0} → (K → Option Spot) → History → List (Result Found Refusal) → List (Turn K) → List Outcome → History
history_on means h answers [] os = h
history_on means h answers (t ∷ ts) [] = h
history_on means h answers (t ∷ ts) (o ∷ os) =
    history_on means (event (turn_of means (length answers) t) (told_of t o answers) ∷ h) (drop (filled t o) answers) ts os

abbrev pub history : {K : Type 0} → (K → Option Spot) → List (Turn K) → List Outcome → List (Result Found Refusal) → History
history means turns outcomes answers = history_on means [] answers turns outcomes
