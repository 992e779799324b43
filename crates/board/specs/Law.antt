-- The law over histories: what was answered under a seal is right, whatever came before and was refused on the way. It speaks of what was
-- done and told alone.
use Rattle.std.specs.Prelude.{◌≡◌, ℕ, ◌+◌, ◌*◌, ◌≤◌, ◌⊎◌, Bool, true, false, cond, List, [], ◌∷◌, length, take, pos, IfOk, Some, None, Option, Ok, Result}
use Rattle.std.specs.List.{slice_get}
use Rattle.std.specs.Result.{result_ok}
use Rattle.plane.specs.declared.Point.{Point}
use Rattle.plane.specs.Kernels.{Scaled}
use Rattle.plane.specs.Points.{Spot, is_on_sheet}
use Rattle.refusal.specs.declared.Refusal.{Refusal}
use Rattle.nodes.specs.declared.node.Node.{Node}
use Rattle.sheet.specs.Load.{sheet_of}
use Rattle.sheet.specs.Sheets.{Sheet, points_of, size_of}
use Rattle.tiling.specs.Cells.{Cell, cell_holds}
use Rattle.rules.specs.Planes.{plane_of}
use Rattle.hierarchy.specs.Falls.{digits}
use Rattle.hierarchy.specs.Layers.{Layers}
use Rattle.placing.specs.Placings.{Names}
use Rattle.walk.specs.declared.Found.{Found}
use Rattle.walk.specs.Walks.{find_said}
use Rattle.board.specs.declared.stage.Board.{Board}
use Rattle.board.specs.Histories.{Event, History, Runs, State, Told, Turn}
use Rattle.board.specs.Histories.Told.{answered, granted, listed, refused}
use Rattle.board.specs.Histories.Turn.{check, cut, list, load, place, round, seal, wipe}
use Rattle.board.specs.Turns.{bare}

abbrev pub is_granted : Told → Bool
is_granted granted = true
is_granted (answered f) = true
is_granted (listed es) = true
is_granted (refused e) = false

-- ---- which sheet, how many rounds, which seal

-- the sheet that a granted turn leaves loaded
abbrev pub sheet_then : Turn → Option Sheet → Option Sheet
sheet_then (load file) before = result_ok (sheet_of file)
sheet_then check before = before
sheet_then cut before = before
sheet_then round before = before
sheet_then seal before = before
sheet_then (place tip) before = before
sheet_then (list tips room) before = before
sheet_then wipe before = before

-- the sheet of the last granted load
abbrev pub last_sheet : History → Option Sheet
last_sheet [] = None
last_sheet (e ∷ h) = cond (is_granted e.told) (sheet_then e.turn (last_sheet h)) (last_sheet h)

abbrev pub rounds_then : Turn → ℕ → ℕ
rounds_then (load file) before = before
rounds_then check before = before
rounds_then cut before = 0
rounds_then round before = before + 1
rounds_then seal before = before
rounds_then (place tip) before = before
rounds_then (list tips room) before = before
rounds_then wipe before = before

-- the granted rounds since the last granted cut
abbrev pub rounds_since : History → ℕ
rounds_since [] = 0
rounds_since (e ∷ h) = cond (is_granted e.told) (rounds_then e.turn (rounds_since h)) (rounds_since h)

-- a seal: how many turns were made before it, its sheet, and its rounds
pub record Seal : Type 0 where
  pub at : ℕ
  pub sheet : Option Sheet
  pub rounds : ℕ

-- the seal of a seal turn that is made after this history
abbrev pub seal_of : History → Seal
seal_of h = record { at = length h; sheet = last_sheet h; rounds = rounds_since h }

abbrev pub seal_then : Turn → History → Option Seal → Option Seal
seal_then (load file) h before = before
seal_then check h before = before
seal_then cut h before = before
seal_then round h before = before
seal_then seal h before = Some (seal_of h)
seal_then (place tip) h before = before
seal_then (list tips room) h before = before
seal_then wipe h before = None

-- the seal that stands after a history: that of a granted seal turn, until the next wipe
abbrev pub standing : History → Option Seal
standing [] = None
standing (e ∷ h) = cond (is_granted e.told) (seal_then e.turn h (standing h)) (standing h)

-- the seal was made in this history: by its last turn, or before
abbrev pub IsSealOf : History → Seal → Type 0
IsSealOf [] x = ⊥
IsSealOf (e ∷ h) x = ((is_granted e.told ≡ true) × (e.turn ≡ seal) × (x ≡ seal_of h)) ⊎ IsSealOf h x

-- ---- which answers

-- the tips of a turn, and an entry for each that was handed out
abbrev pub tips_of : Turn → List (Option Spot)
tips_of (load file) = []
tips_of check = []
tips_of cut = []
tips_of round = []
tips_of seal = []
tips_of (place tip) = tip ∷ []
tips_of (list tips room) = tips
tips_of wipe = []

abbrev pub entries_of : Told → List (Result Found Refusal)
entries_of granted = []
entries_of (answered f) = Ok f ∷ []
entries_of (listed es) = es
entries_of (refused e) = []

-- the event hands out this answer to this tip; the entry of a refused tip is no answer
abbrev pub Given : Event → Option Spot → Found → Type 0
Given e tip f = (j : ℕ) × (slice_get (tips_of e.turn) j ≡ Some tip) × (slice_get (entries_of e.told) j ≡ Some (Ok f))

-- it was handed out in this history while that seal stood: by its last turn, or before
abbrev pub Handed : History → Option Spot → Found → Option Seal → Type 0
Handed [] tip f x = ⊥
Handed (e ∷ h) tip f x = (Given e tip f × (x ≡ standing h)) ⊎ Handed h tip f x

-- ---- the law

-- the walk over the sheet's hierarchy after so many rounds, from its live nodes, finds this for the point
abbrev pub WalkFinds : Sheet → ℕ → Spot → Found → Type 0
WalkFinds s rounds p f =
    (nodes : List Node) × (live : List ℕ) × (made : List ℕ) × Layers s nodes live made rounds
    × (find_said (size_of s) (Some p) (points_of s) nodes live ≡ Ok f)

-- an answer to a tip is right under a seal: it names the one cell of the seal's sheet that holds the tip, and the tests beside it are those
-- of the walk, at most 24 for each of the seal's rounds, and 6
pub record Right (x : Seal) (tip : Option Spot) (f : Found) : Type 0 where
  pub sheet : Sheet
  pub sealed : x.sheet ≡ Some sheet
  pub point : Spot
  pub meant : tip ≡ Some point
  pub names : Names sheet point f
  pub walk : WalkFinds sheet x.rounds point f
  pub few : f.tests ≤ 24 * x.rounds + 6

-- one cell of the seal's sheet holds both tips
abbrev pub OneCell : Seal → Option Spot → Option Spot → Type 0
OneCell x t u =
    (s : Sheet) × (p : Spot) × (q : Spot) × (c : Cell) × (x.sheet ≡ Some s) × (t ≡ Some p) × (u ≡ Some q)
    × (cell_holds (plane_of s) c p ≡ true) × (cell_holds (plane_of s) c q ≡ true)

-- the tips that an event takes: that of a place, whatever is told of it, and those of a list that is granted
abbrev pub taken_by : Turn → Told → List (Option Spot)
taken_by (load file) o = []
taken_by check o = []
taken_by cut o = []
taken_by round o = []
taken_by seal o = []
taken_by (place tip) o = tip ∷ []
taken_by (list tips room) o = cond (is_granted o) tips []
taken_by wipe o = []

-- while this seal stands, every fit tip on its sheet that the event takes is answered
abbrev pub Serves : Option Seal → Event → Type 0
Serves stands e =
    (x : Seal) (s : Sheet) → stands ≡ Some x → x.sheet ≡ Some s → (j : ℕ) (p : Spot) → slice_get (taken_by e.turn e.told) j ≡ Some (Some p)
    → is_on_sheet (pos s.width) (pos s.height) p ≡ true → (f : Found) × (slice_get (entries_of e.told) j ≡ Some (Ok f))

-- so it is of each event of a history
abbrev pub Served : History → Type 0
Served [] = Unit {0}
Served (e ∷ h) = Serves (standing h) e × Served h

-- each follows from the other
abbrev pub Exactly : Type 0 → Type 0 → Type 0
Exactly P Q = (P → Q) × (Q → P)

pub record Law (h : History) : Type 0 where
  -- every answer was handed out under a seal, and is right
  pub answers : (tip : Option Spot) (f : Found) (o : Option Seal) → Handed h tip f o → (x : Seal) × (o ≡ Some x) × Right x tip f
  -- two answers under one seal are equal exactly where one cell of its sheet holds both tips
  pub equal : (t u : Option Spot) (f g : Found) (x y : Seal) → Handed h t f (Some x) → Handed h u g (Some y) → x.at ≡ y.at
      → Exactly (f.answer ≡ g.answer) (OneCell x t u)
  -- while a seal stands, every fit tip on its sheet that a place takes or a granted list holds is answered
  pub served : Served h
  -- a seal's rounds are few, by its sheet's count of inner vertices
  pub rounds : (x : Seal) → IsSealOf h x → (s : Sheet) × (x.sheet ≡ Some s) × (x.rounds ≤ 13 * digits (length s.inner))

-- the theorem: so it is of every history that begins with an empty Draft, over tables and a store of any size and content
abbrev pub LawOfHistories : Type 0
LawOfHistories = (begin s : State) (h : History) → begin.board ≡ bare → Runs begin h s → Law h

-- a history that led to this board, these points and live numbers, and these nodes
pub record Led (b : Board) (ps : List Point) (live : List ℕ) (nodes : List Node) : Type 0 where
  pub begin : State
  pub empty : begin.board ≡ bare
  pub history : History
  pub state : State
  pub run : Runs begin history state
  pub board : state.board ≡ b
  pub points : state.points ≡ ps
  pub numbers : state.live ≡ live
  pub held : state.nodes ≡ nodes

-- among the entries for these tips, this one answers this tip
abbrev pub Entered : List (Option Spot) → List (Result Found Refusal) → Option Spot → Found → Type 0
Entered tips entries tip f = (j : ℕ) × (slice_get tips j ≡ Some tip) × Scaled tip × (slice_get entries j ≡ Some (Ok f))

-- the law of a turn that is made next: whatever history led here, each answer that is handed out now is right under the seal that stands, and it
-- equals another one under that seal, of this turn or an earlier one, exactly where one cell holds both tips
unfoldable pub RightNext : Board → List Point → (live : List ℕ) → List Node → List (Option Spot) → List (Result Found Refusal) → Type 0
RightNext b ps live nodes tips entries =
    (l : Led b ps live nodes) (tip : Option Spot) (f : Found) → Entered tips entries tip f
    → (x : Seal) × (standing l.history ≡ Some x) × Right x tip f
    × ((u : Option Spot) (g : Found) → Handed l.history u g (Some x) ⊎ Entered tips entries u g → Exactly (f.answer ≡ g.answer) (OneCell x tip u))

-- so of a list that is granted: its entries stand in the front of its table
unfoldable pub ListRight : Board → List Point → (live : List ℕ) → List Node → List (Option Spot) → (answers : List (Result Found Refusal))
    → Result (Unit {0}) Refusal → Type 0
ListRight b ps live nodes tips answers said = IfOk said (λ _. RightNext b ps live nodes tips (take (length tips) answers))

-- and of a seal: whatever history led here, where it is granted its rounds are few, by its sheet's count of inner vertices
unfoldable pub SealFew : Board → (live : List ℕ) → List Node → Result (Unit {0}) Refusal → Type 0
SealFew b live nodes said =
    IfOk said (λ _. (ps : List Point) (l : Led b ps live nodes) → (s : Sheet) × (last_sheet l.history ≡ Some s) × (rounds_since l.history ≡ b.rounds) × (b.rounds ≤ 13 * digits (length s.inner)))
