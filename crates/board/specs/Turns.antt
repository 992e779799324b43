-- What each turn answers, and what it leaves of the board.
use Rattle.std.specs.Prelude.{◌≡◌, ℕ, ◌+◌, ◌==◌, min, take, Bool, true, false, not, cond, List, length, Ok, Err, Option, Result, nat_le}
use Rattle.refusal.specs.declared.Cause.TheVariants.{NotThisStage, TableTooShort}
use Rattle.refusal.specs.declared.Layer.TheVariants.{Build, Check, File, Place}
use Rattle.refusal.specs.declared.Refusal.{Refusal}
use Rattle.refusal.specs.Numbers.{refused}
use Rattle.plane.specs.declared.Point.{Point}
use Rattle.plane.specs.declared.Edge.{Edge}
use Rattle.sheet.specs.declared.tables.Loop.{Loop}
use Rattle.sheet.specs.declared.tables.Size.{Size}
use Rattle.sheet.specs.Load.{roomy, sheet_of}
use Rattle.sheet.specs.Sheets.{Sheet, size_of, sizes}
use Rattle.lent.specs.Kept.{over}
use Rattle.bottom.specs.Cuts.{build_room, cut_said}
use Rattle.nodes.specs.declared.node.Node.{Node}
use Rattle.placing.specs.Placings.{list_said, place_said}
use Rattle.plane.specs.Points.{Spot}
use Rattle.walk.specs.declared.Found.{Found}
use Rattle.rounds.specs.Rounds.{Rounded, round_said}
use Rattle.sealing.specs.Seals.{seal_said}
use Rattle.checking.specs.Checks.{check_room, check_said, passes}
use Rattle.checking.specs.Held.{Holds}
use Rattle.rules.specs.Rules.{first_broken}
use Rattle.board.specs.declared.stage.Board.{Board}
use Rattle.board.specs.declared.stage.Stage.{Stage}
use Rattle.board.specs.declared.stage.Stage.TheVariants.{Draft, Checked, Layered, Sealed}

-- a board at a stage, with so many live nodes, and so many rounds since the cut
abbrev pub board : Stage → Size → (live rounds : ℕ) → Board
board stage size live rounds = record { stage = stage; size = size; live = live; rounds = rounds }

-- an empty Draft
abbrev pub bare : Board
bare = board Draft (sizes 0 0 0 0 0) 0 0

abbrev pub is_draft : Stage → Bool
is_draft Draft = true
is_draft Checked = false
is_draft Layered = false
is_draft Sealed = false

abbrev pub is_layered : Stage → Bool
is_layered Draft = false
is_layered Checked = false
is_layered Layered = true
is_layered Sealed = false

abbrev pub is_checked : Stage → Bool
is_checked Draft = false
is_checked Checked = true
is_checked Layered = false
is_checked Sealed = false

abbrev pub is_sealed : Stage → Bool
is_sealed Draft = false
is_sealed Checked = false
is_sealed Layered = false
is_sealed Sealed = true

-- the sheet that a load takes, or why it is refused: first a table that is too short, then the stage, then the file
abbrev pub loads : Board → List Point → List Edge → List Loop → List ℕ → List ℕ → Result Sheet Refusal
loads b points edges loops live file =
    cond (build_room (length points) (length edges) (length loops) (length live))
    (cond (is_draft b.stage) (sheet_of file) (Err (refused NotThisStage File 0)))
    (Err (refused TableTooShort File 0))

-- a Draft with that sheet and no live nodes; a refused load leaves the board as it is
abbrev pub load_board : Result Sheet Refusal → Board → Board
load_board (Ok s) b = board Draft (size_of s) 0 0
load_board (Err e) b = b

-- the board has a Draft that is not empty
abbrev pub is_loaded : Board → Bool
is_loaded b = cond (is_draft b.stage) (not (b.size.width == 0)) false

-- what a check answers: first a table that is too short, then another stage or an empty Draft, then a wrong entry of the tables, and then
-- the first rule that is broken by the sheet that they hold
abbrev pub checks : Board → List Point → List Edge → List Loop → ℕ → Result (Unit {0}) Refusal
checks b points edges loops strokes =
    cond (check_room (length points) (length edges) (length loops) strokes)
    (cond (is_loaded b) (check_said b.size points edges loops) (Err (refused NotThisStage Check 0)))
    (Err (refused TableTooShort Check 0))

-- the sheet is Checked; a refused check leaves the board as it is
abbrev pub check_board : Result (Unit {0}) Refusal → Board → Board
check_board (Ok x) b = board Checked b.size b.live b.rounds
check_board (Err e) b = b

-- the theorem: the check of a Draft whose sheet the tables hold passes exactly where the sheet keeps the eight rules, and tells the first
-- that it breaks
unfoldable pub SheetPasses : Board → List Point → List Edge → List Loop → ℕ → Result (Unit {0}) Refusal → Type 0
SheetPasses b points edges loops strokes said =
    (s : Sheet) → Holds b.size points edges loops s → is_loaded b ≡ true → check_room (length points) (length edges) (length loops) strokes ≡ true
    → said ≡ passes (first_broken s)

-- the nodes that a cut makes, or why not: first a table that is too short, then another stage, then what the tables hold
abbrev pub cuts : Board → List Point → List Edge → List Loop → (live room : ℕ) → Result (List Node) Refusal
cuts b points edges loops live room =
    cond (build_room (length points) (length edges) (length loops) live)
    (cond (is_checked b.stage) (cut_said b.size points edges loops room) (Err (refused NotThisStage Build 0)))
    (Err (refused TableTooShort Build 0))

-- the sheet is Layered, and all its nodes are live; a refused cut leaves the board as it is
abbrev pub cut_board : Result (List Node) Refusal → Board → Board
cut_board (Ok ns) b = board Layered b.size (length ns) 0
cut_board (Err e) b = b

-- the tables that a round and a place are lent have their least sizes: 1,028 points and 2,050 live numbers; a seal is lent the latter
abbrev pub round_room : (points live : ℕ) → Bool
round_room points live = cond (nat_le 1028 points) (nat_le 2050 live) false

-- the live numbers, in the front of their table
abbrev pub live_of : Board → List ℕ → List ℕ
live_of b live = take b.live live

-- the points of the sheet, in the front of their table
abbrev pub points_in : Board → List Point → List Point
points_in b points = take (b.size.inner + 4) points

-- what a round makes, or why not: first a table that is too short, then another stage, then what tables and store hold
abbrev pub rounds : Board → List Point → List ℕ → List Node → (room : ℕ) → Result Rounded Refusal
rounds b points live nodes room =
    cond (round_room (length points) (length live))
    (cond (is_layered b.stage) (round_said b.size (points_in b points) nodes (live_of b live) b.rounds room (length live)) (Err (refused NotThisStage Build 0)))
    (Err (refused TableTooShort Build 0))

-- one round more, and other live nodes; a refused round leaves the board as it is. Both numbers have sixteen bits, which is enough for
-- every sheet.
abbrev pub round_board : Result Rounded Refusal → Board → Board
round_board (Ok r) b = board Layered b.size (min 65535 (length r.live)) (min 65535 (b.rounds + 1))
round_board (Err e) b = b

-- what a seal answers
abbrev pub seals : Board → List ℕ → List Node → Result (Unit {0}) Refusal
seals b live nodes =
    cond (nat_le 2050 (length live))
    (cond (is_layered b.stage) (seal_said b.size.inner nodes (live_of b live)) (Err (refused NotThisStage Build 0)))
    (Err (refused TableTooShort Build 0))

-- the sheet is Sealed; a refused seal leaves the board as it is
abbrev pub seal_board : Result (Unit {0}) Refusal → Board → Board
seal_board (Ok x) b = board Sealed b.size b.live b.rounds
seal_board (Err e) b = b

-- what is answered to a tip that means this point, or none where it is not fit; a place changes nothing
abbrev pub places : Board → List Point → List ℕ → List Node → Option Spot → Result Found Refusal
places b points live nodes tip =
    cond (round_room (length points) (length live))
    (cond (is_sealed b.stage) (place_said b.size tip 0 (points_in b points) nodes (live_of b live)) (Err (refused NotThisStage Place 0)))
    (Err (refused TableTooShort Place 0))

-- the entries that a list writes: an answer or a refusal for each tip, of which there are no more than the table has entries
abbrev pub lists : Board → List Point → List ℕ → List Node → List (Option Spot) → (room : ℕ) → Result (List (Result Found Refusal)) Refusal
lists b points live nodes tips room =
    cond (cond (nat_le (length tips) room) (round_room (length points) (length live)) false)
    (cond (is_sealed b.stage) (Ok (list_said b.size 0 (points_in b points) nodes (live_of b live) tips)) (Err (refused NotThisStage Place 0)))
    (Err (refused TableTooShort Place 0))

-- they stand in the front of the table; a list changes nothing else
abbrev pub list_answers : Result (List (Result Found Refusal)) Refusal → List (Result Found Refusal) → List (Result Found Refusal)
list_answers (Ok es) answers = over es answers
list_answers (Err e) answers = answers
