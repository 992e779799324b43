-- What the turns tell where nobody altered a table or the store: that a number is outside its range (27) is never told.
use Rattle.std.specs.Prelude.{◌≡◌, ℕ, ◌≤◌, true, List, length, Result}
use Rattle.std.specs.List.{All}
use Rattle.plane.specs.declared.Point.{Point}
use Rattle.plane.specs.declared.Edge.{Edge}
use Rattle.plane.specs.Edges.{In}
use Rattle.refusal.specs.declared.Cause.TheVariants.{OutOfRange}
use Rattle.refusal.specs.declared.Refusal.{Refusal}
use Rattle.nodes.specs.declared.node.Node.{Node}
use Rattle.fans.specs.Around.{left_from}
use Rattle.sheet.specs.declared.tables.Loop.{Loop}
use Rattle.sheet.specs.Sheets.{Sheet}
use Rattle.bottom.specs.Cuts.{bottom_count}
use Rattle.rounds.specs.Rounds.{most_nodes}
use Rattle.webs.specs.Theorems.{Never, Unhindered, left_told}
use Rattle.walk.specs.declared.Found.{Found}
use Rattle.board.specs.declared.stage.Board.{Board}
use Rattle.board.specs.Histories.{Event, History, Runs, State, Told}
use Rattle.board.specs.Histories.Told.{answered, granted, listed, refused}
use Rattle.board.specs.Standing.{Stands}
use Rattle.board.specs.Turns.{bare, is_layered, live_of}

-- ---- a turn of a sheet that stands on the board, at whatever stage, and over tables of any lengths

-- the theorem: a cut tells no number outside its range, and no store too small that has room for the sheet's bottom nodes
unfoldable pub CutUnaltered : Board → List Point → List Edge → List Loop → (live : List ℕ) → List Node → (room : ℕ) → Result (Unit {0}) Refusal → Type 0
CutUnaltered b ps es ls live nodes room said = (s : Sheet) → Stands s b ps es ls live nodes → Unhindered (bottom_count (length s.inner)) room said

-- the theorem: nor does a round, of a store that has room for as many nodes as the sheet can have
unfoldable pub RoundUnaltered : Board → List Point → (live : List ℕ) → List Node → (room : ℕ) → Result (Unit {0}) Refusal → Type 0
RoundUnaltered b ps live nodes room said =
    (s : Sheet) (es : List Edge) (ls : List Loop) → Stands s b ps es ls live nodes → Unhindered (most_nodes (length s.inner)) room said

-- what a seal tells
pub record SealTold (s : Sheet) (b : Board) (live : List ℕ) (nodes : List Node) (said : Result (Unit {0}) Refusal) : Type 0 where
  pub in_range : Never OutOfRange said
  -- of a Layered sheet: refused while a vertex is left, with how many there are, and else granted
  pub left : is_layered b.stage ≡ true → 2050 ≤ length live → said ≡ left_told (left_from nodes (live_of b live) (length s.inner) 4)

-- the theorem: so a seal tells
unfoldable pub SealUnaltered : Board → (live : List ℕ) → List Node → Result (Unit {0}) Refusal → Type 0
SealUnaltered b live nodes said = (s : Sheet) (ps : List Point) (es : List Edge) (ls : List Loop) → Stands s b ps es ls live nodes → SealTold s b live nodes said

-- ---- whole histories

-- what is told is no number outside its range, nor is that an entry of a list
abbrev pub ToldInRange : Told → Type 0
ToldInRange granted = Unit {0}
ToldInRange (answered f) = Unit {0}
ToldInRange (listed entries) = All (λ (x : Result Found Refusal). Never OutOfRange x) entries
ToldInRange (refused e) = e.cause ≡ OutOfRange → ⊥

-- no turn of a history tells one
unfoldable pub AllInRange : History → Type 0
AllInRange h = (e : Event) → In e h → ToldInRange e.told

-- the theorem: so it is of every history that begins with an empty Draft, over tables and a store of any size and content; for only turns change
-- tables and store there
abbrev pub HistoriesAreInRange : Type 0
HistoriesAreInRange = (begin s : State) (h : History) → begin.board ≡ bare → Runs begin h s → AllInRange h
