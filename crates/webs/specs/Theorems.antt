-- What holds of every layer of a checked sheet, so that a turn over it finds no number outside its range.
use Rattle.std.specs.Prelude.{◌≡◌, ℕ, zero, suc, ◌+◌, ◌*◌, ◌<◌, ◌≤◌, List, length, Some, None, Ok, Err, Result}
use Rattle.plane.specs.declared.Point.{Point}
use Rattle.plane.specs.declared.Edge.{Edge}
use Rattle.plane.specs.Points.{place_of}
use Rattle.refusal.specs.declared.Cause.{Cause}
use Rattle.refusal.specs.declared.Cause.TheVariants.{OutOfRange, StoreFull, VerticesLeft}
use Rattle.refusal.specs.declared.Layer.TheVariants.{Build}
use Rattle.refusal.specs.declared.Refusal.{Refusal}
use Rattle.refusal.specs.Numbers.{refused}
use Rattle.nodes.specs.declared.node.Node.{Node}
use Rattle.fans.specs.declared.around.Turned.{Turned}
use Rattle.fans.specs.Around.{around, degree, left_from}
use Rattle.fans.specs.Fans.{fan_of}
use Rattle.sheet.specs.declared.tables.Loop.{Loop}
use Rattle.sheet.specs.declared.tables.Size.{Size}
use Rattle.sheet.specs.Sheets.{Sheet, points_of, size_of}
use Rattle.rules.specs.Rules.{first_broken}
use Rattle.checking.specs.Held.{Holds}
use Rattle.bottom.specs.Cuts.{bottom_count, cut_said}
use Rattle.rounds.specs.Choices.{Found, look_all}
use Rattle.rounds.specs.Rounds.{most_nodes, round_said, wrong_number}
use Rattle.sealing.specs.Seals.{seal_said}
use Rattle.hierarchy.specs.Theorems.{Made}

-- the fan of every inner vertex that is left comes round to where it began
abbrev pub FansClose : Type 0
FansClose =
    (s : Sheet) (nodes : List Node) (live made : List ℕ) (rounds : ℕ) → Made s nodes live made rounds
    → (v : ℕ) → 4 ≤ v → 0 < degree nodes live v → (fan : List Turned) × (fan_of (around nodes live v) ≡ Some fan)

-- so a round finds no fan that is broken
abbrev pub NoFanIsBroken : Type 0
NoFanIsBroken =
    (s : Sheet) (nodes : List Node) (live made : List ℕ) (rounds : ℕ) → Made s nodes live made rounds
    → (f : Found) × (look_all (place_of (points_of s)) nodes live (length s.inner) ≡ Ok f)

-- the live nodes are two more than twice the vertices left; and all nodes, with six more for each of these, are no more than a sheet can have
abbrev pub LayersAreCounted : Type 0
LayersAreCounted =
    (s : Sheet) (nodes : List Node) (live made : List ℕ) (rounds : ℕ) → Made s nodes live made rounds
    → (length live ≡ 2 * left_from nodes live (length s.inner) 4 + 2)
    × (length nodes + 6 * left_from nodes live (length s.inner) 4 ≤ most_nodes (length s.inner))

-- no number of its points and of its nodes is outside its range
abbrev pub NoNumberIsWrong : Type 0
NoNumberIsWrong =
    (s : Sheet) (nodes : List Node) (live made : List ℕ) (rounds : ℕ) → Made s nodes live made rounds
    → wrong_number (size_of s) (points_of s) nodes live ≡ None

-- ---- what the turns tell

-- it is not refused for this cause, whatever the layer and the place
abbrev pub Never : {X : Type 0} → Cause → Result X Refusal → Type 0
Never cause said = (e : Refusal) → said ≡ Err e → e.cause ≡ cause → ⊥

-- a turn that makes nodes finds no number outside its range, and no store too small where that has room for so many nodes
pub record Unhindered {X : Type 0} (enough room : ℕ) (said : Result X Refusal) : Type 0 where
  pub in_range : Never OutOfRange said
  pub not_full : enough ≤ room → Never StoreFull said

-- a cut of tables that hold a checked sheet, with a store for its bottom nodes
unfoldable pub CutIsUnhindered : Type 0
CutIsUnhindered =
    (z : Size) (ps : List Point) (es : List Edge) (ls : List Loop) (room : ℕ) (s : Sheet) → Holds z ps es ls s → first_broken s ≡ None
    → Unhindered (bottom_count (length s.inner)) room (cut_said z ps es ls room)

-- a round over one of its layers, with a live table that is long enough, and a store for as many nodes as the sheet can have
unfoldable pub RoundIsUnhindered : Type 0
RoundIsUnhindered =
    (s : Sheet) (nodes : List Node) (live made : List ℕ) (r : ℕ) → Made s nodes live made r
    → (rounds room table : ℕ) → 2050 ≤ table
    → Unhindered (most_nodes (length s.inner)) room (round_said (size_of s) (points_of s) nodes live rounds room table)

-- refused while a vertex is left, with how many there are, and else granted
abbrev pub left_told : ℕ → Result (Unit {0}) Refusal
left_told zero = Ok tt
left_told (suc n) = Err (refused VerticesLeft Build (suc n))

-- a seal of one of its layers
abbrev pub SealTellsLeft : Type 0
SealTellsLeft =
    (s : Sheet) (nodes : List Node) (live made : List ℕ) (rounds : ℕ) → Made s nodes live made rounds
    → seal_said (length s.inner) nodes live ≡ left_told (left_from nodes live (length s.inner) 4)
