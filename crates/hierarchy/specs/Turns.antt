-- What the turns make is the hierarchy of the sheet.
use Rattle.std.specs.Prelude.{◌≡◌, ℕ, ◌+◌, List, length, replicate, Ok}
use Rattle.std.specs.List.{range_with_len}
use Rattle.plane.specs.declared.Point.{Point}
use Rattle.plane.specs.declared.Edge.{Edge}
use Rattle.nodes.specs.declared.node.Node.{Node}
use Rattle.sheet.specs.declared.tables.Loop.{Loop}
use Rattle.sheet.specs.declared.tables.Size.{Size}
use Rattle.sheet.specs.Sheets.{Sheet, points_of}
use Rattle.checking.specs.Held.{Holds}
use Rattle.bottom.specs.Cuts.{cut_said}
use Rattle.rounds.specs.Rounds.{Rounded, round_said}
use Rattle.hierarchy.specs.Layers.{Layers}

-- a granted cut of tables that hold a sheet makes its bottom, all of it live
abbrev pub CutMakes : Type 0
CutMakes =
    (z : Size) (ps : List Point) (es : List Edge) (ls : List Loop) (room : ℕ) (s : Sheet) (ns : List Node) → Holds z ps es ls s
    → cut_said z ps es ls room ≡ Ok ns → Layers s ns (range_with_len 0 (length ns)) (replicate (length ns) 0) 0

-- a granted round over its points, and over nodes that cuts and rounds made, makes the next ones
abbrev pub RoundMakes : Type 0
RoundMakes =
    (z : Size) (s : Sheet) (nodes : List Node) (live made : List ℕ) (r rounds room table : ℕ) (x : Rounded) → z.inner ≡ length s.inner
    → Layers s nodes live made r → round_said z (points_of s) nodes live rounds room table ≡ Ok x
    → (more : List ℕ) × Layers s x.nodes x.live more (r + 1)

-- the theorem: so the store and the live numbers of an unaltered sheet are those of its hierarchy, as it is defined of the sheet alone
abbrev pub TurnsMakeLayers : Type 0
TurnsMakeLayers = CutMakes × RoundMakes
