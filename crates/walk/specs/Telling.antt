-- What a walk over the nodes of a checked sheet tells.
use Rattle.std.specs.Prelude.{◌≡◌, ℕ, ◌+◌, ◌*◌, ◌≤◌, true, List, length, pos, ◌<ℤ◌, Some, Ok}
use Rattle.plane.specs.Points.{Spot, is_on_sheet}
use Rattle.nodes.specs.declared.node.Node.{Node}
use Rattle.sheet.specs.declared.answer.Answer.{Answer}
use Rattle.sheet.specs.declared.answer.Answer.TheVariants.{Vertex, OpenEdge, Face}
use Rattle.sheet.specs.Sheets.{Sheet, points_of, size_of}
use Rattle.tiling.specs.Cells.{Cell, cell_holds, vertex, open_edge, face}
use Rattle.rules.specs.Planes.{plane_of}
use Rattle.hierarchy.specs.Theorems.{Made}
use Rattle.walk.specs.declared.Found.{Found}
use Rattle.walk.specs.Walks.{find_said}

-- the cell that an answer names
abbrev pub cell_of : Answer → Cell
cell_of (Vertex v) = vertex v
cell_of (OpenEdge u v) = open_edge u v
cell_of (Face l) = face l

-- the theorem: of nodes that cuts and rounds made of a checked sheet, the walk from the live ones tells of every point of the sheet the one
-- cell that holds it, with no more tests than 24 for each round, and 3 for each live node
abbrev pub WalkTells : Type 0
WalkTells =
    (s : Sheet) (nodes : List Node) (live made : List ℕ) (rounds : ℕ) → Made s nodes live made rounds → length live ≤ 65535
    → (p : Spot) → pos 0 <ℤ p.Z → is_on_sheet (pos s.width) (pos s.height) p ≡ true
    → (f : Found) × (find_said (size_of s) (Some p) (points_of s) nodes live ≡ Ok f)
    × (cell_holds (plane_of s) (cell_of f.answer) p ≡ true)
    × ((c : Cell) → cell_holds (plane_of s) c p ≡ true → c ≡ cell_of f.answer)
    × (f.tests ≤ 24 * rounds + 3 * length live)
