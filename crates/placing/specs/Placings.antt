-- What is answered to a tip of a sealed sheet.
use Rattle.std.specs.Prelude.{◌≡◌, ℕ, ◌+◌, ◌≤◌, cond, true, List, [], ◌∷◌, length, pos, ◌<ℤ◌, is_some, Some, Option, Ok, Err, Result}
use Rattle.plane.specs.declared.Point.{Point}
use Rattle.plane.specs.Kernels.{is_sheet_size, on_sheet_said}
use Rattle.plane.specs.Points.{Spot, is_on_sheet}
use Rattle.refusal.specs.declared.Cause.TheVariants.{OffSheet, OutOfRange, UnfitTip}
use Rattle.refusal.specs.declared.Layer.TheVariants.{Place}
use Rattle.refusal.specs.declared.Refusal.{Refusal}
use Rattle.refusal.specs.Numbers.{refused}
use Rattle.nodes.specs.declared.node.Node.{Node}
use Rattle.sheet.specs.declared.tables.Size.{Size}
use Rattle.sheet.specs.Sheets.{Sheet, points_of, size_of}
use Rattle.tiling.specs.Cells.{Cell, cell_holds}
use Rattle.rules.specs.Planes.{plane_of}
use Rattle.hierarchy.specs.Theorems.{Made}
use Rattle.walk.specs.declared.Found.{Found}
use Rattle.walk.specs.Telling.{cell_of}
use Rattle.walk.specs.Walks.{find_said}

-- a walk that failed is told as a number outside its range
abbrev pub or_wrong : Result Found ℕ → Result Found Refusal
or_wrong (Ok f) = Ok f
or_wrong (Err k) = Err (refused OutOfRange Place k)

-- the answer to the tip at this position, over the points of a sheet of this size and its nodes, of which some are the top ones: first a tip
-- that is not fit; then, at 0, a size that no sheet has, of which nothing can be asked; then a tip off the sheet, and what the walk finds
unfoldable pub place_said : Size → (tip : Option Spot) → (position : ℕ) → List Point → List Node → (tops : List ℕ) → Result Found Refusal
place_said z tip position points nodes tops =
    cond (is_some tip)
    (cond (is_sheet_size z.width z.height)
    (cond (on_sheet_said tip z.width z.height) (or_wrong (find_said z tip points nodes tops)) (Err (refused OffSheet Place position)))
    (Err (refused OutOfRange Place 0)))
    (Err (refused UnfitTip Place position))

-- the answers to tips from a position on, one after another
abbrev pub list_said : Size → (position : ℕ) → List Point → List Node → (tops : List ℕ) → List (Option Spot) → List (Result Found Refusal)
list_said z position points nodes tops [] = []
list_said z position points nodes tops (tip ∷ tips) = place_said z tip position points nodes tops ∷ list_said z (position + 1) points nodes tops tips

-- an answer that names the one cell of the sheet that holds the point
pub record Names (s : Sheet) (p : Spot) (f : Found) : Type 0 where
  pub holds : cell_holds (plane_of s) (cell_of f.answer) p ≡ true
  pub alone : (c : Cell) → cell_holds (plane_of s) c p ≡ true → c ≡ cell_of f.answer

-- every tip on the sheet is answered, by the one cell that holds it
abbrev pub Answered : Sheet → Option Spot → Result Found Refusal → Type 0
Answered s tip said =
    (p : Spot) → tip ≡ Some p → pos 0 <ℤ p.Z → is_on_sheet (pos s.width) (pos s.height) p ≡ true → (f : Found) × (said ≡ Ok f) × Names s p f

-- the theorem: so it is over the points of a checked sheet, and over nodes that cuts and rounds made of it
abbrev pub PlaceTells : Type 0
PlaceTells =
    (s : Sheet) (nodes : List Node) (live made : List ℕ) (rounds : ℕ) → Made s nodes live made rounds → length live ≤ 65535
    → (tip : Option Spot) (position : ℕ) → Answered s tip (place_said (size_of s) tip position (points_of s) nodes live)
