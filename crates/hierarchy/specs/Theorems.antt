-- What is claimed of the nodes that cutting a checked sheet and rounds over it make.
use Rattle.std.specs.Prelude.{◌≡◌, ℕ, ◌+◌, ◌<◌, ◌≤◌, true, List, [], ◌∷◌, length, slice_index, pos, ◌<ℤ◌, None, Ok}
use Rattle.plane.specs.Crossings.{crossing_sum}
use Rattle.plane.specs.Edges.{In, sum_of}
use Rattle.plane.specs.Points.{Spot, is_on_sheet, place_of}
use Rattle.tiling.specs.Order.{Triangulated}
use Rattle.tiling.specs.Triangles.{Leftward, closed_holds, corners, turns}
use Rattle.nodes.specs.declared.node.Node.{Node}
use Rattle.sheet.specs.Legal.{LegalSheet}
use Rattle.sheet.specs.Sheets.{Sheet, edges_of, points_of}
use Rattle.rules.specs.Planes.{plane_of}
use Rattle.rules.specs.Rules.{first_broken}
use Rattle.bottom.specs.Bottom.{bottom_of, sides_number}
use Rattle.hierarchy.specs.Layers.{Layers, child, node_at, shape, triangle_of, triangles_of_loop}

-- nodes of a checked sheet, after so many rounds
pub record Made (s : Sheet) (nodes : List Node) (live made : List ℕ) (rounds : ℕ) : Type 0 where
  pub legal : LegalSheet s
  pub checked : first_broken s ≡ None
  pub layers : Layers s nodes live made rounds

-- numbers that ascend, the first of them at least `least`
abbrev pub Ascends : ℕ → List ℕ → Type 0
Ascends least [] = Unit {0}
Ascends least (k ∷ ks) = (least ≤ k) × Ascends (k + 1) ks

-- the live numbers ascend and are nodes, and the triangle of every node turns left
abbrev pub NodesTurnLeft : Type 0
NodesTurnLeft =
    (s : Sheet) (nodes : List Node) (live made : List ℕ) (rounds : ℕ) → Made s nodes live made rounds
    → Ascends 0 live
    × ((k : ℕ) → In k live → k < length nodes)
    × ((k : ℕ) → k < length nodes → Leftward (place_of (points_of s)) (triangle_of nodes k))

-- the corners of every node are vertices of the sheet
abbrev pub CornersAreVertices : Type 0
CornersAreVertices =
    (s : Sheet) (nodes : List Node) (live made : List ℕ) (rounds : ℕ) → Made s nodes live made rounds
    → (k : ℕ) → k < length nodes → (u : ℕ) → In u (corners (triangle_of nodes k)) → u < length s.inner + 4

-- the live nodes together count a point as often as the border of the sheet does
abbrev pub LiveCountsAsBorder : Type 0
LiveCountsAsBorder =
    (s : Sheet) (nodes : List Node) (live made : List ℕ) (rounds : ℕ) → Made s nodes live made rounds
    → (p : Spot) → pos 0 <ℤ p.Z
    → sum_of (λ k. turns (place_of (points_of s)) p (triangle_of nodes k)) live ≡ crossing_sum (place_of (points_of s)) (0 ∷ 1 ∷ 2 ∷ 3 ∷ []) p

-- some live node's closed triangle holds each point of the closed sheet
abbrev pub LiveCovers : Type 0
LiveCovers =
    (s : Sheet) (nodes : List Node) (live made : List ℕ) (rounds : ℕ) → Made s nodes live made rounds
    → (p : Spot) → pos 0 <ℤ p.Z → is_on_sheet (pos s.width) (pos s.height) p ≡ true
    → (k : ℕ) × In k live × (closed_holds (place_of (points_of s)) (triangle_of nodes k) p ≡ true)

-- what the closed triangle of a node with children holds, that of one of its children holds too
abbrev pub ChildrenCover : Type 0
ChildrenCover =
    (s : Sheet) (nodes : List Node) (live made : List ℕ) (rounds : ℕ) → Made s nodes live made rounds
    → (k : ℕ) → k < length nodes → 0 < (node_at nodes k).count
    → (p : Spot) → pos 0 <ℤ p.Z → closed_holds (place_of (points_of s)) (triangle_of nodes k) p ≡ true
    → (i : ℕ) × (i < (node_at nodes k).count) × (closed_holds (place_of (points_of s)) (triangle_of nodes (child (node_at nodes k) i)) p ≡ true)

-- a node has at most eight children, each of a lower number and made in an earlier round; no node is made after the last round
abbrev pub ChildrenAreEarlier : Type 0
ChildrenAreEarlier =
    (s : Sheet) (nodes : List Node) (live made : List ℕ) (rounds : ℕ) → Made s nodes live made rounds
    → (length made ≡ length nodes)
    × ((k : ℕ) → k < length nodes
    → (slice_index made k ≤ rounds)
    × ((node_at nodes k).count ≤ 8)
    × ((i : ℕ) → i < (node_at nodes k).count
    → (child (node_at nodes k) i < k) × (slice_index made (child (node_at nodes k) i) < slice_index made k)))

-- a node of the bottom: its triangle is one of the cut of its loop, and its sides number tells which of its sides are edges of the sheet
pub record BottomNode (s : Sheet) (n : Node) : Type 0 where
  pub ring : n.ring < length s.rings
  pub cut : In (shape n) (triangles_of_loop s n.ring)
  pub sides : n.sides ≡ sides_number (edges_of s) (shape n)
  pub childless : n.count ≡ 0

-- the nodes of the bottom come first, and they alone have no children
abbrev pub ChildlessIsBottom : Type 0
ChildlessIsBottom =
    (s : Sheet) (ns : List Node) → bottom_of s ≡ Ok ns
    → (nodes : List Node) (live made : List ℕ) (rounds : ℕ) → Made s nodes live made rounds
    → (length ns ≤ length nodes)
    × ((k : ℕ) → k < length ns → (node_at nodes k ≡ node_at ns k) × BottomNode s (node_at nodes k))
    × ((k : ℕ) → k < length nodes → (node_at nodes k).count ≡ 0 → k < length ns)

-- where all loops are cut, their triangles are cuts of them, and turn left
abbrev pub BottomIsCut : Type 0
BottomIsCut = (s : Sheet) (ns : List Node) → bottom_of s ≡ Ok ns → Triangulated (plane_of s) (triangles_of_loop s)
