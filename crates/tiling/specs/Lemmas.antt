-- The lemmas below the theorems, each over any places and any numbers of vertices.
use Rattle.std.specs.Prelude.{◌≡◌, ℕ, true, ◌⊎◌, List, [], ◌∷◌, ℤ, pos, ◌+ℤ◌, ◌*ℤ◌, neg_ℤ, ◌<ℤ◌}
use Rattle.plane.specs.declared.Edge.{Edge}
use Rattle.plane.specs.Crossings.{crossing_sum}
use Rattle.plane.specs.Edges.{In, Once, back, ring_edges, sum_of}
use Rattle.plane.specs.Points.{GridPoint, Spot, between}
use Rattle.tiling.specs.Cuts.{Cut}
use Rattle.tiling.specs.Order.{grid}
use Rattle.tiling.specs.Triangles.{Leftward, Triangle, around, fan, side_at, sides, triangle, turns}

-- ---- what crossing numbers tell of a point

-- a leftward triangle counts a point once or not at all: once strictly inside, not at all to the right of a side
pub record Counts (at : ℕ → GridPoint) (t : Triangle) (p : Spot) : Type 0 where
  pub bit : (turns at p t ≡ pos 0) ⊎ (turns at p t ≡ pos 1)
  pub inside : ((e : Edge) → In e (sides t) → pos 0 <ℤ side_at at p e) → turns at p t ≡ pos 1
  pub outside : (e : Edge) → In e (sides t) → side_at at p e <ℤ pos 0 → turns at p t ≡ pos 0

abbrev pub TriangleCounts : Type 0
TriangleCounts = (at : ℕ → GridPoint) (t : Triangle) → Leftward at t → (p : Spot) → pos 0 <ℤ p.Z → Counts at t p

-- of two leftward triangles on both sides of an edge, exactly one counts a point in the open edge
abbrev pub OpenSide : Type 0
OpenSide =
    (at : ℕ → GridPoint) (a b c d : ℕ) → Leftward at (triangle a b c) → Leftward at (triangle b a d)
    → (p : Spot) → pos 0 <ℤ p.Z → between (at a) (at b) p ≡ true
    → turns at p (triangle a b c) +ℤ turns at p (triangle b a d) ≡ pos 1

-- the border of a sheet, taken to the left, counts a point once or not at all, and once strictly inside
pub record Frames (at : ℕ → GridPoint) (width height : ℤ) (p : Spot) : Type 0 where
  pub bit : (crossing_sum at (0 ∷ 1 ∷ 2 ∷ 3 ∷ []) p ≡ pos 0) ⊎ (crossing_sum at (0 ∷ 1 ∷ 2 ∷ 3 ∷ []) p ≡ pos 1)
  pub inside : pos 0 <ℤ p.X → p.X <ℤ (width *ℤ p.Z) → pos 0 <ℤ p.Y → p.Y <ℤ (height *ℤ p.Z)
      → crossing_sum at (0 ∷ 1 ∷ 2 ∷ 3 ∷ []) p ≡ pos 1

abbrev pub RectangleCounts : Type 0
RectangleCounts =
    (at : ℕ → GridPoint) (width height : ℤ) → pos 0 <ℤ width → pos 0 <ℤ height
    → at 0 ≡ grid (pos 0) (pos 0) → at 1 ≡ grid width (pos 0) → at 2 ≡ grid width height → at 3 ≡ grid (pos 0) height
    → (p : Spot) → pos 0 <ℤ p.Z → Frames at width height p

-- ---- sums over edges, for any number of an edge that turns its sign with the edge

abbrev pub Odd : (Edge → ℤ) → Type 0
Odd f = (e : Edge) → f (back e) ≡ neg_ℤ (f e)

-- a polygon has the sum of the triangles of its cut
abbrev pub CutSum : Type 0
CutSum = (f : Edge → ℤ) → Odd f → (l : List ℕ) (ts : List Triangle) → Cut l ts → sum_of f (ring_edges l) ≡ sum_of (around f) ts

-- a closed fan has the sum of its ring
abbrev pub FanSum : Type 0
FanSum = (f : Edge → ℤ) → Odd f → (v : ℕ) (ring : List ℕ) → sum_of (around f) (fan v ring) ≡ sum_of f (ring_edges ring)

-- edges that stand with their reverses, none twice, have the sum 0
abbrev pub PairedSum : Type 0
PairedSum = (f : Edge → ℤ) → Odd f → (l : List Edge) → Once l → ((e : Edge) → In e l → In (back e) l) → sum_of f l ≡ pos 0

-- ---- the sides of a cut

-- e is a side of a triangle of the list
abbrev pub SideOf : Edge → List Triangle → Type 0
SideOf e ts = (t : Triangle) × In t ts × In e (sides t)

-- e is a side of one triangle of the list, and of no other place in it
abbrev pub SideOnce : Edge → List Triangle → Type 0
SideOnce e [] = ⊥
SideOnce e (t ∷ ts) = (In e (sides t) × ¬ (SideOf e ts)) ⊎ ((¬ (In e (sides t))) × SideOnce e ts)

-- an edge of the polygon is a side of exactly one triangle, the reverse of every other side is a side too, and no triangle has a corner of its own
pub record CutSides (l : List ℕ) (ts : List Triangle) : Type 0 where
  pub once : Once l → (e : Edge) → In e (ring_edges l) → SideOnce e ts
  pub twins : (e : Edge) → SideOf e ts → In e (ring_edges l) ⊎ SideOf (back e) ts
  pub corners : (e : Edge) → SideOf e ts → In e.from l × In e.to l

abbrev pub CutHasSides : Type 0
CutHasSides = (l : List ℕ) (ts : List Triangle) → Cut l ts → CutSides l ts

-- ---- the nudge

-- q is near p, on the way to g: the side of each edge is that of p where p is beside it, and that of g where p is on it
pub record Near (at : ℕ → GridPoint) (es : List Edge) (p g q : Spot) : Type 0 where
  pub scaled : pos 0 <ℤ q.Z
  pub left : (e : Edge) → In e es → pos 0 <ℤ side_at at p e → pos 0 <ℤ side_at at q e
  pub right : (e : Edge) → In e es → side_at at p e <ℤ pos 0 → side_at at q e <ℤ pos 0
  pub level : (e : Edge) → In e es → side_at at p e ≡ pos 0 → side_at at q e ≡ side_at at g e

abbrev pub Nudges : Type 0
Nudges = (at : ℕ → GridPoint) (es : List Edge) (p g : Spot) → pos 0 <ℤ p.Z → pos 0 <ℤ g.Z → (q : Spot) × Near at es p g q

-- a spot strictly inside a leftward triangle, so that a point of the closed triangle can be nudged into it
abbrev pub HasMiddle : Type 0
HasMiddle = (at : ℕ → GridPoint) (t : Triangle) → Leftward at t → (g : Spot) × (pos 0 <ℤ g.Z) × ((e : Edge) → In e (sides t) → pos 0 <ℤ side_at at g e)
