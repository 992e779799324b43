-- The eight rules as propositions about a sheet, each with the places where it is broken, and the theorem that what `first_broken` tells
-- is the first rule that is broken, at its first place.
use Rattle.std.specs.Prelude.{◌≡◌, ◌↔◌, ◌⊎◌, ℕ, ◌+◌, ◌*◌, ◌<◌, ◌≤◌, true, List, [], length, slice_index_or, pos, ◌<ℤ◌, None, Some, Ok, Err, Result}
use Rattle.plane.specs.declared.Edge.{Edge}
use Rattle.plane.specs.Edges.{In, Once, back, edge}
use Rattle.plane.specs.Points.{GridPoint, Spot, on_segment, place_of}
use Rattle.refusal.specs.declared.Cause.{Cause}
use Rattle.refusal.specs.declared.Cause.TheVariants.{LoopSum, SamePoint, VertexTwice, EdgeTwice, NoReverse, VertexUnused, EdgesTouch, LoopTurned}
use Rattle.refusal.specs.declared.Layer.TheVariants.{Check}
use Rattle.refusal.specs.declared.Refusal.{Refusal}
use Rattle.refusal.specs.Numbers.{number}
use Rattle.sheet.specs.Sheets.{Ring, Sheet, edges_of, points_of}
use Rattle.rules.specs.Rules.{drawn_edges, first_broken, lies_on, signed_area, triangles_in}

-- ---- what the rules speak of

abbrev pub vertices : Sheet → ℕ
vertices s = length s.inner + 4

-- where a vertex is
abbrev pub vertex_at : Sheet → ℕ → GridPoint
vertex_at s = place_of (points_of s)

-- what has a number, or a position: the corners of a loop, a listed edge, an edge of the sheet
abbrev pub corners_at : Sheet → ℕ → List ℕ
corners_at s l = (slice_index_or s.rings l (record { numeral = 0; corners = [] })).corners

abbrev pub listed_at : Sheet → ℕ → Edge
listed_at s i = slice_index_or (edges_of s) i (edge 0 0)

abbrev pub drawn_at : Sheet → ℕ → Edge
drawn_at s j = slice_index_or (drawn_edges s) j (edge 0 0)

-- v is a corner of some loop
abbrev pub IsCorner : Sheet → ℕ → Type 0
IsCorner s v = (r : Ring) × In r s.rings × In v r.corners

-- a loop's signed area is above 0
abbrev pub TurnsLeft : Sheet → List ℕ → Type 0
TurnsLeft s cs = pos 0 <ℤ signed_area (vertex_at s) cs

-- two edges are one edge of the sheet: the same, or each the other's reverse
abbrev pub OneSegment : Edge → Edge → Type 0
OneSegment e f = (e ≡ f) ⊎ (e ≡ back f)

-- ---- when two edges touch

-- the edge goes from u to v, or from v to u
abbrev pub Joins : Edge → ℕ → ℕ → Type 0
Joins e u v = (e ≡ edge u v) ⊎ (e ≡ edge v u)

-- some point, its coordinates fractions, is on both segments, the ends included
abbrev pub SharePoint : (ℕ → GridPoint) → Edge → Edge → Type 0
SharePoint at e f =
    (p : Spot) × (pos 0 <ℤ p.Z) × (on_segment (at e.from) (at e.to) p ≡ true) × (on_segment (at f.from) (at f.to) p ≡ true)

-- without a common vertex they share a point
pub record Meeting (at : ℕ → GridPoint) (e f : Edge) : Type 0 where
  pub none_common : (u v w : ℕ) → Joins e u v → Joins f u w → ⊥
  pub shared : SharePoint at e f

-- with a common vertex, the other end of one lies on the other
pub record Overlapping (at : ℕ → GridPoint) (e f : Edge) : Type 0 where
  pub common : ℕ
  pub first : ℕ
  pub second : ℕ
  pub joins_first : Joins e common first
  pub joins_second : Joins f common second
  pub on : (lies_on (at common) (at second) (at first) ≡ true) ⊎ (lies_on (at common) (at first) (at second) ≡ true)

abbrev pub Touching : (ℕ → GridPoint) → Edge → Edge → Type 0
Touching at e f = Meeting at e f ⊎ Overlapping at e f

-- ---- the eight rules

-- 13: the sum of k - 2 over all loops is 2n + 2
abbrev pub LoopsAddUp : Sheet → Type 0
LoopsAddUp s = triangles_in s.rings ≡ 2 * length s.inner + 2

-- 14: no two vertices are at one point
abbrev pub PointsDiffer : Sheet → Type 0
PointsDiffer s = (u v : ℕ) → u < vertices s → v < vertices s → vertex_at s u ≡ vertex_at s v → u ≡ v

-- 15: no loop names a vertex twice
abbrev pub CornersDiffer : Sheet → Type 0
CornersDiffer s = (r : Ring) → In r s.rings → Once r.corners

-- 16: no directed edge is listed twice
abbrev pub ListedOnce : Sheet → Type 0
ListedOnce s = Once (edges_of s)

-- 17: the reverse of every listed edge is listed
abbrev pub ReversesListed : Sheet → Type 0
ReversesListed s = (e : Edge) → In e (edges_of s) → In (back e) (edges_of s)

-- 18: every inner vertex is a corner of some loop
abbrev pub VerticesUsed : Sheet → Type 0
VerticesUsed s = (v : ℕ) → 4 ≤ v → v < vertices s → IsCorner s v

-- 19: two edges of the sheet without a common vertex share no point, and of two with one, neither's other end lies on the other edge
abbrev pub EdgesApart : Sheet → Type 0
EdgesApart s = (e f : Edge) → In e (edges_of s) → In f (edges_of s) → ¬ (OneSegment e f) → ¬ (Touching (vertex_at s) e f)

-- 20: every loop's signed area is above 0
abbrev pub LoopsTurnLeft : Sheet → Type 0
LoopsTurnLeft s = (r : Ring) → In r s.rings → TurnsLeft s r.corners

pub record KeepsRules (s : Sheet) : Type 0 where
  pub loop_sum : LoopsAddUp s
  pub points : PointsDiffer s
  pub corners : CornersDiffer s
  pub listed : ListedOnce s
  pub reverses : ReversesListed s
  pub used : VerticesUsed s
  pub apart : EdgesApart s
  pub turned : LoopsTurnLeft s

-- the same by what is told where a rule is broken; other causes stand for no rule
abbrev pub Rule : Sheet → Cause → Type 0
Rule s LoopSum = LoopsAddUp s
Rule s SamePoint = PointsDiffer s
Rule s VertexTwice = CornersDiffer s
Rule s EdgeTwice = ListedOnce s
Rule s NoReverse = ReversesListed s
Rule s VertexUnused = VerticesUsed s
Rule s EdgesTouch = EdgesApart s
Rule s LoopTurned = LoopsTurnLeft s
Rule s _ = Unit {0}

-- ---- where a rule is broken: at a vertex, a loop, a position of the edge list, or one among the edges of the sheet

abbrev pub Breaks : Sheet → Cause → ℕ → Type 0
-- at 0: the loops do not add up
Breaks s LoopSum k = (k ≡ 0) × ¬ (LoopsAddUp s)
-- an earlier vertex is at the same point
Breaks s SamePoint v = (v < vertices s) × ((u : ℕ) × (u < v) × (vertex_at s u ≡ vertex_at s v))
-- the loop names a vertex twice
Breaks s VertexTwice l = (l < length s.rings) × ¬ (Once (corners_at s l))
-- an earlier position lists the same edge
Breaks s EdgeTwice i = (i < length (edges_of s)) × ((j : ℕ) × (j < i) × (listed_at s j ≡ listed_at s i))
-- the reverse is not listed
Breaks s NoReverse i = (i < length (edges_of s)) × ¬ (In (back (listed_at s i)) (edges_of s))
-- the inner vertex is a corner of no loop
Breaks s VertexUnused v = (4 ≤ v) × (v < vertices s) × ¬ (IsCorner s v)
-- the edge of the sheet touches an earlier one
Breaks s EdgesTouch j = (j < length (drawn_edges s)) × ((i : ℕ) × (i < j) × Touching (vertex_at s) (drawn_at s i) (drawn_at s j))
-- the loop's area is not above 0
Breaks s LoopTurned l = (l < length s.rings) × ¬ (TurnsLeft s (corners_at s l))
Breaks s _ k = ⊥

-- ---- the theorem

-- a refusal is told of the least rule that is broken, at the least place where it is
pub record FirstBroken (s : Sheet) (e : Refusal) : Type 0 where
  pub layer : e.layer ≡ Check
  pub rules_before : (c : Cause) → number c < number e.cause → Rule s c
  pub broken : Breaks s e.cause e.place
  pub places_before : (k : ℕ) → k < e.place → ¬ (Breaks s e.cause k)

-- no rule is told exactly where the sheet keeps all eight, and one at a place exactly where it is the first; and where those before it are
-- kept, a rule is kept exactly where no place breaks it
pub record RulesOf (s : Sheet) : Type 0 where
  pub none : (first_broken s ≡ None) ↔ KeepsRules s
  pub some : (e : Refusal) → (first_broken s ≡ Some e) ↔ FirstBroken s e
  pub places : (c : Cause) → ((d : Cause) → number d < number c → Rule s d) → Rule s c ↔ ((k : ℕ) → ¬ (Breaks s c k))

-- of every sheet, within its limits or not
abbrev pub RulesTell : Type 0
RulesTell = (s : Sheet) → RulesOf s

-- what a check answers of a sheet: it passes exactly where the sheet keeps all eight, and is refused exactly with the first that is broken
pub record Judges (s : Sheet) (said : Result (Unit {0}) Refusal) : Type 0 where
  pub passes : (said ≡ Ok tt) ↔ KeepsRules s
  pub refuses : (e : Refusal) → (said ≡ Err e) ↔ FirstBroken s e
