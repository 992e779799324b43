-- The walk from the top nodes down to a bottom node that holds a tip, and what that node tells. All that is asked of the tip is on which
-- side of the line from one point of the sheet to another it is.
use Rattle.std.specs.Prelude.{ℕ, zero, suc, ◌+◌, ◌%◌, ◌/◌, ◌==◌, Bool, true, false, cond, ◌&&◌, List, [], ◌∷◌, length, map, take, nat_le, nat_lt, slice_index_or, Some, None, Option, Ok, Err, Result}
use Rattle.std.specs.List.{range_with_len}
use Rattle.std.specs.Option.{ok_or}
use Rattle.plane.specs.declared.Point.{Point}
use Rattle.plane.specs.declared.Side.{Side}
use Rattle.plane.specs.declared.Side.TheVariants.{Right, On, Left}
use Rattle.plane.specs.declared.Test.{Test}
use Rattle.plane.specs.Kernels.{is_sheet_size, side_said, triangle_said}
use Rattle.plane.specs.Points.{Spot, vertex_of}
use Rattle.nodes.specs.declared.node.Node.{Node}
use Rattle.nodes.specs.Nodes.{blank, number_in}
use Rattle.sheet.specs.declared.answer.Answer.{Answer}
use Rattle.sheet.specs.declared.tables.Size.{Size}
use Rattle.sheet.specs.Sheets.{corners}
use Rattle.checking.specs.Entries.{is_inside}
use Rattle.walk.specs.declared.Found.{Found}
use Rattle.walk.specs.declared.steps.Walked.{Walked}
use Rattle.walk.specs.declared.view.Places.{Places}
use Rattle.sheet.specs.declared.answer.Answer.TheVariants.{Vertex, OpenEdge, Face}

abbrev pub is_on : Side → Bool
is_on Right = false
is_on On = true
is_on Left = false

abbrev pub node_at : List Node → ℕ → Node
node_at nodes k = slice_index_or nodes k blank

-- an answer, with the tests that it took
abbrev pub found : Answer → ℕ → Found
found answer tests = record { answer = answer; tests = tests }

-- its children, in eight places
abbrev pub children_of : List Node → ℕ → List ℕ
children_of nodes k = map (λ i. number_in nodes k i) (range_with_len 6 8)

-- a walk that came to a node, or to none, after so many tests
abbrev pub walked : Option ℕ → ℕ → Walked
walked node tests = record { node = node; tests = tests }

-- the place of a number that is not as it should be, or what follows
abbrev pub walk_on : {X Y : Type 0} → Result X ℕ → (X → Result Y ℕ) → Result Y ℕ
walk_on (Ok x) rest = rest x
walk_on (Err k) rest = Err k

-- ---- where the corners of a node are

-- where a vertex of the sheet is: a corner of the sheet is known, and an inner vertex is where the table says, if that is strictly inside
abbrev pub vertex_known : Size → List Point → ℕ → Option Point
vertex_known z points v =
    cond (nat_lt v 4) (Some (vertex_of (corners z.width z.height) v))
    (cond (nat_lt v (z.inner + 4) && is_inside z (vertex_of points v)) (Some (vertex_of points v)) None)

-- the same for a node that names it: an inner vertex that is elsewhere is told, and the node where it is no vertex
abbrev pub vertex_read : Size → List Point → (node v : ℕ) → Result Point ℕ
vertex_read z points node v = ok_or (vertex_known z points v) (cond (nat_lt v (z.inner + 4)) v node)

abbrev pub places : (a b c : Point) → Places
places a b c = record { a = a; b = b; c = c }

-- the corners of node k, one after another
abbrev pub places_of : ((node v : ℕ) → Result Point ℕ) → List Node → ℕ → Result Places ℕ
places_of at nodes k =
    let n = node_at nodes k in
    walk_on (at k n.a) (λ a. walk_on (at k n.b) (λ b. walk_on (at k n.c) (λ c. Ok (places a b c))))

-- ---- what a bottom node tells

-- the edge between two vertices, the lower one first
abbrev pub edge_named : ℕ → ℕ → Answer
edge_named u v = cond (nat_lt u v) (OpenEdge u v) (OpenEdge v u)

-- a side that is an edge of the sheet tells it, and any other the loop's face
abbrev pub edge_or_face : Bool → (u v ring : ℕ) → Answer
edge_or_face is_edge u v ring = cond is_edge (edge_named u v) (Face ring)

-- two sides that have the tip on them tell their common corner, one that is an edge of the sheet that edge, and all else the loop's face
abbrev pub told_by : (a b c sides ring : ℕ) → (ab bc ca : Bool) → Answer
told_by a b c sides ring ab bc ca =
    cond ab
    (cond ca (Vertex a) (cond bc (Vertex b) (edge_or_face (sides % 2 == 1) a b ring)))
    (cond bc
    (cond ca (Vertex c) (edge_or_face ((sides / 2) % 2 == 1) b c ring))
    (cond ca (edge_or_face ((sides / 4) % 2 == 1) c a ring) (Face ring)))

abbrev pub told_node : Option Spot → Places → Node → Answer
told_node tip p n = told_by n.a n.b n.c n.sides n.ring (is_on (side_said tip p.a p.b)) (is_on (side_said tip p.b p.c)) (is_on (side_said tip p.c p.a))

-- a bottom node is of a loop, and of its three sides some are edges
abbrev pub is_bottom_node : (loops : ℕ) → Node → Bool
is_bottom_node loops n = nat_lt n.ring loops && nat_lt n.sides 8

-- ---- the walk, by what is read of a vertex of a node

module _ (at : (node v : ℕ) → Result Point ℕ) (tip : Option Spot) (nodes : List Node) where
  -- the sides of node k are tested in order, up to the first that has the tip on its right
  abbrev pub tested : ℕ → Result Test ℕ
  tested k = walk_on (places_of at nodes k) (λ p. Ok (triangle_said tip p.a p.b p.c))

  -- if it holds the tip it is come to, and else those that follow are looked at
  abbrev pub tried : ℕ → (tests : ℕ) → (ℕ → Result Walked ℕ) → Result Walked ℕ
  tried k tests rest = walk_on (tested k) (λ t. cond t.holds (Ok (walked (Some k) (tests + t.tests))) (rest (tests + t.tests)))

  -- the first of the top nodes from entry i on that holds the tip; an entry that names no node, or one below `least`, is told, so that they
  -- ascend
  unfoldable pub first_top : (i least : ℕ) → List ℕ → (tests : ℕ) → Result Walked ℕ
  first_top i least [] tests = Ok (walked None tests)
  first_top i least (k ∷ ks) tests = cond (nat_le least k && nat_lt k (length nodes)) (tried k tests (first_top (i + 1) (k + 1) ks)) (Err i)

  -- the first of the children of a node that holds the tip; each is below the node, or else the node is told
  unfoldable pub first_child : (node : ℕ) → List ℕ → (tests : ℕ) → Result Walked ℕ
  first_child node [] tests = Ok (walked None tests)
  first_child node (k ∷ ks) tests = cond (nat_lt k node) (tried k tests (first_child node ks)) (Err node)

  -- a node that nothing below holds the tip of is told
  abbrev pub go_down : ℕ → (ℕ → ℕ → Result Walked ℕ) → Option ℕ → ℕ → Result Walked ℕ
  go_down k down None tests = Err k
  go_down k down (Some c) tests = down c tests

  -- from a node down to a bottom node, in so many steps at most
  unfoldable pub down_from : ℕ → (k tests : ℕ) → Result Walked ℕ
  down_from zero k tests = Err k
  down_from (suc steps) k tests =
      let n = node_at nodes k in
      cond (n.count == 0) (Ok (walked (Some k) tests))
      (cond (nat_le n.count 8) (walk_on (first_child k (take n.count (children_of nodes k)) tests) (λ w. go_down k (down_from steps) w.node w.tests)) (Err k))

  -- from the first of the top nodes that holds the tip; each node that is come to is lower than the last, so that as many steps suffice as
  -- there are nodes
  abbrev pub walk_from : List ℕ → Result Walked ℕ
  walk_from tops = walk_on (first_top 0 0 tops 0) (λ w. go_down 0 (down_from (length nodes)) w.node w.tests)

  -- what a walk tells that came to a bottom node of a sheet with so many loops
  abbrev pub told_at : (loops : ℕ) → Option ℕ → ℕ → Result Found ℕ
  told_at loops None tests = Err 0
  told_at loops (Some k) tests =
      cond (is_bottom_node loops (node_at nodes k)) (walk_on (places_of at nodes k) (λ p. Ok (found (told_node tip p (node_at nodes k)) tests))) (Err k)

  unfoldable pub told_from : (loops : ℕ) → List ℕ → Result Found ℕ
  told_from loops tops = walk_on (walk_from tops) (λ w. told_at loops w.node w.tests)

-- the answer of the walk for a tip on a sheet of this size, with the tests that it took; or the place of a number outside its range, of a top
-- node that is none or does not ascend, of a child that is not below its node, or of a node under which nothing holds the tip. A size that no
-- sheet has is told at 0.
abbrev pub find_said : Size → (tip : Option Spot) → List Point → List Node → (tops : List ℕ) → Result Found ℕ
find_said z tip points nodes tops =
    cond (is_sheet_size z.width z.height) (told_from (vertex_read z points) tip nodes z.loops tops) (Err 0)
