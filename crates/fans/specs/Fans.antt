-- The fan of a vertex, over the entries around it.
use Rattle.std.specs.Prelude.{◌≡◌, ℕ, zero, suc, Bool, true, cond, ◌==◌, List, [], ◌∷◌, length, map, nat_le, position, slice_index_or, Some, None, Option}
use Rattle.std.specs.List.Sorted.{IsPermutation}
use Rattle.std.specs.Option.{option_map}
use Rattle.plane.specs.Edges.{In}
use Rattle.tiling.specs.Triangles.{Triangle, fan, triangle}
use Rattle.nodes.specs.declared.node.Node.{Node}
use Rattle.fans.specs.declared.around.Turned.{Turned}
use Rattle.plane.specs.declared.Corners.{Corners}
use Rattle.fans.specs.Around.{around, live_around, nodes_of, turn, turned}

abbrev pub entry : List Turned → ℕ → Turned
entry ts i = slice_index_or ts i (turn 0 0 0)

-- the place of the first entry that turns to (v, q, ..)
abbrev pub opening : List Turned → ℕ → Option ℕ
opening ts q = position (λ t. t.next == q) ts

abbrev pub onto : Turned → Option (List Turned) → Option (List Turned)
onto t fan = option_map (λ ts. t ∷ ts) fan

-- an entry, and what follows from the place where the fan goes on: the first entry is where it began, and nothing follows a place that
-- there is not
abbrev pub goes_on : Turned → (ℕ → Option (List Turned)) → Option ℕ → Option (List Turned)
goes_on t rest None = None
goes_on t rest (Some j) = cond (j == 0) (Some (t ∷ [])) (onto t (rest j))

-- the fan from place i on, of n entries at most
unfoldable pub fan_from : List Turned → ℕ → ℕ → Option (List Turned)
fan_from ts zero i = None
fan_from ts (suc n) i = goes_on (entry ts i) (fan_from ts n) (opening ts (entry ts i).last)

-- The fan starts at the first entry, the live node of lowest number, and from (v, p, q) goes on to the first entry that turns to
-- (v, q, ..), until it is back. It is broken where none does, or where as many entries as there are do not bring it back.
abbrev pub fan_of : List Turned → Option (List Turned)
fan_of ts = fan_from ts (length ts) 0

-- it holds all of them
abbrev pub is_whole : List Turned → List Turned → Bool
is_whole ts es = length es == length ts

-- what a walk over a table of links answers: none also where that has no room for all entries
abbrev pub fan_said : List Turned → ℕ → Option (List Turned)
fan_said ts room = cond (nat_le (length ts) room) (fan_of ts) None

-- the corners that a fan notes, and its triangles
abbrev pub ring_of : List Turned → List ℕ
ring_of es = map (λ (t : Turned). t.next) es

abbrev pub triangles_of : ℕ → List Turned → List Triangle
triangles_of v es = map (λ (t : Turned). triangle v t.next t.last) es

-- the triangle of a node, from each of its corners on
abbrev pub turns_of : Corners → List Triangle
turns_of c = triangle c.a c.b c.c ∷ triangle c.b c.c c.a ∷ triangle c.c c.a c.b ∷ []

-- a node that turns to (v, p, q) is that triangle, from v on
abbrev pub TurnedIsNode : Type 0
TurnedIsNode = (v k : ℕ) (c : Corners) (t : Turned) → turned v k c ≡ Some t → In (triangle v t.next t.last) (turns_of c)

-- the theorems: the triangles of a fan are, in order, those that v makes with the ring of the noted corners
abbrev pub FanCloses : Type 0
FanCloses = (v : ℕ) (ts es : List Turned) → fan_of ts ≡ Some es → triangles_of v es ≡ fan v (ring_of es)

-- a fan that is whole has each of the entries once, in another order
abbrev pub WholeFanHasAll : Type 0
WholeFanHasAll = (ts es : List Turned) → fan_of ts ≡ Some es → is_whole ts es ≡ true → IsPermutation ts es

-- so the nodes of a vertex's fan that is whole are exactly the live nodes that have the vertex as a corner, in another order
abbrev pub WholeFanHasLive : Type 0
WholeFanHasLive =
    (nodes : List Node) (live : List ℕ) (v : ℕ) (es : List Turned) → fan_of (around nodes live v) ≡ Some es
    → is_whole (around nodes live v) es ≡ true → IsPermutation (live_around nodes live v) (nodes_of es)
