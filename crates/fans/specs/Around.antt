-- The live nodes around a vertex, and its degree.
use Rattle.std.specs.Prelude.{◌≡◌, ℕ, zero, suc, ◌+◌, Bool, cond, ◌==◌, ◌||◌, min, List, [], ◌∷◌, length, map, nat_lt, slice_index_or, Ok, Err, Result, Some, None, Option, is_some}
use Rattle.std.specs.List.{All, filter, filter_map}
use Rattle.std.specs.Option.{option_and_then}
use Rattle.nodes.specs.declared.node.Node.{Node}
use Rattle.nodes.specs.Nodes.{blank}
use Rattle.refusal.specs.declared.Cause.TheVariants.{OutOfRange}
use Rattle.refusal.specs.declared.Layer.TheVariants.{Store}
use Rattle.refusal.specs.declared.Refusal.{Refusal}
use Rattle.refusal.specs.Numbers.{refused}
use Rattle.fans.specs.declared.around.Turned.{Turned}
use Rattle.plane.specs.declared.Corners.{Corners}

abbrev pub turn : ℕ → ℕ → ℕ → Turned
turn k p q = record { node = k; next = p; last = q }

-- node k turned so that v comes first, as (v, p, q): of its corners in order the first that is v decides
abbrev pub turned : ℕ → ℕ → Corners → Option Turned
turned v k c =
    cond (c.a == v) (Some (turn k c.b c.c))
    (cond (c.b == v) (Some (turn k c.c c.a))
    (cond (c.c == v) (Some (turn k c.a c.b)) None))

abbrev pub corners_of : Node → Corners
corners_of n = record { a = n.a; b = n.b; c = n.c }

-- the corners of node k of a list; a number past the last is no node
abbrev pub corners_at : List Node → ℕ → Option Corners
corners_at nodes k = cond (nat_lt k (length nodes)) (Some (corners_of (slice_index_or nodes k blank))) None

-- node k of a list, if it has corner v
abbrev pub turned_at : List Node → ℕ → ℕ → Option Turned
turned_at nodes v k = option_and_then (turned v k) (corners_at nodes k)

-- the live nodes that have corner v, in their order
unfoldable pub around : List Node → List ℕ → ℕ → List Turned
around nodes live v = filter_map (turned_at nodes v) live

abbrev pub nodes_of : List Turned → List ℕ
nodes_of ts = map (λ (t : Turned). t.node) ts

-- the numbers of those nodes
abbrev pub live_around : List Node → List ℕ → ℕ → List ℕ
live_around nodes live v = filter (λ k. is_some (turned_at nodes v k)) live

-- how many they are
abbrev pub degree : List Node → List ℕ → ℕ → ℕ
degree nodes live v = length (around nodes live v)

-- of so many vertices from v on, how many are left: have a live node
abbrev pub left_from : List Node → List ℕ → (n v : ℕ) → ℕ
left_from nodes live zero v = 0
left_from nodes live (suc n) v = cond (nat_lt 0 (degree nodes live v)) 1 0 + left_from nodes live n (v + 1)

-- a node has corner v
abbrev pub is_corner : ℕ → Corners → Bool
is_corner v c = c.a == v || (c.b == v || c.c == v)

-- one more where a test holds, up to the largest number of sixteen bits
abbrev pub raised : Bool → ℕ → ℕ
raised more n = cond more (min 65535 (n + 1)) n

-- ---- what the calls answer

-- a number that is no node is refused as a store refuses it
abbrev pub or_refused : {X : Type 0} → ℕ → Option X → Result X Refusal
or_refused k (Some x) = Ok x
or_refused k None = Err (refused OutOfRange Store k)

-- the corners of node k
abbrev pub corners_said : List Node → ℕ → Result Corners Refusal
corners_said nodes k = or_refused k (corners_at nodes k)

-- the first live number that is no node is refused
unfoldable pub live_said : List Node → List ℕ → Result (Unit {0}) Refusal
live_said nodes [] = Ok tt
live_said nodes (k ∷ live) = cond (nat_lt k (length nodes)) (live_said nodes live) (Err (refused OutOfRange Store k))

-- the entries around v are of the live nodes that have corner v, in their order, and each is as its node turns
abbrev pub AroundTells : Type 0
AroundTells =
    (nodes : List Node) (live : List ℕ) (v : ℕ)
    → (nodes_of (around nodes live v) ≡ live_around nodes live v)
    × All (λ t. turned_at nodes v t.node ≡ Some t) (around nodes live v)
