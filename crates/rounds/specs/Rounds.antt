-- What a round over the caller's tables and store answers.
use Rattle.std.specs.Prelude.{◌≡◌, ℕ, ◌+◌, ◌*◌, ◌==◌, Bool, cond, ◌&&◌, List, [], ◌∷◌, length, nat_le, nat_lt, slice_index_or, take, Some, None, Option, Ok, Err, Result}
use Rattle.plane.specs.declared.Point.{Point}
use Rattle.plane.specs.Points.{place_of}
use Rattle.refusal.specs.declared.Cause.TheVariants.{NoneLeft, OutOfRange, StoreFull, Stuck}
use Rattle.refusal.specs.declared.Layer.TheVariants.{Build}
use Rattle.refusal.specs.declared.Refusal.{Refusal}
use Rattle.refusal.specs.Numbers.{refused}
use Rattle.nodes.specs.declared.node.Node.{Node}
use Rattle.nodes.specs.Nodes.{blank}
use Rattle.sheet.specs.declared.tables.Size.{Size}
use Rattle.checking.specs.Entries.{wrong_vertex}
use Rattle.rounds.specs.Choices.{Found, look_all, rounded_live, rounded_nodes}

-- ---- numbers outside their ranges

-- a live number is at least `least`, and is one of so many nodes
abbrev pub is_live : ℕ → ℕ → ℕ → Bool
is_live count least k = nat_le least k && nat_lt k count

-- the live numbers ascend, each at least `least`, and are nodes; the first entry that is not so, counted on from `at`
abbrev pub wrong_live : ℕ → ℕ → ℕ → List ℕ → Option ℕ
wrong_live count least at [] = None
wrong_live count least at (k ∷ live) = cond (is_live count least k) (wrong_live count (k + 1) (at + 1) live) (Some at)

-- the corners of a node are vertices
abbrev pub has_vertices : ℕ → Node → Bool
has_vertices vertices node = nat_lt node.a vertices && (nat_lt node.b vertices && nat_lt node.c vertices)

-- the first live node of which that is not so
abbrev pub wrong_node : ℕ → List Node → List ℕ → Option ℕ
wrong_node vertices nodes [] = None
wrong_node vertices nodes (k ∷ live) = cond (has_vertices vertices (slice_index_or nodes k blank)) (wrong_node vertices nodes live) (Some k)

-- the most nodes that a sheet with n inner vertices can have: 2n + 2 at the bottom, and 6 more for each vertex taken out
abbrev pub most_nodes : ℕ → ℕ
most_nodes n = 8 * n + 2

abbrev pub or_next : Option ℕ → Option ℕ → Option ℕ
or_next None next = next
or_next (Some i) next = Some i

-- of the nodes: their count, the live entries, the corners of the live nodes
abbrev pub wrong_nodes : ℕ → List Node → List ℕ → Option ℕ
wrong_nodes n nodes live =
    cond (nat_le (length nodes) (most_nodes n))
    (or_next (wrong_live (length nodes) 0 0 live) (wrong_node (n + 4) nodes live))
    (Some (most_nodes n))

-- the first number that is outside its range: of the points, and then of the nodes
abbrev pub wrong_number : Size → List Point → List Node → List ℕ → Option ℕ
wrong_number z ps nodes live = or_next (wrong_vertex z ps) (wrong_nodes z.inner nodes live)

-- ---- what a round answers

-- the nodes and the live ones after a round
pub record Rounded : Type 0 where
  pub nodes : List Node
  pub live : List ℕ

-- refused where no vertex is left, where too few are chosen, where the store has no room, and where the live table has none for so many
-- as are live afterwards: the last cannot be unless a table was altered
abbrev pub found_refusal : (count rounds room table live : ℕ) → Found → Option Refusal
found_refusal count rounds room table live f =
    cond (f.left == 0) (Some (refused NoneLeft Build 0))
    (cond (nat_lt (18 * f.chosen) f.left) (Some (refused Stuck Build (rounds + 1)))
    (cond (nat_lt room (count + f.fresh)) (Some (refused StoreFull Build (count + f.fresh)))
    (cond (nat_lt table live) (Some (refused OutOfRange Build table)) None)))

abbrev pub unless : Option Refusal → Rounded → Result Rounded Refusal
unless None r = Ok r
unless (Some e) r = Err e

abbrev pub found_said : List Node → (rounds room table : ℕ) → Rounded → Found → Result Rounded Refusal
found_said nodes rounds room table r f = unless (found_refusal (length nodes) rounds room table (length r.live) f) r

abbrev pub look_said : Size → List Point → List Node → List ℕ → (rounds room table : ℕ) → Result Found ℕ → Result Rounded Refusal
look_said z ps nodes live rounds room table (Err v) = Err (refused OutOfRange Build v)
look_said z ps nodes live rounds room table (Ok f) =
    found_said nodes rounds room table
    (record { nodes = rounded_nodes (place_of ps) nodes live z.inner f.marks; live = rounded_live (place_of ps) nodes live f })
    f

-- a round over numbers that are inside their ranges; a fan that is broken is told at its vertex
abbrev pub right_said : Size → List Point → List Node → List ℕ → (rounds room table : ℕ) → Result Rounded Refusal
right_said z ps nodes live rounds room table = look_said z ps nodes live rounds room table (look_all (place_of ps) nodes live z.inner)

abbrev pub round_next : Option ℕ → Result Rounded Refusal → Result Rounded Refusal
round_next None said = said
round_next (Some i) said = Err (refused OutOfRange Build i)

-- a round over nodes of which `live` are live, after so many rounds, with room for so many nodes in the store and so many numbers in the
-- live table: first a number outside its range
unfoldable pub round_said : Size → List Point → List Node → List ℕ → (rounds room table : ℕ) → Result Rounded Refusal
round_said z ps nodes live rounds room table =
    round_next (wrong_number z ps nodes live) (right_said z ps nodes live rounds room table)

-- a round answers how many nodes are live after it
abbrev pub round_count : Result Rounded Refusal → Result ℕ Refusal
round_count (Ok r) = Ok (length r.live)
round_count (Err e) = Err e

-- the store has the nodes; after a refusal it is as it was
abbrev pub round_nodes : Result Rounded Refusal → List Node → List Node
round_nodes (Ok r) old = r.nodes
round_nodes (Err e) old = old

-- the live numbers stand in the front of their table; after a refusal it is as it was
abbrev pub RoundLive : Result Rounded Refusal → List ℕ → List ℕ → Type 0
RoundLive (Ok r) old new = take (length r.live) new ≡ r.live
RoundLive (Err e) old new = new ≡ old
