-- The live nodes with their corners, as a round reads them once, and the parts of a round over them.
use Rattle.std.specs.Prelude.{◌≡◌, ℕ, zero, suc, ◌+◌, ◌*◌, ◌-◌, ◌≤◌, Bool, true, false, not, cond, ◌||◌, List, [], ◌++◌, IfSome, length, map, replicate, slice_index_or, take, Some, None, Option, Ok, Err, Result}
use Rattle.std.specs.List.{filter, filter_map, range_with_len}
use Rattle.plane.specs.Points.{GridPoint}
use Rattle.tiling.specs.Triangles.{Triangle}
use Rattle.ears.specs.Ears.{cut_of}
use Rattle.fans.specs.declared.around.Turned.{Turned}
use Rattle.fans.specs.Around.{corners_of, nodes_of, turned}
use Rattle.fans.specs.Fans.{fan_of, ring_of}
use Rattle.nodes.specs.declared.node.Node.{Node}
use Rattle.nodes.specs.Nodes.{blank}
use Rattle.refusal.specs.declared.Refusal.{Refusal}
use Rattle.rounds.specs.declared.choices.Tally.{Tally}
use Rattle.rounds.specs.declared.held.Held.{Held}
use Rattle.rounds.specs.declared.holes.Hole.{Hole}
use Rattle.rounds.specs.Rounds.{Rounded, found_said}
use Rattle.rounds.specs.Choices.{Found, closed_fan, is_marked, look, look_on}

-- live node k with its corners
abbrev pub held_at : List Node → ℕ → Held
held_at nodes k = record { node = k; corners = corners_of (slice_index_or nodes k blank) }

abbrev pub held_of : List Node → List ℕ → List Held
held_of nodes live = map (held_at nodes) live

-- it turned to a vertex, if it has that corner
abbrev pub turned_held : ℕ → Held → Option Turned
turned_held v h = turned v h.node h.corners

-- those that have corner v, in their order
unfoldable pub near : List Held → ℕ → List Turned
near held v = filter_map (turned_held v) held

-- ---- an open hole

-- eight places: the numbers, and 0 in those behind them
abbrev pub padded : List ℕ → List ℕ
padded ns = ns ++ replicate (8 - length ns) 0

-- the hole that the nodes of a fan leave
abbrev pub hole_of : List Turned → Hole
hole_of es = record { ring = padded (ring_of es); size = length es; children = padded (nodes_of es) }

-- a node that closes it, in part: it has the children that the hole has
abbrev pub node_over : ℕ → List ℕ → Triangle → Node
node_over size children t = record { a = t.a; b = t.b; c = t.c; ring = 0; sides = 0; count = size; children = children }

abbrev pub filled : Hole → Option (List Triangle) → List Node
filled h None = []
filled h (Some ts) = map (node_over h.size h.children) ts

module _ (at : ℕ → GridPoint) where
  -- the nodes that close it: those of its corners, cut
  abbrev pub filling : Hole → List Node
  filling h = filled h (cut_of at (take h.size h.ring))

-- ---- the parts of a round

-- a fan has so few nodes that one node can have them all as children
abbrev pub IsFew : Option (List Turned) → Type 0
IsFew o = IfSome o (λ es. length es ≤ 8)

module _ (at : ℕ → GridPoint) (held : List Held) where
  -- so many vertices from v on are looked at
  unfoldable pub look_near : ℕ → ℕ → Found → Result Found ℕ
  look_near zero v f = Ok f
  look_near (suc k) v f = look_on at (look at v (near held v) f) (look_near k (v + 1))

  -- the nodes that close the hole that vertex v leaves: which they are does not hang on the other nodes
  abbrev pub closing_near : ℕ → List Node
  closing_near v = closed_fan at [] [] (fan_of (near held v))

  unfoldable pub closings_near : List Bool → ℕ → ℕ → List Node
  closings_near marks zero v = []
  closings_near marks (suc k) v = cond (is_marked marks v) (closing_near v) [] ++ closings_near marks k (v + 1)

-- What holds of the vertices found among the first n inner ones: none behind them is marked, the fan of one that is marked is few, and so
-- many nodes close the holes.
pub record Sound (at : ℕ → GridPoint) (held : List Held) (n : ℕ) (f : Found) : Type 0 where
  pub later : (u : ℕ) → 4 + n ≤ u → is_marked f.marks u ≡ false
  pub few : (u : ℕ) → is_marked f.marks u ≡ true → IsFew (fan_of (near held u))
  pub fresh : length (closings_near at held f.marks n 4) ≡ f.fresh
  pub most : f.fresh ≤ 6 * f.chosen
  pub chosen : f.chosen ≤ n
  pub left : f.left ≤ n

-- what was found, as marks and numbers
abbrev pub found_of : List Bool → Tally → Found
found_of marks t = record { marks = marks; chosen = t.chosen; left = t.left; fresh = t.fresh }

-- vertex v is looked at, or its fan is broken
abbrev pub looked_at : ℕ → List Bool → Option Tally → Result Found ℕ
looked_at v marks None = Err v
looked_at v marks (Some t) = Ok (found_of marks t)

abbrev pub looked : List Bool → Result Tally ℕ → Result Found ℕ
looked marks (Ok t) = Ok (found_of marks t)
looked marks (Err v) = Err v

-- ---- what a round leaves

-- a live node has a chosen corner
abbrev pub goes_held : List Bool → Held → Bool
goes_held marks h = is_marked marks h.corners.a || (is_marked marks h.corners.b || is_marked marks h.corners.c)

-- the numbers of those that do not
unfoldable pub kept_near : List Bool → List Held → List ℕ
kept_near marks held = map (λ (h : Held). h.node) (filter (λ h. not (goes_held marks h)) held)

abbrev pub rounded_near : (ℕ → GridPoint) → List Held → List Node → ℕ → Found → Rounded
rounded_near at held nodes n f =
    record {
      nodes = nodes ++ closings_near at held f.marks n 4;
      live = kept_near f.marks held ++ range_with_len (length nodes) f.fresh;
    }

-- what a round answers over these nodes, once that much is found
abbrev pub taken_said : (ℕ → GridPoint) → List Held → List Node → List Bool → Tally → (rounds room table : ℕ) → Result Rounded Refusal
taken_said at held nodes marks t rounds room table =
    found_said nodes rounds room table (rounded_near at held nodes (length marks - 4) (found_of marks t)) (found_of marks t)
