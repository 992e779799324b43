-- Which vertices a round takes out, and what it makes of the nodes.
use Rattle.std.specs.Prelude.{ℕ, zero, suc, ◌+◌, ◌-◌, Bool, true, false, not, cond, ◌&&◌, ◌||◌, List, [], ◌∷◌, ◌++◌, length, map, nat_le, replicate, slice_index_or, slice_set, Some, None, Option, Ok, Err, Result, is_some}
use Rattle.std.specs.List.{filter, list_any, range_with_len}
use Rattle.plane.specs.Points.{GridPoint}
use Rattle.tiling.specs.Triangles.{Triangle}
use Rattle.ears.specs.Ears.{cut_of}
use Rattle.fans.specs.declared.around.Turned.{Turned}
use Rattle.fans.specs.Around.{around, nodes_of}
use Rattle.fans.specs.Fans.{fan_of, is_whole, ring_of}
use Rattle.nodes.specs.declared.node.Node.{Node}
use Rattle.nodes.specs.Nodes.{blank}

-- ---- looking at the vertices in ascending order

-- one mark for each vertex: whether it is chosen
abbrev pub is_marked : List Bool → ℕ → Bool
is_marked marks v = slice_index_or marks v false

-- what was found of the vertices so far: the marks, how many are chosen, how many are left, and how many nodes close the holes
pub record Found : Type 0 where
  pub marks : List Bool
  pub chosen : ℕ
  pub left : ℕ
  pub fresh : ℕ

-- before any vertex is looked at, of so many
abbrev pub nothing_found : ℕ → Found
nothing_found vertices = record { marks = replicate vertices false; chosen = 0; left = 0; fresh = 0 }

-- the vertex is left, and not chosen
abbrev pub passed : Found → Found
passed f = record { marks = f.marks; chosen = f.chosen; left = f.left + 1; fresh = f.fresh }

-- it is chosen: a vertex of degree k leaves a hole of k corners, which k - 2 nodes close
abbrev pub chosen_too : ℕ → ℕ → Found → Found
chosen_too v k f = record { marks = slice_set f.marks v true; chosen = f.chosen + 1; left = f.left + 1; fresh = f.fresh + (k - 2) }

module _ (at : ℕ → GridPoint) where
  -- a vertex with the live nodes ts around it and the fan es is chosen: its degree is 3 to 8, its fan holds all its live nodes, the noted
  -- corners can be cut, and none of them is chosen already
  abbrev pub is_choice : List Bool → List Turned → List Turned → Bool
  is_choice marks ts es =
      ((nat_le 3 (length ts) && nat_le (length ts) 8) && is_whole ts es)
      && (is_some (cut_of at (ring_of es)) && not (list_any (is_marked marks) (ring_of es)))

  -- a vertex whose fan is broken is told
  abbrev pub judge : ℕ → List Turned → Found → Option (List Turned) → Result Found ℕ
  judge v ts f None = Err v
  judge v ts f (Some es) = Ok (cond (is_choice f.marks ts es) (chosen_too v (length ts) f) (passed f))

  -- a vertex without live nodes is not left
  abbrev pub look : ℕ → List Turned → Found → Result Found ℕ
  look v [] f = Ok f
  look v (t ∷ ts) f = judge v (t ∷ ts) f (fan_of (t ∷ ts))

  abbrev pub look_on : Result Found ℕ → (Found → Result Found ℕ) → Result Found ℕ
  look_on (Ok f) rest = rest f
  look_on (Err v) rest = Err v

  module _ (nodes : List Node) (live : List ℕ) where
    -- so many vertices from v on
    unfoldable pub look_from : ℕ → ℕ → Found → Result Found ℕ
    look_from zero v f = Ok f
    look_from (suc k) v f = look_on (look v (around nodes live v) f) (look_from k (v + 1))

    -- all inner vertices of a sheet with n of them, or the first whose fan is broken
    abbrev pub look_all : ℕ → Result Found ℕ
    look_all n = look_from n 4 (nothing_found (n + 4))

    -- ---- closing the holes

    -- a node of loop 0 without edges of the sheet, with the fan's nodes as children
    abbrev pub hole_node : List ℕ → Triangle → Node
    hole_node children t =
        record { a = t.a; b = t.b; c = t.c; ring = 0; sides = 0; count = length children; children = children ++ replicate (8 - length children) 0 }

    -- the nodes that close the hole of a fan, whose noted corners are cut; there are none where that cannot be
    abbrev pub closed : List Turned → Option (List Triangle) → List Node
    closed es None = []
    closed es (Some ts) = map (hole_node (nodes_of es)) ts

    abbrev pub closed_fan : Option (List Turned) → List Node
    closed_fan None = []
    closed_fan (Some es) = closed es (cut_of at (ring_of es))

    -- the nodes that close the hole that vertex v leaves
    abbrev pub closing : ℕ → List Node
    closing v = closed_fan (fan_of (around nodes live v))

    -- of so many vertices from v on, those that are marked are taken out in ascending order
    unfoldable pub closings : List Bool → ℕ → ℕ → List Node
    closings marks zero v = []
    closings marks (suc k) v = cond (is_marked marks v) (closing v) [] ++ closings marks k (v + 1)

    -- ---- what a round makes

    -- the nodes, with those that close the holes behind them
    abbrev pub rounded_nodes : ℕ → List Bool → List Node
    rounded_nodes n marks = nodes ++ closings marks n 4

    -- a node has a chosen corner: it is of the fan of that vertex, which holds all its live nodes
    abbrev pub goes : List Bool → ℕ → Bool
    goes marks k =
        let node = slice_index_or nodes k blank in
        is_marked marks node.a || (is_marked marks node.b || is_marked marks node.c)

    -- the nodes of the fans are live no longer, and the new ones are
    abbrev pub rounded_live : Found → List ℕ
    rounded_live f = filter (λ k. not (goes f.marks k)) live ++ range_with_len (length nodes) f.fresh
