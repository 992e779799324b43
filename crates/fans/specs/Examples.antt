-- Worked examples, computed from the definitions: a fan that is whole, one that is broken, and ones that come back early.
use Rattle.std.specs.Prelude.{◌≡◌, ℕ, false, List, [], ◌∷◌, Some, None}
use Rattle.nodes.specs.declared.node.Node.{Node}
use Rattle.fans.specs.Around.{around, degree, turn}
use Rattle.fans.specs.Fans.{fan_of, is_whole}

abbrev node : ℕ → ℕ → ℕ → Node
node a b c = record { a = a; b = b; c = c; ring = 0; sides = 0; count = 0; children = [] }

-- eight nodes around vertex 9, in no order, and one beside them
abbrev pub wheel : List Node
wheel =
    node 9 1 2 ∷ node 4 9 3 ∷ node 1 2 3 ∷ node 2 3 9 ∷ node 9 7 8 ∷ node 5 9 4 ∷ node 8 1 9 ∷ node 6 9 5 ∷ node 9 6 7 ∷ []

abbrev pub wheel_live : List ℕ
wheel_live = 0 ∷ 1 ∷ 2 ∷ 3 ∷ 4 ∷ 5 ∷ 6 ∷ 7 ∷ 8 ∷ []

-- a triangle around a vertex, a node beside it, and one with vertex 9 at two corners
abbrev pub parted : List Node
parted = node 9 1 2 ∷ node 9 2 3 ∷ node 9 3 1 ∷ node 9 4 5 ∷ node 9 9 6 ∷ []

-- from node 0 on to a ring that does not have it
abbrev pub led_astray : List Node
led_astray = node 9 1 2 ∷ node 9 2 3 ∷ node 9 3 2 ∷ []

pub record FanExamples : Type 0 where
  -- each node turns to the corner that the one before it has last
  pub wheel_around :
      around wheel wheel_live 9
      ≡ turn 0 1 2 ∷ turn 1 3 4 ∷ turn 3 2 3 ∷ turn 4 7 8 ∷ turn 5 4 5 ∷ turn 6 8 1 ∷ turn 7 5 6 ∷ turn 8 6 7 ∷ []
  pub wheel_fan :
      fan_of (around wheel wheel_live 9)
      ≡ Some (turn 0 1 2 ∷ turn 3 2 3 ∷ turn 1 3 4 ∷ turn 5 4 5 ∷ turn 7 5 6 ∷ turn 8 6 7 ∷ turn 4 7 8 ∷ turn 6 8 1 ∷ [])
  -- without node 6 nothing turns to vertex 8
  pub wheel_broken : fan_of (around wheel (0 ∷ 1 ∷ 3 ∷ 4 ∷ 5 ∷ 7 ∷ 8 ∷ []) 9) ≡ None
  -- the fan is back before it has been at node 3
  pub early : fan_of (around parted (0 ∷ 1 ∷ 2 ∷ 3 ∷ []) 9) ≡ Some (turn 0 1 2 ∷ turn 1 2 3 ∷ turn 2 3 1 ∷ [])
  pub early_not_whole : is_whole (around parted (0 ∷ 1 ∷ 2 ∷ 3 ∷ []) 9) (turn 0 1 2 ∷ turn 1 2 3 ∷ turn 2 3 1 ∷ []) ≡ false
  pub never_back : fan_of (around led_astray (0 ∷ 1 ∷ 2 ∷ []) 9) ≡ None
  -- no live node, no fan
  pub none_around : fan_of (around wheel wheel_live 10) ≡ None
  -- a node that has the vertex twice counts once
  pub counts_once : degree parted (4 ∷ []) 9 ≡ 1
