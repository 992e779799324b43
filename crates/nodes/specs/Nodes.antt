-- The numbers of a node, what a read of one answers, and what adding a node answers and leaves.
use Rattle.std.specs.Prelude.{ℕ, ◌+◌, cond, ◌&&◌, List, [], ◌∷◌, ◌++◌, length, Ok, Err, Result, nat_lt, slice_index, slice_index_or}
use Rattle.refusal.specs.declared.Cause.TheVariants.{StoreFull, OutOfRange}
use Rattle.refusal.specs.declared.Layer.TheVariants.{Store}
use Rattle.refusal.specs.declared.Refusal.{Refusal}
use Rattle.refusal.specs.Numbers.{refused}
use Rattle.nodes.specs.declared.node.Node.{Node}

-- the fourteen numbers, in the order in which they are read and kept
abbrev pub numbers : Node → List ℕ
numbers n = n.a ∷ n.b ∷ n.c ∷ n.ring ∷ n.sides ∷ n.count ∷ n.children

-- stands where there is no node, and is never read
abbrev pub blank : Node
blank = record { a = 0; b = 0; c = 0; ring = 0; sides = 0; count = 0; children = [] }

-- number i of node k, where both are there
abbrev pub number_in : List Node → ℕ → ℕ → ℕ
number_in nodes k i = slice_index (numbers (slice_index_or nodes k blank)) i

-- what a read answers: number i of node k, or a refusal at k where k is past the nodes or i past the fourteen
abbrev pub number_at : List Node → ℕ → ℕ → Result ℕ Refusal
number_at nodes k i = cond (nat_lt k (length nodes) && nat_lt i 14) (Ok (number_in nodes k i)) (Err (refused OutOfRange Store k))

-- what adding answers: a full store says for how many nodes it had to have room
abbrev pub add_said : List Node → ℕ → Result (Unit {0}) Refusal
add_said nodes room = cond (nat_lt (length nodes) room) (Ok tt) (Err (refused StoreFull Store (length nodes + 1)))

-- what adding leaves
abbrev pub added : List Node → ℕ → Node → List Node
added nodes room node = cond (nat_lt (length nodes) room) (nodes ++ node ∷ []) nodes
