-- The nodes that a store over lent memory holds, and what the two kinds of memory have.
use Rattle.std.specs.Prelude.{ℕ, List, length, take}
use Rattle.std.specs.Borrow.{MutBor}
use Rattle.nodes.specs.declared.lent_store.LentStore.{LentStore}
use Rattle.nodes.specs.declared.node.Node.{Node}
use Rattle.nodes.specs.Bytes.{nodes_in, room_of, KeptOutside}
use Rattle.nodes.specs.Nodes.{blank}

-- what a store keeps its nodes in
abbrev pub memory_of : {M : Type 0} → LentStore M → M
memory_of s = s.memory

-- `take` stops at the last place, so the count may say anything
abbrev pub stored : {M : Type 0} → (M → List Node) → LentStore M → List Node
stored nodes s = take s.used (nodes (memory_of s))

-- a `SliceStore` and a `BlockStore`, since antt has no name for an alias
abbrev pub Slices : Type 0
Slices = LentStore (MutBor (List Node))

abbrev pub Blocks : Type 0
Blocks = LentStore (MutBor (List ℕ))

abbrev pub slice_nodes : Slices → List Node
slice_nodes = stored (λ slots. slots.now)

abbrev pub slice_room : Slices → ℕ
slice_room s = length (memory_of s).now

-- every slot but k is as it was
abbrev pub SlotsKeptBut : ℕ → List Node → List Node → Type 0
SlotsKeptBut = KeptOutside blank 1

abbrev pub block_nodes : Blocks → List Node
block_nodes = stored (λ bytes. nodes_in bytes.now (room_of bytes.now))

abbrev pub block_room : Blocks → ℕ
block_room s = room_of (memory_of s).now
