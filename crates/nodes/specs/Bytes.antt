-- Nodes in blocks of 512 bytes: eighteen nodes of fourteen numbers of two bytes, the low byte first, and 8 bytes that are not used.
use Rattle.std.specs.Prelude.{◌≡◌, ℕ, ◌+◌, ◌*◌, ◌/◌, ◌%◌, ◌<◌, ◌≤◌, ◌⊎◌, List, map, length, take, drop, slice_index, slice_index_or}
use Rattle.std.specs.List.{range_with_len}
use Rattle.nodes.specs.declared.node.Node.{Node}

-- how many nodes the whole blocks have room for
abbrev pub room_of : List ℕ → ℕ
room_of bytes = 18 * (length bytes / 512)

-- where node k begins
abbrev pub offset : ℕ → ℕ
offset k = 512 * (k / 18) + 28 * (k % 18)

-- the number whose two bytes begin at a place
abbrev pub word : List ℕ → ℕ → ℕ
word bytes at = slice_index bytes at + 256 * slice_index bytes (at + 1)

-- the fourteen numbers that begin at a place
abbrev pub words : List ℕ → ℕ → List ℕ
words bytes at = map (λ i. word bytes (at + 2 * i)) (range_with_len 0 14)

-- the node that fourteen numbers make
abbrev pub node_of : List ℕ → Node
node_of ns =
    record {
      a = slice_index ns 0;
      b = slice_index ns 1;
      c = slice_index ns 2;
      ring = slice_index ns 3;
      sides = slice_index ns 4;
      count = slice_index ns 5;
      children = take 8 (drop 6 ns);
    }

-- the node that begins at a place
abbrev pub node_at : List ℕ → ℕ → Node
node_at bytes at = node_of (words bytes at)

-- the first n nodes
abbrev pub nodes_in : List ℕ → ℕ → List Node
nodes_in bytes n = map (λ k. node_at bytes (offset k)) (range_with_len 0 n)

-- every element but the n from a place on is as it was
abbrev pub KeptOutside : {X : Type 0} → X → ℕ → ℕ → List X → List X → Type 0
KeptOutside d n at old new = (j : ℕ) → (j < at) ⊎ (at + n ≤ j) → slice_index_or new j d ≡ slice_index_or old j d

-- every byte but the 28 from a place on is as it was
abbrev pub KeptBut : ℕ → List ℕ → List ℕ → Type 0
KeptBut = KeptOutside 0 28
