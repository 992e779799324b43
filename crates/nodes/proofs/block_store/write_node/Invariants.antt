-- The numbers below i are written, and no byte outside the node is.
use Rattle.std.proofs.Common.{◌≡◌, ℕ, ◌+◌, ◌*◌, ◌<◌, get_or}
use Rattle.nodes.specs.Bytes.{word, KeptBut}
use Rattle.nodes.specs.Nodes.{numbers}
use Rattle.nodes.proofs.block_store.write_node.Given as goal

abbrev pub invariant-loop-i : goal.invariant-loop-i
invariant-loop-i l =
    ((m : ℕ) → m < l.i → word l.bytes (l.at + 2 * m) ≡ get_or (numbers l.node) m 0)
    × KeptBut l.at l.initial.bytes l.bytes
