-- One node is written over the one that was at its place, and the bytes are as many as before.
use Rattle.std.proofs.Common.{◌≡◌, length, rules}
use Rattle.nodes.specs.Bytes.{room_of}
use Rattle.nodes.proofs.Blocks.{nodes_written}
use Rattle.nodes.proofs.block_store.RefMutSliceU8Memory.put.Goals as goal

pub returns-clause-nodes : goal.returns-clause-nodes
returns-clause-nodes c =
    let old = c.args.self.now.now in
    let new = c.write_node.new.bytes in
    let node = c.write_node.ensures in
    let l : length new ≡ length old = search rules in
    rw l (nodes_written old new (room_of old) c.args.k c.place-at.result c.args.node c.requires c.place-at.ensures.begins node.rest (search rules) node.written)
