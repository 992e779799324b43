-- The numbers of a node are the words from its place on.
use Rattle.std.proofs.Common.{arith}
use Rattle.nodes.specs.Bytes.{room_of}
use Rattle.nodes.proofs.Blocks.{number_held}
use Rattle.nodes.proofs.block_store.RefMutSliceU8Memory.number.Goals as goal

pub returns : goal.returns
returns c =
    let bytes = c.args.self.now.now in
    let held = number_held bytes (room_of bytes) c.args.k c.args.i c.requires.place c.requires.number in
    omega (arith, rw (← c.place.ensures.begins) at held)
