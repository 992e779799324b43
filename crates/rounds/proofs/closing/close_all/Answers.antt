use Rattle.std.proofs.Common.{arith}
use Rattle.rounds.proofs.Closed.{closing_room}
use Rattle.rounds.proofs.closing.close_all.Goals as goal

pub close_at-requires-clause-room : goal.close_at-requires-clause-room
close_at-requires-clause-room g c =
    let i = c.loop-vertex.invariant in
    let fits = c.requires.room in
    let room = i.1 in
    closing_room _ _ _ _ _ _ i.0 _ c.loop-vertex-test.true c.if-not-marks-vertex.false (omega arith)
