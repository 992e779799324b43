use Rattle.std.proofs.Common.{◌≡◌, length, take}
use Rattle.rounds.specs.Near.{held_of}
use Rattle.rounds.proofs.held.hold.Given as goal

-- the nodes up to here are in place
abbrev pub invariant-loop-i : goal.invariant-loop-i
invariant-loop-i g l =
    (take l.i l.held ≡ held_of (g.S.ReadStore.nodes l.store) (take l.i l.live)) × (length l.held ≡ length l.initial.held)
