use Rattle.std.proofs.Common.{◌≡◌, take}
use Rattle.fans.specs.Around.{nodes_of}
use Rattle.rounds.specs.Near.{padded}
use Rattle.rounds.proofs.holes.numbers.Given as goal

-- those up to here are in place
abbrev pub invariant-loop-i : goal.invariant-loop-i
invariant-loop-i l = l.children ≡ padded (nodes_of (take l.i l.links))
