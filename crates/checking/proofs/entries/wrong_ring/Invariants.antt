use Rattle.std.proofs.Common.{◌≡◌, drop}
use Rattle.checking.specs.Entries.{wrong_ring}
use Rattle.checking.proofs.entries.wrong_ring.Given as goal

-- what the loops up to here leave to those that follow
abbrev pub invariant-loop-item : goal.invariant-loop-item
invariant-loop-item l = wrong_ring l.vertices l.edges l.loops ≡ wrong_ring l.vertices l.edges (drop l.item-index l.loops)
