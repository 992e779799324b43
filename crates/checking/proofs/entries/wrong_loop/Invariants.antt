use Rattle.std.proofs.Common.{◌≡◌, ◌≤◌, drop}
use Rattle.checking.specs.Entries.{wrong_loop}
use Rattle.checking.proofs.entries.wrong_loop.Given as goal

-- what the loops up to here leave to those that follow
abbrev pub invariant-loop-at : goal.invariant-loop-at
invariant-loop-at l = (wrong_loop l.size 0 0 l.loops ≡ wrong_loop l.size l.at l.start (drop l.at l.loops)) × (l.start ≤ l.size.corners)
