use Rattle.std.proofs.Common.{◌≡◌, ◌+◌, drop}
use Rattle.checking.specs.Entries.{wrong_link}
use Rattle.checking.proofs.entries.wrong_link.Given as goal

-- what the edges up to here leave to those that follow
abbrev pub invariant-loop-i : goal.invariant-loop-i
invariant-loop-i l = wrong_link l.vertices l.first l.at l.edges ≡ wrong_link l.vertices l.first (l.at + l.i) (drop l.i l.edges)
