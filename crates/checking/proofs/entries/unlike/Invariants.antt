use Rattle.std.proofs.Common.{◌≡◌, ◌+◌, drop}
use Rattle.checking.specs.Entries.{unlike}
use Rattle.checking.proofs.entries.unlike.Given as goal

-- what the elements up to here leave to those that follow
abbrev pub invariant-loop-i : goal.invariant-loop-i
invariant-loop-i g l = unlike g.T.PartialEq.eq l.at l.wanted l.found ≡ unlike g.T.PartialEq.eq (l.at + l.i) (drop l.i l.wanted) (drop l.i l.found)
