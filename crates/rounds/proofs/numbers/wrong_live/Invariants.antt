use Rattle.std.proofs.Common.{◌≡◌, drop}
use Rattle.rounds.specs.Rounds.{wrong_live}
use Rattle.rounds.proofs.numbers.wrong_live.Given as goal

-- what the numbers up to here leave to those that follow
abbrev pub invariant-loop-at : goal.invariant-loop-at
invariant-loop-at l = wrong_live l.count 0 0 l.live ≡ wrong_live l.count l.least l.at (drop l.at l.live)
