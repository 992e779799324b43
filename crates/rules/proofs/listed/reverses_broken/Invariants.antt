use Rattle.std.proofs.Common.{◌≡◌}
use Rattle.rules.proofs.Searches.{alone_from}
use Rattle.rules.specs.Held.{reverses_broken_at}
use Rattle.rules.proofs.listed.reverses_broken.Given as goal

-- what the edges up to here leave to those that follow
abbrev pub invariant-loop-i : goal.invariant-loop-i
invariant-loop-i l = reverses_broken_at l.edges ≡ alone_from l.edges l.i
