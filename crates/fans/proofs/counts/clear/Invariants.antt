use Rattle.std.proofs.Common.{◌≡◌, ℕ, ◌<◌, get_or}
use Rattle.fans.proofs.counts.clear.Given as goal

-- no node is counted at the vertices up to here
abbrev pub invariant-loop-count : goal.invariant-loop-count
invariant-loop-count l = (v : ℕ) → v < l.count-index → get_or l.degree v 0 ≡ 0
