use Rattle.fans.proofs.Tallies.{Counted}
use Rattle.fans.proofs.counts.tally_all.Given as goal

-- the table has the degrees over the live nodes up to here
abbrev pub invariant-loop-k : goal.invariant-loop-k
invariant-loop-k g l = Counted (g.S.ReadStore.nodes l.store) l.live l.degree l.k-index
