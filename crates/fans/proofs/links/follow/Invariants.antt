use Rattle.fans.proofs.Fans.{Followed}
use Rattle.fans.proofs.links.follow.Given as goal

-- the front of the table has the fan up to here, which goes on at this place
abbrev pub invariant-loop-i : goal.invariant-loop-i
invariant-loop-i l = Followed l.around l.fn.links l.links l.i l.at
