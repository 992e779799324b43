use Rattle.std.proofs.Common.{arith}
use Rattle.rounds.proofs.Taken.{none_around}
use Rattle.rounds.proofs.taking.choose.Goals as goal

pub look_all-requires-clause-degrees : goal.look_all-requires-clause-degrees
look_all-requires-clause-degrees g c =
    none_around _ _ c.degrees.new.degree _ c.requires.held c.in-Ok.ensures.said (λ v l. c.in-Ok.ensures.counts v (omega arith))
