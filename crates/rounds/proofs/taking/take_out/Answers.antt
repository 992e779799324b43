use Rattle.std.proofs.Common.{ap, length, sym}
use Rattle.plane.specs.Points.{place_of}
use Rattle.rounds.specs.Rounds.{round_nodes}
use Rattle.rounds.proofs.Taken.{taken_refused}
use Rattle.rounds.proofs.taking.take_out.Goals as goal

pub returns-in-Some-clause-nodes : goal.returns-in-Some-clause-nodes
returns-in-Some-clause-nodes g c =
    sym (ap (λ s. round_nodes s (g.S.ReadStore.nodes c.args.store.now))
    (taken_refused (place_of c.args.points.now) c.args.held.now _ c.args.marks.now c.args.tally c.args.rounds _ (length c.args.live.now) _ _ _
    _ c.count-count.ensures c.capacity.ensures c.count_kept.ensures.count c.in-Some.ensures))
