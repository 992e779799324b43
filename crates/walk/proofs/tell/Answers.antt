use Rattle.std.proofs.Common.{rules, sym}
use Rattle.walk.specs.Walks.{vertex_read}
use Rattle.walk.proofs.Places.{ok_is, told_is}
use Rattle.walk.proofs.tell.Goals as goal

pub returns : goal.returns
returns g c =
    told_is (vertex_read c.args.size c.args.points.now) (g.K.Kernel.means c.args.tip.now) (g.S.ReadStore.nodes c.args.store.now) c.args.size.loops
    c.args.bottom.node c.in-Some.k c.args.bottom.tests c.in-Some-places_at.at c.told.result c.in-Some.is (search rules)
    (ok_is _ _ (sym c.in-Some-places_at.ensures.said)) c.told.ensures
