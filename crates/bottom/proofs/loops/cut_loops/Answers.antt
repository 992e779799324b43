use Rattle.std.proofs.Common.{ap, sym, ◌∙◌, drop, map, ◌+◌}
use Rattle.bottom.specs.Cuts.{poured}
use Rattle.checking.specs.Held.{ring_at}
use Rattle.plane.specs.Points.{place_of}
use Rattle.bottom.proofs.Pouring.{pour_end, pour_goes, pour_stuck}
use Rattle.bottom.proofs.loops.cut_loops.Goals as goal

pub returns-then-not-cut_loop-clause-nodes : goal.returns-then-not-cut_loop-clause-nodes
returns-then-not-cut_loop-clause-nodes g c =
    c.loop-number.invariant.0
    ∙ pour_stuck _ _ _ _ c.args.loops.now c.loop-number.number c.loop-number-test.true _ _ c.loop_edges-row.ensures.value _ _ c.cut_loop.ensures.nodes c.if-not-cut_loop.true

pub loop-number-preserved : goal.loop-number-preserved
loop-number-preserved g c = (
  c.loop-number.invariant.0
      ∙ pour_goes _ _ _ _ c.args.loops.now c.loop-number.number c.loop-number-test.true _ _ c.loop_edges-row.ensures.value _ _ c.cut_loop.ensures.nodes c.if-not-cut_loop.false
      ∙ ap (λ room. poured (place_of c.args.points.now) c.args.listed.now room (c.loop-number.number + 1)
      (map (ring_at c.args.edges.now) (drop (c.loop-number.number + 1) c.args.loops.now)) (g.S.ReadStore.nodes c.cut_loop.new.store)) (sym c.cut_loop.ensures.room),
  c.cut_loop.ensures.room ∙ c.loop-number.invariant.1,
)

pub returns-clause-nodes : goal.returns-clause-nodes
returns-clause-nodes g c = c.loop-number.invariant.0 ∙ pour_end _ _ _ _ c.args.loops.now c.loop-number.number _ c.loop-number-test.false
