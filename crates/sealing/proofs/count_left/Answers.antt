use Rattle.std.proofs.Common.{◌+◌, ◌-◌, ap, ◌∙◌, arith}
use Rattle.fans.specs.Around.{left_from}
use Rattle.sealing.proofs.Left.{none_left, some_left}
use Rattle.sealing.proofs.count_left.Goals.{then-table-v-ne0, else-table-v-ne0}
use Rattle.sealing.proofs.count_left.Goals as goal

pub loop-v-preserved : goal.loop-v-preserved
loop-v-preserved g c =
    let i = c.loop-v.invariant in
    let count = c.in-Ok.ensures.counts (c.loop-v.v + 4) (omega (arith, c.requires.few, c.loop-v-test.true)) in
    let rest = left_from (g.S.ReadStore.nodes c.args.store.now) c.args.live.now (c.args.inner - (c.loop-v.v + 1)) (c.loop-v.v + 1 + 4) in
    elim c.if-table-v-ne0.branch [
      | then-table-v-ne0 w ↦ (
        ap (λ n. n + rest) w.left-is ∙ some_left _ _ c.args.inner c.loop-v.v c.loop-v.left _ _ c.loop-v-test.true i.0 count w.if-table-v-ne0.true,
        omega (arith, w.left-is, i.1),
      )
      | else-table-v-ne0 w ↦ (
        ap (λ n. n + rest) w.left-is ∙ none_left _ _ c.args.inner c.loop-v.v c.loop-v.left _ _ c.loop-v-test.true i.0 count w.if-table-v-ne0.false,
        omega (arith, w.left-is, i.1),
      )
    ]
