use Rattle.std.proofs.Common.{◌≡◌, ◌+◌, ◌-◌, ◌<◌, drop, length, refl, sym, ap, ◌∙◌, subst, arith}
use borrow.Rule.Slice.PartMut.{put_mid}
use Rattle.runs.proofs.Played.{begun, behind, filled_whole, lent_long, outcomes_next, played_next, put_alike, rest_next, runs_whole, used_next}
use Rattle.runs.proofs.go_on.Goals as goal

pub loop-i-init : goal.loop-i-init
loop-i-init g c = (begun g.K.Kernel.means _ c.args.answers.now, refl, omega arith, refl, refl)

pub loop-i-preserved : goal.loop-i-preserved
loop-i-preserved g c =
    let v = c.loop-i.invariant in
    let within = v.2 in
    let some = c.loop-i-test.true in
    let few = c.min-count.ensures in
    let outs = c.loop-i.auto.outcomes in
    let x = c.take_turn-outcome in
    let inside : c.loop-i.i < length c.args.turns.now = omega (arith, some, few) in
    let room : c.loop-i.i < length c.loop-i.outcomes = omega (arith, some, few, outs) in
    let back : length x.new.answers ≡ length c.loop-i.answers - c.loop-i.used = x.auto.answers ∙ lent_long c.loop-i.used c.loop-i.answers in
    let alike = put_alike c.loop-i.used c.loop-i.answers x.new.answers within back in
    let long = alike.long in
    let fills = x.ensures.filled in
    let lent = lent_long c.loop-i.used c.loop-i.answers in
    let n = c.filled-used.ensures in (
      played_next g.K.Kernel.means _ c.args.turns.now c.loop-i.outcomes c.loop-i.answers x.new.answers c.loop-i.i c.loop-i.used _ _ c.index-turns-i.result x.result inside room
          c.index-turns-i.is v.1 within back v.0 x.ensures.step,
      ap (λ n. c.loop-i.used + n) n
          ∙ used_next g.K.Kernel.means c.args.turns.now c.loop-i.outcomes c.loop-i.i c.loop-i.used c.index-turns-i.result x.result inside room c.index-turns-i.is v.1,
      omega (arith, long, fills, lent, n, within),
      subst (λ k. drop (c.loop-i.used + k) (put_mid c.loop-i.used (length c.loop-i.answers - c.loop-i.used) c.loop-i.answers x.new.answers) ≡ drop (c.loop-i.used + k) c.args.answers.now)
          (sym n) (rest_next c.loop-i.used _ c.args.answers.now c.loop-i.answers x.new.answers within back x.ensures.rest v.3),
      outcomes_next c.loop-i.i c.args.outcomes.now c.loop-i.outcomes x.result v.4,
    )

pub returns-clause-answers : goal.returns-clause-answers
returns-clause-answers g c =
    let done = c.loop-i-test.false in
    let few = c.min-count.ensures in
    let outs = c.loop-i.auto.outcomes in
    let v = c.loop-i.invariant in
    let all = v.1 ∙ filled_whole c.loop-i.i c.args.turns.now c.loop-i.outcomes (omega (arith, done, few, outs)) in
    subst (λ k. drop k c.loop-i.answers ≡ drop k c.args.answers.now) all v.3

pub returns-clause-outcomes : goal.returns-clause-outcomes
returns-clause-outcomes g c =
    let few = c.min-count.ensures in
    let end = c.loop-i.auto.i-end in
    behind c.loop-i.i (length c.args.turns.now) c.loop-i.outcomes c.args.outcomes.now (omega (arith, few, end)) c.loop-i.invariant.4

pub returns-clause-run : goal.returns-clause-run
returns-clause-run g c =
    let done = c.loop-i-test.false in
    let few = c.min-count.ensures in
    let outs = c.loop-i.auto.outcomes in
    runs_whole g.K.Kernel.means _ _ c.loop-i.i c.loop-i.answers c.args.turns.now c.loop-i.outcomes (omega (arith, done, few, outs)) c.loop-i.invariant.0
