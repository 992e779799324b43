use Rattle.std.proofs.Common.{◌+◌, ◌<◌, ◌≤◌, rules, ap, Ok, Err, sym, ◌∙◌, arith}
use Rattle.walk.specs.Walks.{walked}
use Rattle.walk.proofs.Downward.{down_ends, down_goes, down_lost, down_refused}
use Rattle.walk.proofs.steps.down.Goals as goal

pub returns-then-count-eq0 : goal.returns-then-count-eq0
returns-then-count-eq0 g c =
    ap Ok c.loop-step.invariant.1 ∙ sym (c.loop-step.invariant.0
    ∙ down_ends _ _ _ _ c.loop-step._step c.loop-step.node _ c.number-count.result (omega (arith, c.loop-step-test.true, c.count-step-end.ensures))
    c.number-count.ensures c.if-count-eq0.true)

pub returns-in_err-at : goal.returns-in_err-at
returns-in_err-at g c =
    search rules ∙ sym (c.loop-step.invariant.0
    ∙ down_refused _ _ _ _ c.loop-step._step c.loop-step.node _ c.number-count.result (omega (arith, c.loop-step-test.true, c.count-step-end.ensures))
    c.number-count.ensures c.if-count-eq0.false c.if-count-gt8.false c.first_child.result c.first_child.ensures.said _ c.in_err-at.was)

pub returns-in_default : goal.returns-in_default
returns-in_default g c =
    ap Err c.from-in_default.ensures ∙ sym (c.loop-step.invariant.0
    ∙ down_lost _ _ _ _ c.loop-step._step c.loop-step.node _ c.number-count.result (omega (arith, c.loop-step-test.true, c.count-step-end.ensures))
    c.number-count.ensures c.if-count-eq0.false c.if-count-gt8.false c.first_child.result c.first_child.ensures.said c.in_ok-at.at c.in_ok-at.was (search rules))

pub loop-step-preserved : goal.loop-step-preserved
loop-step-preserved g c = (
  c.loop-step.invariant.0
      ∙ down_goes _ _ _ _ c.loop-step._step c.loop-step.node _ c.number-count.result (omega (arith, c.loop-step-test.true, c.count-step-end.ensures))
      c.number-count.ensures c.if-count-eq0.false c.if-count-gt8.false c.first_child.result c.first_child.ensures.said c.in_ok-at.at c.in-Some.child c.in_ok-at.was c.in-Some.is,
  ap (λ o. walked o c.in_ok-at.at.tests) c.in-Some.is,
  (let below : c.in-Some.child < c.loop-step.node = search rules in let tests : c.in_ok-at.at.tests ≤ c.loop-step.at.tests + 24 = search rules in let room = c.loop-step.invariant.2 in omega (arith, below, tests, room)),
)
