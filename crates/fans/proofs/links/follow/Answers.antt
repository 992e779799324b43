use Rattle.std.proofs.Common.{Some, ap, arith, length, sym, ◌∙◌}
use Rattle.std.specs.Option.{option_map}
use Rattle.fans.proofs.Fans.{followed_all, followed_back, followed_broken, followed_more, followed_none, written}
use Rattle.fans.proofs.links.follow.Goals as goal

pub loop-i-init : goal.loop-i-init
loop-i-init c = followed_none _ _ c.requires

pub loop-i-preserved : goal.loop-i-preserved
loop-i-preserved c =
    followed_more _ _ _ _ _ c.loop-i.invariant c.loop-i-test.true _ c.in_ok-at.ensures c.if-at-eq0.false

pub returns-in_err-at-clause-said : goal.returns-in_err-at-clause-said
returns-in_err-at-clause-said c =
    c.from_residual.ensures
    ∙ sym (ap (option_map length) (followed_broken _ _ _ _ _ c.loop-i.invariant c.loop-i-test.true c.in_err-at.ensures))

pub returns-then-at-eq0-clause-links : goal.returns-then-at-eq0-clause-links
returns-then-at-eq0-clause-links c = followed_back _ _ _ _ _ c.loop-i.invariant c.loop-i-test.true _ c.in_ok-at.ensures c.if-at-eq0.true

pub returns-then-at-eq0-clause-said : goal.returns-then-at-eq0-clause-said
returns-then-at-eq0-clause-said c =
    ap Some (sym (written _ _ _ (omega arith)))
    ∙ sym (ap (option_map length) (followed_back _ _ _ _ _ c.loop-i.invariant c.loop-i-test.true _ c.in_ok-at.ensures c.if-at-eq0.true))

pub returns-clause-said : goal.returns-clause-said
returns-clause-said c = sym (ap (option_map length) (followed_all _ _ _ _ _ c.loop-i.invariant c.loop-i-test.false))
