use Rattle.std.proofs.Common.{arith, ap, refl, sym}
use Rattle.rounds.proofs.Sounds.{looked_all, looked_ends, looked_more, looked_none, looked_skip}
use Rattle.rounds.proofs.choices.look_all.Goals as goal

pub loop-i-init : goal.loop-i-init
loop-i-init c = (looked_none _ _ _ _ (ap (λ ms. record { marks = ms; chosen = 0; left = 0; fresh = 0 }) (sym c.requires.marks)), refl, refl)

pub loop-i-preserved-then-degree-eq0 : goal.loop-i-preserved-then-degree-eq0
loop-i-preserved-then-degree-eq0 c =
    let l = c.loop-i.invariant in
    (looked_skip _ _ _ _ _ l.0 c.loop-i-test.true (c.requires.degrees _ c.loop-i-test.true c.if-degree-eq0.true), l.1, l.2)

pub returns-in_default-clause-looked : goal.returns-in_default-clause-looked
returns-in_default-clause-looked c =
    let l = c.loop-i.invariant in
    sym (looked_ends _ _ _ _ _ l.0 _ c.loop-i-test.true c.in_default.ensures)

pub loop-i-preserved : goal.loop-i-preserved
loop-i-preserved c =
    let l = c.loop-i.invariant in
    let width = l.0.long in
    let found = l.1 in
    let links = l.2 in
    (looked_more _ _ _ _ _ l.0 _ c.loop-i-test.true c.in-Some.ensures (omega arith), omega arith, omega arith)

pub returns-clause-looked : goal.returns-clause-looked
returns-clause-looked c =
    let l = c.loop-i.invariant in
    sym (looked_all _ _ _ _ _ l.0 c.loop-i-test.false (omega arith)).0
