use Rattle.std.proofs.Common.{◌≡◌, ◌-◌, ◌∙◌, ap, arith}
use Rattle.std.specs.List.{range_with_len}
use Rattle.lent.specs.Kept.{kept_in, puts}
use Rattle.lent.proofs.Puts.{range_next}
use Rattle.lent.proofs.put_range.Goals as goal

pub loop-number-preserved : goal.loop-number-preserved
loop-number-preserved c =
    let i = c.loop-number.invariant in
    let low = i.2 in
    (range_next _ _ _ _ _ low i.0 c.append.ensures.kept, c.append.ensures.lent ∙ i.1, omega arith, omega (arith, c.loop-number-test.true))

pub returns-clause-kept : goal.returns-clause-kept
returns-clause-kept c =
    let i = c.loop-number.invariant in
    let low = i.2 in
    let high = i.3 in
    let all : c.loop-number.number - c.args.first ≡ c.args.end - c.args.first = omega (arith, c.loop-number-test.false) in
    i.0 ∙ ap (λ n. puts (kept_in c.args.list.now) (range_with_len c.args.first n)) all
