use Rattle.std.proofs.Common.{◌∙◌, arith}
use Rattle.std.proofs.lemmas.Result.{err_from_is_err_and}
use Rattle.lent.proofs.Puts.{puts_next}
use Rattle.sheet.proofs.Several.{sofar_more, sofar_fault, sofar_all}
use Rattle.sheet.proofs.body.read_vertices.Goals as goal

pub returns-in_err-point-clause-read : goal.returns-in_err-point-clause-read
returns-in_err-point-clause-read c =
    let p = err_from_is_err_and c.from_residual.result c.from_residual.ensures.1 in
    let v = c.in_err-point.ensures.read in
    let s = c.loop-done.invariant.0 in
    rw (p.1, p.2) record { value = sofar_fault _ s _ c.loop-done-test.true (λ _ _. v.value); same = v.same ∙ s.file_same }

pub loop-done-preserved : goal.loop-done-preserved
loop-done-preserved c =
    let v = c.in_ok-point.ensures.read in (
      sofar_more _ c.loop-done.invariant.0 _ _ _ _ c.loop-done-test.true (λ _ _. v.value) v.same
          (λ done e. puts_next _ _ _ done c.in_ok-point.point e c.append.ensures.kept),
      c.append.ensures.lent ∙ c.loop-done.invariant.1,
    )

pub returns-clause-read : goal.returns-clause-read
returns-clause-read c =
    let s = c.loop-done.invariant.0 in
    let a = sofar_all _ s c.loop-done-test.false in
    record { value = (a.0, a.1, (a.2, omega (arith, a.3))); same = s.file_same }
