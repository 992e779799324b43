use Rattle.std.proofs.Common.{refl, ◌∙◌, arith}
use Rattle.std.proofs.lemmas.Result.{err_from_is_err_and}
use Rattle.sheet.proofs.Links.{linked_first, linked_more, linked_all}
use Rattle.sheet.proofs.Several.{sofar_none, sofar_more, sofar_fault, sofar_all}
use Rattle.sheet.proofs.body.link_corners.Goals as goal

pub loop-done-init : goal.loop-done-init
loop-done-init c = (sofar_none _ _ _ _ _ _ (linked_first _ _), refl)

pub returns-in_err-next-clause-read : goal.returns-in_err-next-clause-read
returns-in_err-next-clause-read c =
    let p = err_from_is_err_and c.from_residual.result c.from_residual.ensures.1 in
    let v = c.in_err-next.ensures.read in
    let s = c.loop-done.invariant.0 in
    rw (p.1, p.2) record { value = sofar_fault _ s _ c.loop-done-test.true (λ _ _. v.value); same = v.same ∙ s.file_same }

pub loop-done-preserved : goal.loop-done-preserved
loop-done-preserved c =
    let v = c.in_ok-next.ensures.read in (
      sofar_more _ c.loop-done.invariant.0 _ _ _ _ c.loop-done-test.true (λ _ _. v.value) v.same
          (λ done e. linked_more _ _ _ _ done e _ c.in_ok-next.next c.append.ensures.kept),
      c.append.ensures.lent ∙ c.loop-done.invariant.1,
    )

pub returns-clause-read : goal.returns-clause-read
returns-clause-read c =
    let s = c.loop-done.invariant.0 in
    let a = sofar_all _ s c.loop-done-test.false in
    record { value = (a.0, a.1, (linked_all _ _ _ _ a.0 a.2 _ c.append-2.ensures.kept, omega (arith, a.3))); same = s.file_same }
