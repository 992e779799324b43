use Rattle.std.proofs.Common.{sym, ap, ◌∙◌, arith}
use Rattle.std.proofs.lemmas.Result.{err_from_is_err_and}
use Rattle.sheet.specs.Files.{ring}
use Rattle.sheet.proofs.Looped.{looped_more}
use Rattle.sheet.proofs.Several.{sofar_more, sofar_fault, sofar_all}
use Rattle.sheet.proofs.body.read_loops.Goals as goal

pub returns-in_err-entry-clause-read : goal.returns-in_err-entry-clause-read
returns-in_err-entry-clause-read c =
    let p = err_from_is_err_and c.from_residual.result c.from_residual.ensures.1 in
    let v = c.in_err-entry.ensures.read in
    let s = c.loop-done.invariant.0 in
    rw (p.1, p.2)
    record {
      value =
          sofar_fault _ s _ c.loop-done-test.true
          (λ done h. sym v.value ∙ ap (λ s. ring c.args.vertices s c.loop-done.reader.file.now c.loop-done.reader.at) h.starts);
      same = v.same ∙ s.file_same;
    }

pub loop-done-preserved : goal.loop-done-preserved
loop-done-preserved c =
    let v = c.in_ok-entry.ensures in
    let x = v.read.value.0 in (
      sofar_more _ c.loop-done.invariant.0 x _ _ _ c.loop-done-test.true
          (λ done h. sym v.read.value.1 ∙ ap (λ s. ring c.args.vertices s c.loop-done.reader.file.now c.loop-done.reader.at) h.starts)
          v.read.same
          (λ done h. looped_more _ _ _ _ _ done h x _ _ _ v.read.value.2.0 v.read.value.2.2 c.append.ensures.kept),
      v.lent ∙ c.loop-done.invariant.1,
      c.append.ensures.lent ∙ c.loop-done.invariant.2,
      v.read.value.2.1,
    )

pub returns-clause-read : goal.returns-clause-read
returns-clause-read c =
    let s = c.loop-done.invariant.0 in
    let a = sofar_all _ s c.loop-done-test.false in
    record { value = (a.0, a.1, (a.2.starts, omega (arith, a.3), a.2.edges, a.2.loops)); same = s.file_same }
