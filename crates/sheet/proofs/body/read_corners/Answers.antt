use Rattle.std.proofs.Common.{refl, ◌∙◌, arith}
use Rattle.std.proofs.lemmas.Result.{err_from_is_err_and}
use Rattle.reader.specs.Kinds.{corner}
use Rattle.sheet.proofs.Told.{reads_by}
use Rattle.sheet.proofs.Several.{several_first, several_none}
use Rattle.sheet.proofs.body.read_corners.Goals as goal

pub returns-in_err-first : goal.returns-in_err-first
returns-in_err-first c =
    let p = err_from_is_err_and c.from_residual.result c.from_residual.ensures.1 in
    let v = c.in_err-first.ensures.read in
    rw (p.1, p.2) record { read = record { value = several_none (λ file _. corner c.args.vertices file) _ _ _ _ (omega arith) v.value; same = v.same }; lent = refl }

pub returns : goal.returns
returns c =
    let v = c.in_ok-first.ensures.read in
    let e = c.link_corners.ensures in
    record {
      read = record {
        value =
            reads_by c.link_corners.result _ _ _ _ _ (several_first (λ file _. corner c.args.vertices file) _ _ _ _ _ _ (omega arith) v.value v.same)
            e.read.value (λ x y p. (p.0, omega (arith, p.1)));
        same = e.read.same ∙ v.same;
      };
      lent = e.lent;
    }
