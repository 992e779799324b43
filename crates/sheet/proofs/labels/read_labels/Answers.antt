use Rattle.std.proofs.Common.{◌≡◌, rules, ◌+◌, ◌≤◌, List, [], ◌∷◌, ◌++◌, length, Ok, sym, ap, ◌∙◌, subst}
use Rattle.std.proofs.lemmas.Result.{err_from_is_err_and}
use Rattle.sheet.specs.declared.tables.Label.{Label}
use Rattle.sheet.specs.Files.{Within}
use Rattle.sheet.proofs.Labelling.{Found, found_none, found_here, found_other, is_wanted, not_wanted, stops_label, stops_end, ends}
use Rattle.sheet.proofs.Several.{sofar_none, sofar_more, sofar_fault, sofar_all}
use Rattle.sheet.proofs.labels.read_labels.Goals as goal
use Rattle.sheet.proofs.labels.read_labels.Goals.{then-eq, else-eq}

pub loop-done-init : goal.loop-done-init
loop-done-init c = (sofar_none _ _ _ _ _ _ (found_none _), tt)

pub loop-done-preserved : goal.loop-done-preserved
loop-done-preserved c =
    let l = c.in_ok-label.ensures in
    let x = c.in_ok-label.label in
    let more : (done : List Label) → Found c.args.wanted c.loop-done.seen c.loop-done.found done
    → Found c.args.wanted c.read_label.new.seen c.if-eq.found (done ++ x ∷ []) =
    λ done f.
    let long : length c.loop-done.seen ≡ 256 = search rules in
    elim c.if-eq.branch [
      | then-eq w ↦ found_here _ _ _ done f x l.seen.0 long l.seen.1 _ _ l.seen.2 (is_wanted _ _ (sym w.if-eq.true ∙ c.eq.ensures)) w.found-is
      | else-eq w ↦ rw w.found-is (found_other _ _ _ done f x l.seen.0 long l.seen.1 _ l.seen.2 (not_wanted _ _ (sym w.if-eq.false ∙ c.eq.ensures)))
    ] in
    let inside : Within c.count.new.self.file.now c.if-eq.found =
    elim c.if-eq.branch [
      | then-eq w ↦ rw w.found-is (subst (λ f. x.place + x.length ≤ length f) c.loop-done.invariant.0.file_same l.within)
      | else-eq w ↦ rw w.found-is c.loop-done.invariant.1
    ] in (
      sofar_more _ c.loop-done.invariant.0 x _ _ _ c.loop-done-test.true (λ done f. l.value done f.marked) l.file more,
      inside,
    )

pub returns-in_err-label-clause-value : goal.returns-in_err-label-clause-value
returns-in_err-label-clause-value c =
    let p = err_from_is_err_and c.from_residual-in_err-label.result c.from_residual-in_err-label.ensures.1 in
    let n = c.in_ok-count.ensures in
    let l = c.in_err-label.ensures in
    rw (p.1, p.2)
    (sym (stops_label _ _ _ _ _ _ n.read.value n.read.same _ (sofar_fault _ c.loop-done.invariant.0 _ c.loop-done-test.true (λ done f. l.value done f.marked))))

pub returns-in_err-finish-clause-value : goal.returns-in_err-finish-clause-value
returns-in_err-finish-clause-value c =
    let p = err_from_is_err_and c.from_residual-in_err-finish.result c.from_residual-in_err-finish.ensures.1 in
    let n = c.in_ok-count.ensures in
    let a = sofar_all _ c.loop-done.invariant.0 c.loop-done-test.false in
    rw (p.1, p.2) (sym (stops_end _ _ _ _ _ _ n.read.value n.read.same _ _ _ a.1 c.loop-done.invariant.0.file_same _ c.in_err-finish.ensures))

pub returns-clause-value : goal.returns-clause-value
returns-clause-value c =
    let n = c.in_ok-count.ensures in
    let a = sofar_all _ c.loop-done.invariant.0 c.loop-done-test.false in
    sym (ends _ _ _ _ _ _ n.read.value n.read.same _ _ _ a.1 c.loop-done.invariant.0.file_same c.in_ok-finish.ensures ∙ ap Ok (sym a.2.finds))
