use Rattle.std.proofs.Common.{ap, ◌∙◌}
use Rattle.std.proofs.lemmas.Result.{err_from_is_err_and}
use Rattle.std.specs.List.{flat_map}
use Rattle.lent.specs.Kept.{kept_in, puts}
use Rattle.lent.proofs.Puts.{puts_both}
use Rattle.plane.specs.Edges.{ring_edges}
use Rattle.sheet.specs.Sheets.{corners}
use Rattle.plane.specs.Edges.{outside}
use Rattle.sheet.proofs.Told.{told_ok}
use Rattle.sheet.proofs.Wholes.{stops_count, stops_loops, goes, size_is}
use Rattle.sheet.proofs.body.read_sheet.Goals as goal

pub returns-in_err-count-clause-read : goal.returns-in_err-count-clause-read
returns-in_err-count-clause-read c =
    let p = err_from_is_err_and c.from_residual-in_err-count.result c.from_residual-in_err-count.ensures.1 in
    let h = c.in_ok-width.ensures.read in
    let vs = c.in_ok-read_vertices.ensures.read in
    let n = c.in_err-count.ensures.read in
    rw (p.1, p.2) record { value = stops_count _ _ _ _ _ (told_ok h.value.1 h.value.2) h.same _ _ _ vs.value.1 vs.same _ n.value; same = n.same ∙ vs.same ∙ h.same }

pub returns-in_err-corners-clause-read : goal.returns-in_err-corners-clause-read
returns-in_err-corners-clause-read c =
    let p = err_from_is_err_and c.from_residual-in_err-corners.result c.from_residual-in_err-corners.ensures.1 in
    let h = c.in_ok-width.ensures.read in
    let vs = c.in_ok-read_vertices.ensures.read in
    let n = c.in_ok-count.ensures.read in
    let rs = c.in_err-corners.ensures.read in
    rw (p.1, p.2)
    record {
      value = stops_loops _ _ _ _ _ (told_ok h.value.1 h.value.2) h.same _ _ _ vs.value.1 vs.same _ _ _ n.value n.same _ rs.value;
      same = rs.same ∙ n.same ∙ vs.same ∙ h.same;
    }

pub returns-clause-read : goal.returns-clause-read
returns-clause-read c =
    let h = c.in_ok-width.ensures.read in
    let vs = c.in_ok-read_vertices.ensures.read in
    let n = c.in_ok-count.ensures.read in
    let rs = c.in_ok-corners.ensures.read in
    record {
      value = (
        _,
        goes _ _ _ _ _ (told_ok h.value.1 h.value.2) h.same _ _ _ vs.value.1 vs.same _ _ _ n.value n.same _ _ rs.value.1,
        (
          size_is _ _ _ _ _ _ _ vs.value.2.1 rs.value.2.1 rs.value.2.0,
          puts_both (kept_in c.args.points.now) _ _ (corners c.in_ok-width.field-0.width c.in_ok-width.field-0.height) vs.value.0 (c.append_all.ensures.kept ∙ ap (puts (kept_in c.args.points.now)) c.corners.ensures) vs.value.2.0,
          puts_both (kept_in c.args.edges.now) _ _ (flat_map (λ r. ring_edges r.corners) rs.value.0) outside rs.value.2.2 c.append_all-2.ensures.kept,
          rs.value.2.3,
        ),
      );
      same = rs.same ∙ n.same ∙ vs.same ∙ h.same;
    }
