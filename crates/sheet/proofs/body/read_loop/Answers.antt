use Rattle.std.proofs.Common.{sym, ap, ◌∙◌}
use Rattle.sheet.specs.Sheets.{loop_at}
use Rattle.sheet.proofs.Rings.{goes}
use Rattle.sheet.proofs.body.read_loop.Goals as goal

pub returns-clause-read : goal.returns-clause-read
returns-clause-read c =
    let m = c.in_ok-numeral.ensures.read in
    let k = c.in_ok-corners.ensures in
    let cs = c.in_ok-read_corners.ensures.read in
    record {
      value = (
        _,
        goes _ _ _ _ _ _ _ m.value m.same _ _ _ k.read.value k.read.same _ _ cs.value.1,
        (ap (loop_at c.in_ok-numeral.numeral c.args.start) (sym cs.value.2.1), k.within.1, cs.value.2.0),
      );
      same = cs.same ∙ k.read.same ∙ m.same;
    }
