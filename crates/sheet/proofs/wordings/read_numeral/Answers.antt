use Rattle.std.proofs.Common.{refl, ap, ◌∙◌}
use Rattle.lent.proofs.Puts.{elements_from_puts}
use Rattle.sheet.specs.Sheets.{loops_of, size_of}
use Rattle.sheet.specs.Wordings.{numeral_in}
use Rattle.sheet.proofs.Legals.{sheet_known}
use Rattle.sheet.proofs.Loads.{few_loops}
use Rattle.sheet.proofs.Numerals.{numeral_told}
use Rattle.sheet.proofs.wordings.read_numeral.Goals as goal

pub returns : goal.returns
returns c =
    let v = c.in_ok-read_sheet.ensures in
    let s = v.read.value.0 in
    let legal = sheet_known c.args.reader.now.file.now c.args.reader.now.at s _ v.read.value.1 in
    let few = few_loops s (size_of s) refl legal.loops in
    let es = elements_from_puts _ _ _ (loops_of s) v.read.value.2.3 c.over-loops.ensures.kept few in
    record {
      value = (s, v.read.value.1, c.numeral_of_loop.ensures ∙ ap (λ es. numeral_in es c.args.face) es ∙ numeral_told s.rings c.args.face);
      same = v.read.same;
    }
