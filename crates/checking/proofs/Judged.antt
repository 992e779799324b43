-- What a check tells of the sheet that tables hold, in the words of the rules.
use Rattle.std.proofs.Common.{◌≡◌, ℕ, false, List, None, Some, Ok, Err, Option, Result, length, refl, sym, ap, ◌∙◌}
use Rattle.std.proofs.lemmas.Bool.{false≢true}
use Rattle.plane.specs.declared.Edge.{Edge}
use Rattle.plane.specs.declared.Point.{Point}
use Rattle.refusal.specs.declared.Refusal.{Refusal}
use Rattle.rules.proofs.Sound.{rules_tell}
use Rattle.rules.specs.Rules.{first_broken}
use Rattle.rules.specs.Sound.{Judges}
use Rattle.sheet.specs.declared.tables.Loop.{Loop}
use Rattle.sheet.specs.declared.tables.Size.{Size}
use Rattle.sheet.specs.Sheets.{Sheet}
use Rattle.checking.specs.Checks.{SheetChecked, check_room, check_said, passes}
use Rattle.checking.specs.Judging.{SheetJudged}
use Rattle.checking.proofs.Told.{sheet_told}

passed : (o : Option Refusal) → passes o ≡ Ok tt → o ≡ None
passed None h = refl
passed (Some e) h = cc

refused_with : (o : Option Refusal) (e : Refusal) → passes o ≡ Err e → o ≡ Some e
refused_with None e h = cc
refused_with (Some x) e h = cc

pub judges : (s : Sheet) (said : Result (Unit {0}) Refusal) → said ≡ passes (first_broken s) → Judges s said
judges s said h =
    let told = rules_tell s in
    record {
      passes = (λ q. told.none.0 (passed (first_broken s) (sym h ∙ q)), λ k. h ∙ ap passes (told.none.1 k));
      refuses = λ e. (λ q. (told.some e).0 (refused_with (first_broken s) e (sym h ∙ q)), λ f. h ∙ ap passes ((told.some e).1 f));
    }

pub sheet_judged : (z : Size) (ps : List Point) (es : List Edge) (ls : List Loop) (room : ℕ) (said : Result (Unit {0}) Refusal)
    → said ≡ check_said z ps es ls → SheetJudged z ps es ls room said
unfolding SheetChecked SheetJudged
sheet_judged z ps es ls room said h s holds long = judges s said (sheet_told z ps es ls room said h s holds long)

-- of tables that are too short nothing is told
pub short_judged : (z : Size) (ps : List Point) (es : List Edge) (ls : List Loop) (room : ℕ) (said : Result (Unit {0}) Refusal)
    → false ≡ check_room (length ps) (length es) (length ls) room → SheetJudged z ps es ls room said
unfolding SheetJudged
short_judged z ps es ls room said short s holds long = absurd (false≢true (short ∙ long))
