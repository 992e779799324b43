-- What a check tells, in the words of the rules.
use Rattle.std.specs.Prelude.{◌≡◌, ℕ, List, length, true, Result}
use Rattle.plane.specs.declared.Point.{Point}
use Rattle.plane.specs.declared.Edge.{Edge}
use Rattle.refusal.specs.declared.Refusal.{Refusal}
use Rattle.rules.specs.Sound.{Judges}
use Rattle.sheet.specs.declared.tables.Loop.{Loop}
use Rattle.sheet.specs.declared.tables.Size.{Size}
use Rattle.sheet.specs.Sheets.{Sheet}
use Rattle.checking.specs.Checks.{check_room}
use Rattle.checking.specs.Held.{Holds}

-- the theorem: over tables that are long enough and hold a sheet, the check passes exactly where the sheet keeps all eight rules, and is
-- refused exactly with the least rule that is broken, at the least place where it is
unfoldable pub SheetJudged : Size → List Point → List Edge → List Loop → ℕ → Result (Unit {0}) Refusal → Type 0
SheetJudged z ps es ls strokes said =
    (s : Sheet) → Holds z ps es ls s → check_room (length ps) (length es) (length ls) strokes ≡ true → Judges s said
