-- What a check of the tables tells.
use Rattle.std.specs.Prelude.{◌≡◌, ℕ, Bool, true, false, cond, List, length, nat_le, Ok, Err, Result, Some, None, Option}
use Rattle.plane.specs.declared.Point.{Point}
use Rattle.plane.specs.declared.Edge.{Edge}
use Rattle.refusal.specs.declared.Cause.TheVariants.{OutOfRange, TableTooShort}
use Rattle.refusal.specs.declared.Layer.TheVariants.{Check}
use Rattle.refusal.specs.declared.Refusal.{Refusal}
use Rattle.refusal.specs.Numbers.{refused}
use Rattle.rules.specs.Rules.{first_broken}
use Rattle.sheet.specs.declared.tables.Loop.{Loop}
use Rattle.sheet.specs.declared.tables.Size.{Size}
use Rattle.sheet.specs.Load.{roomy}
use Rattle.sheet.specs.Sheets.{Sheet}
use Rattle.checking.specs.Entries.{wrong_entry}
use Rattle.checking.specs.Held.{Holds, held_sheet}

-- the tables that a check is lent have their least sizes: 3,077 strokes, and those of points, edges and loops
abbrev pub check_room : ℕ → ℕ → ℕ → ℕ → Bool
check_room points edges loops strokes = cond (nat_le 3077 strokes) (roomy points edges loops) false

-- a sheet passes, or is refused with the first rule that it breaks
abbrev pub passes : Option Refusal → Result (Unit {0}) Refusal
passes None = Ok tt
passes (Some e) = Err e

-- the first wrong entry is told, or else the first rule that the sheet breaks which the tables hold
abbrev pub judged : Option ℕ → Sheet → Result (Unit {0}) Refusal
judged None s = passes (first_broken s)
judged (Some i) s = Err (refused OutOfRange Check i)

-- over tables that are long enough
unfoldable pub check_said : Size → List Point → List Edge → List Loop → Result (Unit {0}) Refusal
check_said z ps es ls = judged (wrong_entry z ps es ls) (held_sheet z ps es ls)

-- over any tables: one that is too short comes first
abbrev pub tables_said : Size → List Point → List Edge → List Loop → ℕ → Result (Unit {0}) Refusal
tables_said z ps es ls strokes =
    cond (check_room (length ps) (length es) (length ls) strokes) (check_said z ps es ls) (Err (refused TableTooShort Check 0))

-- the theorem: over tables that are long enough and hold a sheet, the check passes exactly where it keeps the eight rules, and tells the
-- first that it breaks
unfoldable pub SheetChecked : Size → List Point → List Edge → List Loop → ℕ → Result (Unit {0}) Refusal → Type 0
SheetChecked z ps es ls strokes said =
    (s : Sheet) → Holds z ps es ls s → check_room (length ps) (length es) (length ls) strokes ≡ true → said ≡ passes (first_broken s)
