-- What the tables of a sheet break is what the sheet breaks.
use Rattle.std.specs.Prelude.{◌≡◌, length}
use Rattle.sheet.specs.Sheets.{Sheet, edges_of, loops_of, points_of}
use Rattle.rules.specs.Held.{first_broken_at}
use Rattle.rules.specs.Rules.{first_broken}

-- the theorem: the rules over the tables of a sheet are the rules of the sheet
abbrev pub TablesTell : Type 0
TablesTell = (s : Sheet) → first_broken_at (length s.inner) (points_of s) (edges_of s) (loops_of s) ≡ first_broken s
