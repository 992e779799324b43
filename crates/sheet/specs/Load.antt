-- What a load takes, and what it leaves in the tables.
use Rattle.std.specs.Prelude.{ℕ, Bool, false, cond, List, length, Ok, Err, Result, nat_le}
use Rattle.plane.specs.declared.Point.{Point}
use Rattle.refusal.specs.declared.Cause.TheVariants.{TableTooShort}
use Rattle.refusal.specs.declared.Refusal.{Refusal}
use Rattle.lent.specs.Kept.{over}
use Rattle.plane.specs.declared.Edge.{Edge}
use Rattle.sheet.specs.declared.tables.Loop.{Loop}
use Rattle.sheet.specs.Files.{contents}
use Rattle.reader.specs.Reading.{and_then, fault}
use Rattle.sheet.specs.Sheets.{Sheet}

-- tables of at least 1,028 points, 6,154 edges and 2,050 loops
abbrev pub roomy : ℕ → ℕ → ℕ → Bool
roomy points edges loops = cond (nat_le 1028 points) (cond (nat_le 6154 edges) (nat_le 2050 loops) false) false

-- the sheet of a file, or its first fault
unfoldable pub sheet_of : List ℕ → Result Sheet Refusal
sheet_of file = and_then (contents file) (λ f. Ok f.sheet)

-- the same over these tables: one that is too short comes first
abbrev pub taken : List Point → List Edge → List Loop → List ℕ → Result Sheet Refusal
taken points edges loops file = cond (roomy (length points) (length edges) (length loops)) (sheet_of file) (Err (fault TableTooShort 0))

-- a table holds what it has of the sheet in its front, and stays where the load is refused
abbrev pub upon : {X : Type 0} → Result Sheet Refusal → (Sheet → List X) → List X → List X
upon (Ok s) of table = over (of s) table
upon (Err e) of table = table
