-- The sheet that tables hold.
use Rattle.std.specs.Prelude.{◌≡◌, ℕ, List, length, map, take, drop, true, None, Ok}
use Rattle.plane.specs.declared.Point.{Point}
use Rattle.plane.specs.declared.Edge.{Edge}
use Rattle.lent.specs.Kept.{over}
use Rattle.rules.specs.Held.{loop_corners}
use Rattle.sheet.specs.declared.tables.Loop.{Loop}
use Rattle.sheet.specs.declared.tables.Size.{Size}
use Rattle.sheet.specs.Legal.{LegalSheet}
use Rattle.sheet.specs.Load.{roomy, sheet_of}
use Rattle.sheet.specs.Sheets.{Ring, Sheet, edges_of, loops_of, points_of, size_of}
use Rattle.checking.specs.Entries.{wrong_entry}

abbrev pub ring_at : List Edge → Loop → Ring
ring_at es l = record { numeral = l.numeral; corners = loop_corners es l }

-- the sheet that is read off tables with these numbers of it
unfoldable pub held_sheet : Size → List Point → List Edge → List Loop → Sheet
held_sheet z ps es ls =
    record {
      width = z.width;
      height = z.height;
      inner = take z.inner (drop 4 ps);
      rings = map (ring_at es) (take z.loops ls);
    }

-- the tables hold a sheet: it is within its limits, of this size, and to write it over the fronts of the tables would change nothing
pub record Holds (z : Size) (ps : List Point) (es : List Edge) (ls : List Loop) (s : Sheet) : Type 0 where
  pub legal : LegalSheet s
  pub size : size_of s ≡ z
  pub points : over (points_of s) ps ≡ ps
  pub edges : over (edges_of s) es ≡ es
  pub loops : over (loops_of s) ls ≡ ls

-- tables without a wrong entry hold the sheet that is read off them
abbrev pub NoneWrong : Type 0
NoneWrong =
    (z : Size) (ps : List Point) (es : List Edge) (ls : List Loop) → roomy (length ps) (length es) (length ls) ≡ true
    → wrong_entry z ps es ls ≡ None → Holds z ps es ls (held_sheet z ps es ls)

-- tables that hold a sheet have no wrong entry, and it is the one that is read off them
abbrev pub OneHeld : Type 0
OneHeld =
    (z : Size) (ps : List Point) (es : List Edge) (ls : List Loop) (s : Sheet) → Holds z ps es ls s
    → (wrong_entry z ps es ls ≡ None) × (held_sheet z ps es ls ≡ s)

-- the theorem: tables that are long enough have no wrong entry exactly where they hold a sheet, and then it is the one that is read off them
abbrev pub HeldIsRead : Type 0
HeldIsRead = NoneWrong × OneHeld

-- the theorem: what a load leaves in tables is held there
abbrev pub LoadedIsHeld : Type 0
LoadedIsHeld =
    (file : List ℕ) (s : Sheet) (ps : List Point) (es : List Edge) (ls : List Loop) → sheet_of file ≡ Ok s
    → Holds (size_of s) (over (points_of s) ps) (over (edges_of s) es) (over (loops_of s) ls) s
