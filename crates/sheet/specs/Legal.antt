-- What a file that is taken describes: a sheet within its limits, and labels that can be told apart.
use Rattle.std.specs.Prelude.{◌≡◌, ℕ, ◌+◌, ◌<◌, ◌≤◌, List, length, All, Ok, ◌≢◌, slice_index_or}
use Rattle.plane.specs.declared.Point.{Point}
use Rattle.sheet.specs.declared.tables.Label.{Label}
use Rattle.sheet.specs.Files.{SheetFile, contents}
use Rattle.sheet.specs.Sheets.{Ring, Sheet, corners_in}

-- a point lies strictly inside a sheet of that size
pub record Inside (width height : ℕ) (p : Point) : Type 0 where
  pub right : 0 < p.x
  pub left : p.x < width
  pub above : 0 < p.y
  pub below : p.y < height

-- a loop on a sheet of so many vertices
pub record LegalRing (vertices : ℕ) (r : Ring) : Type 0 where
  pub numeral : r.numeral ≤ 255
  pub least : 3 ≤ length r.corners
  pub most : length r.corners ≤ vertices
  pub named : All (λ v. v < vertices) r.corners

pub record LegalSheet (s : Sheet) : Type 0 where
  pub width : (2 ≤ s.width) × (s.width ≤ 8191)
  pub height : (2 ≤ s.height) × (s.height ≤ 8191)
  pub few : length s.inner ≤ 1024
  pub inside : All (Inside s.width s.height) s.inner
  pub loops : length s.rings ≤ 2050
  pub corners : corners_in s.rings ≤ 6150
  pub rings : All (LegalRing (length s.inner + 4)) s.rings

pub record LegalLabel (l : Label) : Type 0 where
  pub numeral : (1 ≤ l.numeral) × (l.numeral ≤ 255)
  pub length : (1 ≤ l.length) × (l.length ≤ 63)

-- no two labels have one numeral
abbrev pub Apart : List Label → Type 0
Apart ls = (i j : ℕ) (d : Label) → i < j → j < length ls → (slice_index_or ls i d).numeral ≢ (slice_index_or ls j d).numeral

pub record LegalFile (f : SheetFile) : Type 0 where
  pub sheet : LegalSheet f.sheet
  pub few : length f.labels ≤ 255
  pub labels : All LegalLabel f.labels
  pub apart : Apart f.labels

-- the theorem: every file that is taken is within the limits
abbrev pub TakenIsLegal : Type 0
TakenIsLegal = (file : List ℕ) (f : SheetFile) → contents file ≡ Ok f → LegalFile f
