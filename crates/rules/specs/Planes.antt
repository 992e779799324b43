-- A sheet as a subdivision of the plane, and the theorem that a sheet which keeps the rules is one in order.
use Rattle.std.specs.Prelude.{◌≡◌, ◌+◌, length, map, pos, None}
use Rattle.tiling.specs.Cells.{Subdivision}
use Rattle.tiling.specs.Order.{InOrder}
use Rattle.sheet.specs.Legal.{LegalSheet}
use Rattle.sheet.specs.Sheets.{Sheet, points_of}
use Rattle.plane.specs.Points.{place_of}
use Rattle.rules.specs.Rules.{first_broken}

abbrev pub plane_of : Sheet → Subdivision
plane_of s =
    record {
      width = pos s.width;
      height = pos s.height;
      vertices = length s.inner + 4;
      at = place_of (points_of s);
      loops = map (λ r. r.corners) s.rings;
    }

-- the theorem: a sheet within its limits that breaks no rule is a subdivision in order
abbrev pub CheckedIsInOrder : Type 0
CheckedIsInOrder = (s : Sheet) → LegalSheet s → first_broken s ≡ None → InOrder (plane_of s)
