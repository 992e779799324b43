-- The theorems, from their parts.
use Rattle.std.proofs.Common.{◌≡◌, ℕ, ◌<◌, true, List, length, pos, ◌<ℤ◌}
use Rattle.plane.specs.Edges.{In}
use Rattle.plane.specs.Points.{Spot, is_on_sheet}
use Rattle.tiling.specs.Cells.{Subdivision}
use Rattle.tiling.specs.Lemmas.{OpenSide}
use Rattle.tiling.specs.Order.{InOrder, Triangulated}
use Rattle.tiling.specs.Theorems.{FanCovers, OneCell, TriangleTells, told_by}
use Rattle.tiling.specs.Triangles.{Triangle, closed_holds}
use Rattle.tiling.proofs.Covering as covering
use Rattle.tiling.proofs.Holding.{between_true, closed_true, sheet_true, true_closed}
use Rattle.tiling.proofs.OpenSides as sides
use Rattle.tiling.proofs.Sheets.{of_all, somewhere}
use Rattle.tiling.proofs.Telling.{tells}
use Rattle.tiling.proofs.Uniqueness.{one_at_most}

pub open_side : OpenSide
open_side at a b c d left right p z h = sides.open_side (at a) (at b) (at c) (at d) p z left right (between_true (at a) (at b) p h)

pub fan_covers : FanCovers
fan_covers at v ring ts cut k l t i p z h =
    let r = covering.fan_covers at v ring ts cut k l t i p z (closed_true at t p h) in
    (r.0, r.1, true_closed at r.0 p r.2)

module _ (s : Subdivision) (triangles : ℕ → List Triangle) (o : InOrder s) (g : Triangulated s triangles) (p : Spot) (z : pos 0 <ℤ p.Z) where
  held : is_on_sheet s.width s.height p ≡ true
      → (l : ℕ) × (l < length s.loops) × ((t : Triangle) × In t (triangles l) × (closed_holds s.at t p ≡ true))
  held on =
      let w = sheet_true s.width s.height p on in
      let t = somewhere s triangles o g p z w.from_left w.to_right w.from_below w.to_above in
      let l = of_all s triangles o g t.0 t.1 in
      (l.0, l.1, (t.0, l.2, true_closed s.at t.0 p t.2))

pub triangle_tells : TriangleTells
triangle_tells s triangles o g p z = (held s triangles o g p z, λ l h t i k. tells s triangles o g p z l h t i (closed_true s.at t p k))

pub one_cell : OneCell
one_cell s triangles o g p z on =
    let r = held s triangles o g p z on in
    let c = told_by s r.0 r.2.0 p in
    let h = (triangle_tells s triangles o g p z).1 r.0 r.1 r.2.0 r.2.1 r.2.2 in
    (c, h, λ d k. one_at_most s triangles o g p z c d h k)
