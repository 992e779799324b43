-- The theorems: every point of a sheet is in exactly one cell, a triangle of a cut tells which, and what is cut anew is covered.
use Rattle.std.specs.Prelude.{◌≡◌, ℕ, ◌<◌, Bool, true, cond, List, length, ℤ, pos, ◌<ℤ◌, nat_lt}
use Rattle.plane.specs.Edges.{In, edge}
use Rattle.plane.specs.Points.{GridPoint, Spot, int_same, is_on_sheet}
use Rattle.tiling.specs.Cells.{Cell, Subdivision, cell_holds, drawn, face, open_edge, vertex}
use Rattle.tiling.specs.Cuts.{Cut}
use Rattle.tiling.specs.Order.{InOrder, Triangulated}
use Rattle.tiling.specs.Triangles.{AllLeftward, Triangle, closed_holds, fan, side_at}

-- the edge between u and v, its lower vertex first
abbrev pub edge_named : ℕ → ℕ → Cell
edge_named u v = cond (nat_lt u v) (open_edge u v) (open_edge v u)

-- What a triangle of loop l tells of a point that it holds, by the determinants of its three sides, and by which of them
-- are edges of the sheet: two that are 0 tell their common corner, one that is 0 and an edge tells that edge, and all
-- else the face of the loop.
abbrev pub told : ℕ → Triangle → (ab bc ca : Bool) → (d e f : ℤ) → Cell
told l t ab bc ca d e f =
    cond (int_same d (pos 0))
    (cond (int_same f (pos 0)) (vertex t.a) (cond (int_same e (pos 0)) (vertex t.b) (cond ab (edge_named t.a t.b) (face l))))
    (cond (int_same e (pos 0))
    (cond (int_same f (pos 0)) (vertex t.c) (cond bc (edge_named t.b t.c) (face l)))
    (cond (int_same f (pos 0)) (cond ca (edge_named t.c t.a) (face l)) (face l)))

-- the same of a triangle of a subdivision
abbrev pub told_by : Subdivision → ℕ → Triangle → Spot → Cell
told_by s l t p =
    told l t (drawn s t.a t.b) (drawn s t.b t.c) (drawn s t.c t.a)
    (side_at s.at p (edge t.a t.b)) (side_at s.at p (edge t.b t.c)) (side_at s.at p (edge t.c t.a))

-- exactly one cell holds each point of the closed sheet
abbrev pub OneCell : Type 0
OneCell =
    (s : Subdivision) (triangles : ℕ → List Triangle) → InOrder s → Triangulated s triangles
    → (p : Spot) → pos 0 <ℤ p.Z → is_on_sheet s.width s.height p ≡ true
    → (c : Cell) × (cell_holds s c p ≡ true) × ((d : Cell) → cell_holds s d p ≡ true → d ≡ c)

-- some triangle holds it, and every one that does tells that cell
abbrev pub TriangleTells : Type 0
TriangleTells =
    (s : Subdivision) (triangles : ℕ → List Triangle) → InOrder s → Triangulated s triangles
    → (p : Spot) → pos 0 <ℤ p.Z
    → (is_on_sheet s.width s.height p ≡ true
    → (l : ℕ) × (l < length s.loops) × ((t : Triangle) × In t (triangles l) × (closed_holds s.at t p ≡ true)))
    × ((l : ℕ) → l < length s.loops → (t : Triangle) → In t (triangles l) → closed_holds s.at t p ≡ true
    → cell_holds s (told_by s l t p) p ≡ true)

-- what each closed triangle holds that closes the hole around a vertex, a closed triangle of the vertex's fan holds too
abbrev pub FanCovers : Type 0
FanCovers =
    (at : ℕ → GridPoint) (v : ℕ) (ring : List ℕ) (ts : List Triangle) → Cut ring ts → AllLeftward at (fan v ring) → AllLeftward at ts
    → (t : Triangle) → In t ts → (p : Spot) → pos 0 <ℤ p.Z → closed_holds at t p ≡ true
    → (c : Triangle) × In c (fan v ring) × (closed_holds at c p ≡ true)
