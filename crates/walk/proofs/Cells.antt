-- A bottom node tells the cell that its triangle tells.
use Rattle.std.proofs.Common.{◌≡◌, ℕ, zero, suc, ◌+◌, ◌==◌, ◌%◌, ◌/◌, Bool, true, false, cond, List, [], ◌∷◌, ◌++◌, ℤ, pos, negsuc, nat_lt, Some, map, refl, sym, ap, ◌∙◌, arith}
use Rattle.std.specs.List.{flat_map}
use Rattle.std.proofs.lemmas.Bool.Decides.{nat_tests}
use Rattle.plane.specs.Edges.{outside, ring_edges}
use Rattle.plane.specs.declared.Side.{Side}
use Rattle.plane.specs.Points.{Spot, det, int_same, place_of, side_of}
use Rattle.sheet.specs.declared.answer.Answer.TheVariants.{OpenEdge}
use Rattle.sheet.specs.Sheets.{Ring, Sheet, edges_of, points_of}
use Rattle.nodes.specs.declared.node.Node.{Node}
use Rattle.tiling.specs.Cells.{face, joins, listed, open_edge, some_of, vertex}
use Rattle.tiling.specs.Theorems as tiling
use Rattle.bottom.specs.Bottom.{is_drawn, mark, sides_number}
use Rattle.rules.specs.Planes.{plane_of}
use Rattle.hierarchy.specs.Layers.{shape}
use Rattle.walk.specs.Telling.{cell_of}
use Rattle.walk.proofs.Vertices.{places_in}
use Rattle.walk.specs.Walks.{edge_or_face, is_on, told_by, told_node}

-- on which side of the line from one vertex of a sheet to another a point is
abbrev side_in : Sheet → Spot → ℕ → ℕ → Side
side_in s p u v = side_of (det (place_of (points_of s) u) (place_of (points_of s) v) p)

on_by_sign : (d : ℤ) → is_on (side_of d) ≡ int_same d (pos 0)
on_by_sign (pos zero) = refl
on_by_sign (pos (suc n)) = grind (arith, nat_tests)
on_by_sign (negsuc n) = refl

edge_cell : (b : Bool) (u v : ℕ) → cell_of (cond b (OpenEdge u v) (OpenEdge v u)) ≡ cond b (open_edge u v) (open_edge v u)
edge_cell true u v = refl
edge_cell false u v = refl

side_cell : (b drawn : Bool) (u v l : ℕ) → b ≡ drawn → cell_of (edge_or_face b u v l) ≡ cond drawn (tiling.edge_named u v) (face l)
side_cell true d u v l h = edge_cell (nat_lt u v) u v ∙ ap (λ b. cond b (tiling.edge_named u v) (face l)) h
side_cell false d u v l h = ap (λ b. cond b (tiling.edge_named u v) (face l)) h

-- the number of a triangle's sides, read side by side, and below 8
abbrev pub marks : (x y w : Bool) → ℕ
marks x y w = mark x 1 + (mark y 2 + mark w 4)

pub record Marked (x y w : Bool) : Type 0 where
  pub first : (marks x y w % 2 == 1) ≡ x
  pub second : ((marks x y w / 2) % 2 == 1) ≡ y
  pub third : ((marks x y w / 4) % 2 == 1) ≡ w
  pub few : nat_lt (marks x y w) 8 ≡ true

pub marked : (x y w : Bool) → Marked x y w
marked true true true = record { first = refl; second = refl; third = refl; few = refl }
marked true true false = record { first = refl; second = refl; third = refl; few = refl }
marked true false true = record { first = refl; second = refl; third = refl; few = refl }
marked true false false = record { first = refl; second = refl; third = refl; few = refl }
marked false true true = record { first = refl; second = refl; third = refl; few = refl }
marked false true false = record { first = refl; second = refl; third = refl; few = refl }
marked false false true = record { first = refl; second = refl; third = refl; few = refl }
marked false false false = record { first = refl; second = refl; third = refl; few = refl }

-- the edges of the sheet are those that are listed of it as a subdivision
pub listed_is : (s : Sheet) → listed (plane_of s) ≡ edges_of s
listed_is s = ap (λ es. es ++ outside) (rows s.rings)
  where
    rows : (rs : List Ring) → flat_map ring_edges (map (λ (r : Ring). r.corners) rs) ≡ flat_map (λ (r : Ring). ring_edges r.corners) rs
    rows [] = refl
    rows (r ∷ rs) = ap (λ es. ring_edges r.corners ++ es) (rows rs)

-- what the sides tell, whichever the point is on, and whichever are edges of the sheet
cells_same : (a b c l : ℕ) (ab bc ca x y w : Bool)
    → cell_of (told_by a b c (marks ab bc ca) l x y w)
    ≡ cond x
    (cond w (vertex a) (cond y (vertex b) (cond ab (tiling.edge_named a b) (face l))))
    (cond y (cond w (vertex c) (cond bc (tiling.edge_named b c) (face l))) (cond w (cond ca (tiling.edge_named c a) (face l)) (face l)))
cells_same a b c l ab bc ca true true true = refl
cells_same a b c l ab bc ca true true false = refl
cells_same a b c l ab bc ca true false true = refl
cells_same a b c l ab bc ca true false false = side_cell _ ab a b l (marked ab bc ca).first
cells_same a b c l ab bc ca false true true = refl
cells_same a b c l ab bc ca false true false = side_cell _ bc b c l (marked ab bc ca).second
cells_same a b c l ab bc ca false false true = side_cell _ ca c a l (marked ab bc ca).third
cells_same a b c l ab bc ca false false false = refl

pub node_tells : (s : Sheet) (p : Spot) (n : Node) → n.sides ≡ sides_number (edges_of s) (shape n)
    → cell_of (told_node (Some p) (places_in s n) n) ≡ tiling.told_by (plane_of s) n.ring (shape n) p
node_tells s p n sides =
    let at = place_of (points_of s) in
    let es = edges_of s in
    let l = n.ring in
    let x = on_by_sign (det (at n.a) (at n.b) p) in
    let y = on_by_sign (det (at n.b) (at n.c) p) in
    let w = on_by_sign (det (at n.c) (at n.a) p) in
    let all = sym (listed_is s) in
    ap (λ k. cell_of (told_by n.a n.b n.c k l (is_on (side_in s p n.a n.b)) (is_on (side_in s p n.b n.c)) (is_on (side_in s p n.c n.a)))) sides
    ∙ cells_same n.a n.b n.c l (is_drawn es n.a n.b) (is_drawn es n.b n.c) (is_drawn es n.c n.a)
    (is_on (side_in s p n.a n.b)) (is_on (side_in s p n.b n.c)) (is_on (side_in s p n.c n.a))
    ∙ (λ i.
    cond (x i)
    (cond (w i) (vertex n.a)
    (cond (y i) (vertex n.b) (cond (some_of (joins n.a n.b) (all i)) (tiling.edge_named n.a n.b) (face l))))
    (cond (y i)
    (cond (w i) (vertex n.c) (cond (some_of (joins n.b n.c) (all i)) (tiling.edge_named n.b n.c) (face l)))
    (cond (w i) (cond (some_of (joins n.c n.a) (all i)) (tiling.edge_named n.c n.a) (face l)) (face l))))
