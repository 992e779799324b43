-- The eight rules of a sheet, each by the first place where it is broken.
use Rattle.std.specs.Prelude.{ℕ, ◌+◌, ◌-◌, ◌*◌, Bool, not, cond, ◌&&◌, ◌||◌, List, [], ◌∷◌, ◌++◌, length, position, ℤ, pos, ◌-ℤ◌, ◌*ℤ◌, int_lt, ◌==◌, Some, None, Option, is_some}
use Rattle.std.specs.List.{list_any, range_with_len}
use Rattle.std.specs.Option.{option_map}
use Rattle.plane.specs.declared.Edge.{Edge}
use Rattle.plane.specs.Edges.{back, ring_edges, same_edge, sum_of}
use Rattle.plane.specs.Points.{GridPoint, det, on_segment, place_of, same_point, spot_at}
use Rattle.refusal.specs.declared.Cause.{Cause}
use Rattle.refusal.specs.declared.Cause.TheVariants.{LoopSum, SamePoint, VertexTwice, EdgeTwice, NoReverse, VertexUnused, EdgesTouch, LoopTurned}
use Rattle.refusal.specs.declared.Layer.TheVariants.{Check}
use Rattle.refusal.specs.declared.Refusal.{Refusal}
use Rattle.refusal.specs.Numbers.{refused}
use Rattle.sheet.specs.Sheets.{Ring, Sheet, edges_of, points_of}
use Rattle.clash.specs.declared.ClashAt.{ClashAt}
use Rattle.clash.specs.Clashes.{first_clash_in}

-- the later of two elements that clash
abbrev pub later_of : Option ClashAt → Option ℕ
later_of = option_map (λ (c : ClashAt). c.later)

-- how many triangles the loops would be cut into
abbrev pub triangles_in : List Ring → ℕ
triangles_in [] = 0
triangles_in (r ∷ rs) = (length r.corners - 2) + triangles_in rs

-- 13: as many as tile a sheet with that many inner vertices
abbrev pub sum_broken : Sheet → Option ℕ
sum_broken s = cond (triangles_in s.rings == 2 * length s.inner + 2) None (Some 0)

-- 14: no two vertices are the same point
abbrev pub points_broken : Sheet → Option ℕ
points_broken s = later_of (first_clash_in same_point (points_of s))

-- 15: no loop names a vertex twice
abbrev pub names_twice : Ring → Bool
names_twice r = is_some (first_clash_in (λ u v. u == v) r.corners)

abbrev pub loops_broken : Sheet → Option ℕ
loops_broken s = position names_twice s.rings

-- 16: no directed edge is listed twice
abbrev pub edges_broken : Sheet → Option ℕ
edges_broken s = later_of (first_clash_in same_edge (edges_of s))

abbrev pub is_listed : List Edge → Edge → Bool
is_listed es e = list_any (same_edge e) es

-- 17: the reverse of every listed edge is listed
abbrev pub reverses_broken : Sheet → Option ℕ
reverses_broken s = position (λ e. not (is_listed (edges_of s) (back e))) (edges_of s)

abbrev pub names : Ring → ℕ → Bool
names r v = list_any (λ u. u == v) r.corners

-- 18: every inner vertex is a corner of some loop
abbrev pub vertices_broken : Sheet → Option ℕ
vertices_broken s = option_map (λ i. 4 + i) (position (λ v. not (list_any (λ r. names r v) s.rings)) (range_with_len 4 (length s.inner)))

-- the edges of the sheet, each as it is first listed
abbrev pub first_listed : List Edge → List Edge → List Edge
first_listed before [] = []
first_listed before (e ∷ es) = cond (is_listed before (back e)) (first_listed (before ++ e ∷ []) es) (e ∷ first_listed (before ++ e ∷ []) es)

abbrev pub drawn_edges : Sheet → List Edge
drawn_edges s = first_listed [] (edges_of s)

-- q is on the segment from a to b, or at an end
abbrev pub lies_on : GridPoint → GridPoint → GridPoint → Bool
lies_on a b q = on_segment a b (spot_at q)

abbrev pub opposite : ℤ → ℤ → Bool
opposite d e = (int_lt (pos 0) d && int_lt e (pos 0)) || (int_lt d (pos 0) && int_lt (pos 0) e)

-- the segments from a to b and from c to d cross: each has the other's ends strictly on both of its sides
abbrev pub cross : GridPoint → GridPoint → GridPoint → GridPoint → Bool
cross a b c d = opposite (det a b (spot_at c)) (det a b (spot_at d)) && opposite (det c d (spot_at a)) (det c d (spot_at b))

-- they share a point: an end of one lies on the other, or they cross
abbrev pub meet : GridPoint → GridPoint → GridPoint → GridPoint → Bool
meet a b c d = (lies_on a b c || lies_on a b d) || ((lies_on c d a || lies_on c d b) || cross a b c d)

-- two edges with a common vertex overlap: of u to v and u to w, v lies on the second or w on the first
abbrev pub overlap : (ℕ → GridPoint) → ℕ → ℕ → ℕ → Bool
overlap at u v w = lies_on (at u) (at w) (at v) || lies_on (at u) (at v) (at w)

-- two edges may not stand together: without a common vertex they share a point, or with one the other end of one lies on the other
abbrev pub touch : (ℕ → GridPoint) → Edge → Edge → Bool
touch at e f =
    cond (e.from == f.from) (overlap at e.from e.to f.to)
    (cond (e.from == f.to) (overlap at e.from e.to f.from)
    (cond (e.to == f.from) (overlap at e.to e.from f.to)
    (cond (e.to == f.to) (overlap at e.to e.from f.from)
    (meet (at e.from) (at e.to) (at f.from) (at f.to)))))

-- 19: no two edges of the sheet touch where they share no vertex
abbrev pub strokes_broken : Sheet → Option ℕ
strokes_broken s = later_of (first_clash_in (touch (place_of (points_of s))) (drawn_edges s))

-- twice the area that an edge sweeps from the sheet's corner (0, 0)
abbrev pub swept : (ℕ → GridPoint) → Edge → ℤ
swept at e = (at e.from).x *ℤ (at e.to).y -ℤ (at e.to).x *ℤ (at e.from).y

-- twice the signed area of a loop
abbrev pub signed_area : (ℕ → GridPoint) → List ℕ → ℤ
signed_area at cs = sum_of (swept at) (ring_edges cs)

-- 20: every loop's signed area is above 0
abbrev pub turns_broken : Sheet → Option ℕ
turns_broken s = position (λ r. not (int_lt (pos 0) (signed_area (place_of (points_of s)) r.corners))) s.rings

-- the first of two answers
abbrev pub or_else : Option Refusal → Option Refusal → Option Refusal
or_else None next = next
or_else (Some e) next = Some e

abbrev pub told : Cause → Option ℕ → Option Refusal
told cause = option_map (refused cause Check)

-- the first rule that is broken, at its first place
abbrev pub first_broken : Sheet → Option Refusal
first_broken s =
    or_else (told LoopSum (sum_broken s))
    (or_else (told SamePoint (points_broken s))
    (or_else (told VertexTwice (loops_broken s))
    (or_else (told EdgeTwice (edges_broken s))
    (or_else (told NoReverse (reverses_broken s))
    (or_else (told VertexUnused (vertices_broken s))
    (or_else (told EdgesTouch (strokes_broken s))
    (told LoopTurned (turns_broken s))))))))
