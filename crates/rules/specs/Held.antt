-- The rules over the tables that a board is lent, whatever these hold: the points, the listed edges, and the loops of a sheet with n
-- inner vertices. A loop's edges are so many from its first position on, and its corners are where they start.
use Rattle.std.specs.Prelude.{ℕ, ◌+◌, ◌-◌, ◌*◌, Bool, not, cond, List, [], ◌∷◌, map, take, drop, position, pos, int_lt, ◌==◌, Some, None, Option, is_some}
use Rattle.std.specs.List.{list_any, range_with_len}
use Rattle.std.specs.Option.{option_map}
use Rattle.plane.specs.declared.Point.{Point}
use Rattle.plane.specs.declared.Edge.{Edge}
use Rattle.plane.specs.Edges.{back, same_edge, sum_of}
use Rattle.plane.specs.Points.{place_of, same_point}
use Rattle.refusal.specs.declared.Cause.TheVariants.{LoopSum, SamePoint, VertexTwice, EdgeTwice, NoReverse, VertexUnused, EdgesTouch, LoopTurned}
use Rattle.refusal.specs.declared.Refusal.{Refusal}
use Rattle.sheet.specs.declared.tables.Loop.{Loop}
use Rattle.clash.specs.Clashes.{first_clash_in}
use Rattle.rules.specs.Rules.{first_listed, is_listed, later_of, or_else, swept, told, touch}

-- the edges of a loop, and its corners
abbrev pub loop_edges : List Edge → Loop → List Edge
loop_edges es l = take l.corners (drop l.start es)

abbrev pub loop_corners : List Edge → Loop → List ℕ
loop_corners es l = map (λ (e : Edge). e.from) (loop_edges es l)

abbrev pub triangles_at : List Loop → ℕ
triangles_at [] = 0
triangles_at (l ∷ ls) = (l.corners - 2) + triangles_at ls

abbrev pub sum_broken_at : ℕ → List Loop → Option ℕ
sum_broken_at n ls = cond (triangles_at ls == 2 * n + 2) None (Some 0)

abbrev pub points_broken_at : List Point → Option ℕ
points_broken_at ps = later_of (first_clash_in same_point ps)

abbrev pub names_twice_at : List Edge → Loop → Bool
names_twice_at es l = is_some (first_clash_in (λ u v. u == v) (loop_corners es l))

abbrev pub loops_broken_at : List Edge → List Loop → Option ℕ
loops_broken_at es ls = position (names_twice_at es) ls

abbrev pub edges_broken_at : List Edge → Option ℕ
edges_broken_at es = later_of (first_clash_in same_edge es)

abbrev pub reverses_broken_at : List Edge → Option ℕ
reverses_broken_at es = position (λ e. not (is_listed es (back e))) es

abbrev pub starts_at : ℕ → Edge → Bool
starts_at v e = e.from == v

abbrev pub vertices_broken_at : ℕ → List Edge → List Loop → Option ℕ
vertices_broken_at n es ls =
    option_map (λ i. 4 + i) (position (λ v. not (list_any (λ l. list_any (starts_at v) (loop_edges es l)) ls)) (range_with_len 4 n))

abbrev pub strokes_broken_at : List Point → List Edge → Option ℕ
strokes_broken_at ps es = later_of (first_clash_in (touch (place_of ps)) (first_listed [] es))

abbrev pub turns_broken_at : List Point → List Edge → List Loop → Option ℕ
turns_broken_at ps es ls = position (λ l. not (int_lt (pos 0) (sum_of (swept (place_of ps)) (loop_edges es l)))) ls

-- the first rule that the tables break, at its first place
abbrev pub first_broken_at : ℕ → List Point → List Edge → List Loop → Option Refusal
first_broken_at n ps es ls =
    or_else (told LoopSum (sum_broken_at n ls))
    (or_else (told SamePoint (points_broken_at ps))
    (or_else (told VertexTwice (loops_broken_at es ls))
    (or_else (told EdgeTwice (edges_broken_at es))
    (or_else (told NoReverse (reverses_broken_at es))
    (or_else (told VertexUnused (vertices_broken_at n es ls))
    (or_else (told EdgesTouch (strokes_broken_at ps es))
    (told LoopTurned (turns_broken_at ps es ls))))))))
