-- The first entry of the tables that is not as it is where they hold a sheet. A size is what the board knows of the sheet.
use Rattle.std.specs.Prelude.{ℕ, ◌+◌, Bool, not, cond, ◌&&◌, List, [], ◌∷◌, take, drop, position, ◌==◌, nat_le, nat_lt, Some, None, Option}
use Rattle.std.specs.Option.{option_map}
use Rattle.plane.specs.declared.Point.{Point}
use Rattle.plane.specs.declared.Edge.{Edge}
use Rattle.plane.specs.Edges.{outside, same_edge}
use Rattle.plane.specs.Points.{same_point}
use Rattle.rules.specs.Held.{loop_edges}
use Rattle.sheet.specs.declared.tables.Loop.{Loop}
use Rattle.sheet.specs.declared.tables.Size.{Size}
use Rattle.sheet.specs.Sheets.{corners}

abbrev pub is_within : ℕ → ℕ → ℕ → Bool
is_within least most x = nat_le least x && nat_le x most

-- the size is one that a sheet can have
abbrev pub is_size : Size → Bool
is_size z =
    (is_within 2 8191 z.width && is_within 2 8191 z.height) && (nat_le z.inner 1024 && (nat_le z.loops 2050 && nat_le z.corners 6150))

-- the first answer there is
abbrev pub first_of : Option ℕ → Option ℕ → Option ℕ
first_of None next = next
first_of (Some i) next = Some i

-- the first entry that is not as wanted, counted on from `at`
abbrev pub unlike : {X : Type 0} → (X → X → Bool) → ℕ → List X → List X → Option ℕ
unlike same at [] found = None
unlike same at (x ∷ wanted) [] = Some at
unlike same at (x ∷ wanted) (y ∷ found) = cond (same x y) (unlike same (at + 1) wanted found) (Some at)

-- strictly inside the sheet
abbrev pub is_inside : Size → Point → Bool
is_inside z p = (nat_lt 0 p.x && nat_lt p.x z.width) && (nat_lt 0 p.y && nat_lt p.y z.height)

-- the four corners of the sheet come first, and then points strictly inside
abbrev pub wrong_point : Size → List Point → Option ℕ
wrong_point z ps =
    first_of (unlike same_point 0 (corners z.width z.height) (take 4 ps))
    (option_map (λ i. 4 + i) (position (λ p. not (is_inside z p)) (take z.inner (drop 4 ps))))

-- the first wrong entry of the points; entry 0 where no sheet has this size
abbrev pub wrong_vertex : Size → List Point → Option ℕ
wrong_vertex z ps = cond (is_size z) (wrong_point z ps) (Some 0)

-- a loop's entry, where the loops before it have `start` corners together
abbrev pub is_entry : Size → ℕ → Loop → Bool
is_entry z start l =
    (nat_le l.numeral 255 && l.start == start)
    && ((nat_le 3 l.corners && nat_le l.corners (z.inner + 4)) && nat_le (start + l.corners) z.corners)

-- the loops from entry `at` on stand one behind another, and have all corners that there are
abbrev pub wrong_loop : Size → ℕ → ℕ → List Loop → Option ℕ
wrong_loop z at start [] = cond (start == z.corners) None (Some at)
wrong_loop z at start (l ∷ ls) = cond (is_entry z start l) (wrong_loop z (at + 1) (start + l.corners) ls) (Some at)

-- where the first of these edges starts, or else at `first`
abbrev pub next_start : ℕ → List Edge → ℕ
next_start first [] = first
next_start first (e ∷ es) = e.from

-- the edge starts at a vertex, and ends where it should
abbrev pub is_link : ℕ → Edge → ℕ → Bool
is_link vertices e next = nat_lt e.from vertices && e.to == next

-- the edges of a loop from entry `at` on go from vertex to vertex, each to where the next one starts, and the last to `first`
abbrev pub wrong_link : ℕ → ℕ → ℕ → List Edge → Option ℕ
wrong_link vertices first at [] = None
wrong_link vertices first at (e ∷ es) =
    cond (is_link vertices e (next_start first es)) (wrong_link vertices first (at + 1) es) (Some at)

-- the edges of each loop close up
abbrev pub wrong_ring : ℕ → List Edge → List Loop → Option ℕ
wrong_ring vertices es [] = None
wrong_ring vertices es (l ∷ ls) =
    first_of (wrong_link vertices (next_start 0 (loop_edges es l)) l.start (loop_edges es l)) (wrong_ring vertices es ls)

-- so do those of all loops, and the outside edges follow
abbrev pub wrong_edge : Size → List Edge → List Loop → Option ℕ
wrong_edge z es ls = first_of (wrong_ring (z.inner + 4) es ls) (unlike same_edge z.corners outside (take 4 (drop z.corners es)))

-- the first wrong entry: of the points, then of the loops, then of the edges; entry 0 where no sheet has this size
unfoldable pub wrong_entry : Size → List Point → List Edge → List Loop → Option ℕ
wrong_entry z ps es ls =
    cond (is_size z)
    (first_of (wrong_point z ps) (first_of (wrong_loop z 0 0 (take z.loops ls)) (wrong_edge z es (take z.loops ls))))
    (Some 0)
