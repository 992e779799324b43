-- The edges of a sheet with where their ends are, and when two of them touch.
use Rattle.std.specs.Prelude.{◌≡◌, ◌≤◌, ℕ, Bool, cond, ◌==◌, ◌&&◌, List, [], length, map, nat_lt, Option, Ok, Err, Result, is_some}
use Rattle.plane.specs.declared.Point.{Point}
use Rattle.plane.specs.declared.Edge.{Edge}
use Rattle.plane.specs.Points.{vertex_of}
use Rattle.refusal.specs.declared.Cause.{Cause}
use Rattle.refusal.specs.declared.Cause.TheVariants.{TableTooShort, LoopSum, SamePoint, VertexTwice, EdgeTwice, NoReverse, VertexUnused, EdgesTouch, LoopTurned}
use Rattle.refusal.specs.declared.Refusal.{Refusal}
use Rattle.refusal.specs.declared.Layer.TheVariants.{Check}
use Rattle.refusal.specs.Numbers.{refused}
use Rattle.sheet.specs.declared.tables.Loop.{Loop}
use Rattle.sheet.specs.Legal.{LegalSheet}
use Rattle.sheet.specs.Sheets.{Sheet, edges_of, loops_of, points_of}
use Rattle.rules.specs.declared.strokes.Stroke.{Stroke}
use Rattle.rules.specs.Held.{edges_broken_at, loops_broken_at, points_broken_at, reverses_broken_at, strokes_broken_at, sum_broken_at, turns_broken_at, vertices_broken_at}
use Rattle.rules.specs.Rules.{first_broken, first_listed, or_else, told}
use Rattle.rules.specs.Segments.{boxes_meet, meet_at, overlap_at}

-- an edge with where its ends are
abbrev pub stroke_of : List Point → Edge → Stroke
stroke_of ps e = record { edge = e; start = vertex_of ps e.from; end = vertex_of ps e.to }

-- the edges as they are first listed, with where their ends are
abbrev pub strokes_of : List Point → List Edge → List Stroke
strokes_of ps es = map (stroke_of ps) (first_listed [] es)

-- two strokes may not stand together
abbrev pub strokes_join : Stroke → Stroke → Bool
strokes_join s t =
    cond (s.edge.from == t.edge.from) (overlap_at s.start s.end t.end)
    (cond (s.edge.from == t.edge.to) (overlap_at s.start s.end t.start)
    (cond (s.edge.to == t.edge.from) (overlap_at s.end s.start t.end)
    (cond (s.edge.to == t.edge.to) (overlap_at s.end s.start t.start)
    (meet_at s.start s.end t.start t.end))))

-- the same, for strokes that have the places of their edges' ends: these are apart where their boxes are
abbrev pub strokes_touch : Stroke → Stroke → Bool
strokes_touch s t = boxes_meet s.start s.end t.start t.end && strokes_join s t

-- how many strokes there are, where there is room for so many
abbrev pub room_said : ℕ → List Stroke → Result ℕ Cause
room_said room ss = cond (nat_lt room (length ss)) (Err TableTooShort) (Ok (length ss))

-- 19, where there is room for the strokes
abbrev pub strokes_said : ℕ → List Point → List Edge → Result (Option ℕ) Cause
strokes_said room ps es = cond (nat_lt room (length (first_listed [] es))) (Err TableTooShort) (Ok (strokes_broken_at ps es))

-- the rules from 16 to 18
abbrev pub listing_broken_at : ℕ → List Edge → List Loop → Option Refusal
listing_broken_at n es ls =
    or_else (told EdgeTwice (edges_broken_at es)) (or_else (told NoReverse (reverses_broken_at es)) (told VertexUnused (vertices_broken_at n es ls)))

-- the rules before 19
abbrev pub early_broken_at : ℕ → List Point → List Edge → List Loop → Option Refusal
early_broken_at n ps es ls =
    or_else (told LoopSum (sum_broken_at n ls))
    (or_else (told SamePoint (points_broken_at ps))
    (or_else (told VertexTwice (loops_broken_at es ls))
    (listing_broken_at n es ls)))

-- the rules from 19 on
abbrev pub late_broken_at : List Point → List Edge → List Loop → Option Refusal
late_broken_at ps es ls = or_else (told EdgesTouch (strokes_broken_at ps es)) (told LoopTurned (turns_broken_at ps es ls))

-- what is told over a scratch table with room for so many strokes, which is asked for where the rules before 19 are kept
abbrev pub broken_said : ℕ → List Point → List Edge → List Loop → ℕ → Result (Option Refusal) Refusal
broken_said n ps es ls room =
    cond (is_some (early_broken_at n ps es ls)) (Ok (early_broken_at n ps es ls))
    (cond (nat_lt room (length (first_listed [] es))) (Err (refused TableTooShort Check 0)) (Ok (late_broken_at ps es ls)))

-- over the tables of a sheet within its limits, and with room for 3,077 strokes or more (half of the 6,154 edges that it can list), the
-- first rule that the sheet breaks is told, or none
unfoldable pub SheetTells : ℕ → List Point → List Edge → List Loop → ℕ → Result (Option Refusal) Refusal → Type 0
SheetTells n ps es ls room said =
    (s : Sheet) → LegalSheet s → n ≡ length s.inner → ps ≡ points_of s → es ≡ edges_of s → ls ≡ loops_of s → 3077 ≤ room → said ≡ Ok (first_broken s)
