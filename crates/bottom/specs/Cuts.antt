-- What a cut of the tables answers, and what it leaves in the store and among the live nodes.
use Rattle.std.specs.Prelude.{◌≡◌, ℕ, ◌+◌, ◌*◌, ◌==◌, Bool, true, false, cond, List, [], ◌∷◌, length, map, nat_le, nat_lt, Some, None, Option, Ok, Err, Result}
use Rattle.std.specs.List.{range_with_len}
use Rattle.lent.specs.Kept.{over}
use Rattle.plane.specs.declared.Point.{Point}
use Rattle.plane.specs.declared.Edge.{Edge}
use Rattle.plane.specs.Points.{GridPoint, place_of}
use Rattle.refusal.specs.declared.Cause.TheVariants.{OutOfRange, StoreFull, Stuck, TableTooShort}
use Rattle.refusal.specs.declared.Layer.TheVariants.{Build}
use Rattle.refusal.specs.declared.Refusal.{Refusal}
use Rattle.refusal.specs.Numbers.{number, refused}
use Rattle.rules.specs.Held.{triangles_at}
use Rattle.rules.specs.Rules.{triangles_in}
use Rattle.tiling.specs.Triangles.{Triangle}
use Rattle.ears.specs.Ears.{cut_of}
use Rattle.nodes.specs.declared.node.Node.{Node}
use Rattle.nodes.specs.Nodes.{added}
use Rattle.sheet.specs.declared.tables.Loop.{Loop}
use Rattle.sheet.specs.declared.tables.Size.{Size}
use Rattle.sheet.specs.Load.{roomy}
use Rattle.sheet.specs.Sheets.{Ring, Sheet}
use Rattle.checking.specs.Entries.{wrong_entry}
use Rattle.checking.specs.Held.{held_sheet, ring_at}
use Rattle.bottom.specs.Bottom.{bottom_node, bottom_of, cut_loops, is_drawn}

-- so many nodes has the bottom of a sheet with n inner vertices
abbrev pub bottom_count : ℕ → ℕ
bottom_count n = 2 * n + 2

abbrev pub or_stuck : Result (List Node) ℕ → Result (List Node) Refusal
or_stuck (Ok ns) = Ok ns
or_stuck (Err l) = Err (refused Stuck Build l)

-- a sheet is cut where the store has room for the nodes; loops that cannot tile it were altered since the check, and are told at their count
abbrev pub sheet_cut : ℕ → Sheet → Result (List Node) Refusal
sheet_cut room s =
    cond (triangles_in s.rings == bottom_count (length s.inner))
    (cond (nat_lt room (bottom_count (length s.inner))) (Err (refused StoreFull Build (bottom_count (length s.inner)))) (or_stuck (bottom_of s)))
    (Err (refused OutOfRange Build (length s.rings)))

abbrev pub or_wrong : Option ℕ → Result (List Node) Refusal → Result (List Node) Refusal
or_wrong None said = said
or_wrong (Some i) said = Err (refused OutOfRange Build i)

-- the nodes that a cut of long enough tables makes, or why not: first their first wrong entry
unfoldable pub cut_said : Size → List Point → List Edge → List Loop → ℕ → Result (List Node) Refusal
cut_said z ps es ls room = or_wrong (wrong_entry z ps es ls) (sheet_cut room (held_sheet z ps es ls))

-- the tables that a load and a cut are lent have their least sizes: 2,050 live numbers, and those of points, edges and loops
abbrev pub build_room : (points edges loops live : ℕ) → Bool
build_room points edges loops live = cond (nat_le 2050 live) (roomy points edges loops) false

-- over any tables: one that is too short comes first
abbrev pub tables_cut : Size → List Point → List Edge → List Loop → (live room : ℕ) → Result (List Node) Refusal
tables_cut z ps es ls live room =
    cond (build_room (length ps) (length es) (length ls) live) (cut_said z ps es ls room) (Err (refused TableTooShort Build 0))

-- what is answered in place of the nodes: how many they are
abbrev pub answered : Result (List Node) Refusal → Result ℕ Refusal
answered (Ok ns) = Ok (length ns)
answered (Err e) = Err e

-- the store has the nodes; a cut that is stuck leaves it empty, and any other refusal as it was
abbrev pub cut_nodes : Result (List Node) Refusal → List Node → List Node
cut_nodes (Ok ns) old = ns
cut_nodes (Err e) old = cond (number e.cause == 21) [] old

-- all of them are live
abbrev pub cut_live : Result (List Node) Refusal → List ℕ → List ℕ
cut_live (Ok ns) live = over (range_with_len 0 (length ns)) live
cut_live (Err e) live = live

-- ---- the parts of a cut

-- nodes added one after another, as long as there is room
abbrev pub adds : List Node → ℕ → List Node → List Node
adds nodes room [] = nodes
adds nodes room (n ∷ ns) = adds (added nodes room n) room ns

-- the nodes in a store once the loops from l on are cut into it, or the first of them that is stuck
abbrev pub pour_next : ℕ → Option (List Triangle) → (List Triangle → Result (List Node) ℕ) → Result (List Node) ℕ
pour_next l None rest = Err l
pour_next l (Some ts) rest = rest ts

unfoldable pub poured : (ℕ → GridPoint) → List Edge → ℕ → ℕ → List Ring → List Node → Result (List Node) ℕ
poured at es room l [] nodes = Ok nodes
poured at es room l (r ∷ rs) nodes =
    pour_next l (cut_of at r.corners) (λ ts. poured at es room (l + 1) rs (adds nodes room (map (bottom_node es l) ts)))

-- the same as an answer of the loop that is stuck, beside what the store then has
abbrev pub stuck_or : Option ℕ → List Node → Result (List Node) ℕ
stuck_or None nodes = Ok nodes
stuck_or (Some l) nodes = Err l

-- what the store has once a sheet was cut into it, empty where that is stuck
abbrev pub filled_nodes : Result (List Node) ℕ → List Node
filled_nodes (Ok ns) = ns
filled_nodes (Err l) = []

abbrev pub filled_said : Result (List Node) ℕ → Result (Unit {0}) Refusal
filled_said (Ok ns) = Ok tt
filled_said (Err l) = Err (refused Stuck Build l)

-- the same over the fronts of tables that hold a sheet with n inner vertices
abbrev pub fronts_cut : (room n : ℕ) → List Point → (listed es : List Edge) → List Loop → Result (List Node) Refusal
fronts_cut room n ps listed es ls =
    cond (triangles_at ls == bottom_count n)
    (cond (nat_lt room (bottom_count n)) (Err (refused StoreFull Build (bottom_count n))) (or_stuck (cut_loops (place_of ps) listed 0 (map (ring_at es) ls))))
    (Err (refused OutOfRange Build (length ls)))

-- the edges of a row are among those that are listed
unfoldable pub Within : List Edge → List Edge → Type 0
Within row listed = (u v : ℕ) → is_drawn row u v ≡ true → is_drawn listed u v ≡ true
