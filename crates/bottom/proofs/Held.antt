-- What is known of tables that hold a sheet, for cutting it.
use Rattle.std.proofs.Common.{◌≡◌, ℕ, ◌+◌, ◌≤◌, ◌==◌, cond, nat_lt, Err, true, List, [], ◌∷◌, All, None, length, map, take, sym, ap, ◌∙◌, arith}
use Rattle.std.proofs.lemmas.Bool.Decides.{nat_tests}
use Rattle.std.proofs.lemmas.List.{length-map}
use Rattle.std.proofs.lemmas.List.Elements.{All-cons, All-head, All-nil, All-tail}
use Rattle.plane.specs.declared.Edge.{Edge}
use Rattle.plane.specs.declared.Point.{Point}
use Rattle.plane.specs.Points.{place_of}
use Rattle.rules.specs.Held.{loop_edges, triangles_at}
use Rattle.rules.specs.Rules.{triangles_in}
use Rattle.rules.proofs.Held.{triangles_same}
use Rattle.sheet.specs.declared.tables.Loop.{Loop}
use Rattle.sheet.specs.declared.tables.Size.{Size}
use Rattle.sheet.specs.Legal.{LegalRing}
use Rattle.sheet.specs.Sheets.{Ring, corners_in}
use Rattle.sheet.specs.Load.{roomy}
use Rattle.checking.specs.Entries.{wrong_entry}
use Rattle.checking.specs.Held.{held_sheet, ring_at}
use Rattle.checking.proofs.Whole.{none_wrong}
use Rattle.refusal.specs.declared.Cause.TheVariants.{OutOfRange, StoreFull}
use Rattle.refusal.specs.declared.Layer.TheVariants.{Build}
use Rattle.refusal.specs.Numbers.{refused}
use Rattle.checking.proofs.Told.{fronted_all}
use Rattle.bottom.specs.Bottom.{bottom_of, cut_loops}
use Rattle.bottom.proofs.Rows.{loops_within}
use Rattle.bottom.specs.Cuts.{Within, bottom_count, build_room, fronts_cut, or_stuck, sheet_cut}

-- of the fronts of tables that hold a sheet
pub record Ready (z : Size) (ps fps : List Point) (es fes : List Edge) (ls fls : List Loop) (room : ℕ) : Type 0 where
  pub inner : z.inner ≤ 1024
  pub short : All (λ l. length (loop_edges es l) ≤ 1028) fls
  pub few : length fls ≤ 65535
  pub within : All (λ l. Within (loop_edges es l) fes) fls
  pub rows : triangles_in (map (ring_at es) fls) ≡ triangles_at fls
  pub live : 2050 ≤ room
  pub cut : (capacity : ℕ) → fronts_cut capacity z.inner fps fes es fls ≡ sheet_cut capacity (held_sheet z ps es ls)

all_unmap : {X Y : Type 0} (P : Y → Type 0) (f : X → Y) (xs : List X) → All P (map f xs) → All (λ x. P (f x)) xs
all_unmap P f [] h = All-nil (λ x. P (f x))
all_unmap P f (x ∷ xs) h = All-cons (λ x. P (f x)) x xs (All-head P (f x) (map f xs) h) (all_unmap P f xs (All-tail P (f x) (map f xs) h))

long_tables : (p e l room : ℕ) → build_room p e l room ≡ true → (2050 ≤ room) × (roomy p e l ≡ true)
long_tables p e l room h = grind (arith, nat_tests)

short_row : (n : ℕ) (es : List Edge) (l : Loop) → n ≤ 1024 → LegalRing (n + 4) (ring_at es l) → length (loop_edges es l) ≤ 1028
short_row n es l few h =
    let most = h.most in
    let same = length-map (loop_edges es l) (λ (e : Edge). e.from) in
    omega (arith, most, same, few)

corners_fit : (rs : List Ring) (n : ℕ) → corners_in rs ≡ n → corners_in rs ≤ n + 4
corners_fit rs n h = omega (arith, h)

fronts_ready : (z : Size) (ps : List Point) (es : List Edge) (ls : List Loop) (room : ℕ) → build_room (length ps) (length es) (length ls) room ≡ true
    → wrong_entry z ps es ls ≡ None → Ready z ps (take (z.inner + 4) ps) es (take (z.corners + 4) es) ls (take z.loops ls) room
unfolding held_sheet bottom_of
fronts_ready z ps es ls room long none =
    let s = held_sheet z ps es ls in
    let t = long_tables (length ps) (length es) (length ls) room long in
    let h = none_wrong z ps es ls t.1 none in
    let f = fronted_all z ps es ls s h in
    let few = h.legal.few in
    let inner = f.inner in
    let points = f.points in
    let edges = f.edges in
    let loops = h.legal.loops in
    let count = length-map (take z.loops ls) (ring_at es) in
    let sum : triangles_at (take z.loops ls) ≡ triangles_in s.rings = ap triangles_at f.loops ∙ triangles_same 0 s.rings in
    let counted = sym count in
    record {
      inner = omega (arith, few, inner);
      short = λ k d i. short_row (length s.inner) es _ few (all_unmap (LegalRing (length s.inner + 4)) (ring_at es) (take z.loops ls) h.legal.rings k d i);
      few = omega (arith, loops, count);
      within = loops_within es (z.corners + 4) (take z.loops ls) s.rings f.loops (corners_fit s.rings z.corners (ap (λ z. z.corners) h.size));
      rows = sym sum;
      live = t.0;
      cut = λ capacity i.
          cond (sum i == bottom_count (inner i))
          (cond (nat_lt capacity (bottom_count (inner i))) (Err (refused StoreFull Build (bottom_count (inner i))))
          (or_stuck (cut_loops (place_of (points i)) (edges i) 0 s.rings)))
          (Err (refused OutOfRange Build (counted i)));
    }

pub ready : (z : Size) (ps fps : List Point) (es fes : List Edge) (ls fls : List Loop) (room a b n : ℕ) → fps ≡ take (a + 4) ps → a ≡ z.inner
    → fes ≡ take (b + 4) es → b ≡ z.corners → fls ≡ take n ls → n ≡ z.loops
    → build_room (length ps) (length es) (length ls) room ≡ true → wrong_entry z ps es ls ≡ None → Ready z ps fps es fes ls fls room
ready z ps fps es fes ls fls room a b n p a' e b' l n' long none =
    rw (p, a', e, b', l, n') (fronts_ready z ps es ls room long none)
