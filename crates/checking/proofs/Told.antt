-- What a check tells of the sheet that tables hold.
use Rattle.std.proofs.Common.{◌≡◌, ◌+◌, ◌≤◌, ℕ, true, false, List, None, Ok, Option, Result, length, take, drop, sym, ap, ◌∙◌, arith}
use Rattle.std.proofs.Math.Seq.{take-append_seam}
use Rattle.std.proofs.lemmas.Bool.{false≢true}
use Rattle.std.proofs.lemmas.Bool.Decides.{nat_tests}
use Rattle.std.proofs.lemmas.List.{length-append}
use Rattle.plane.specs.declared.Edge.{Edge}
use Rattle.plane.specs.Edges.{outside}
use Rattle.plane.specs.declared.Point.{Point}
use Rattle.lent.specs.Kept.{over}
use Rattle.refusal.specs.declared.Refusal.{Refusal}
use Rattle.rules.proofs.Rows.{rows_of}
use Rattle.rules.specs.Rules.{first_broken}
use Rattle.rules.specs.Strokes.{SheetTells}
use Rattle.sheet.specs.declared.tables.Loop.{Loop}
use Rattle.sheet.specs.declared.tables.Size.{Size}
use Rattle.sheet.specs.Load.{roomy}
use Rattle.sheet.specs.Sheets.{Sheet, edges_of, loops_of, points_of}
use Rattle.checking.specs.Checks.{SheetChecked, check_room, check_said, judged}
use Rattle.checking.specs.Entries.{wrong_entry}
use Rattle.checking.specs.Held.{Holds, held_sheet}
use Rattle.checking.proofs.Unaltered.{loop_count, one_held, row_count}
use Rattle.checking.proofs.Whole.{none_wrong}

fronted : {X : Type 0} (xs items : List X) (n : ℕ) → over xs items ≡ items → length xs ≡ n → take n items ≡ xs
fronted xs items n h e = ap (take n) (sym h) ∙ ap (λ n. take n (over xs items)) (sym e) ∙ take-append_seam xs (drop (length xs) items)

count_points : (s : Sheet) (n : ℕ) → length s.inner ≡ n → length (points_of s) ≡ n + 4
count_points s n h = omega (arith, h)

-- the fronts of tables that hold a sheet are its tables
pub record Fronted (z : Size) (ps : List Point) (es : List Edge) (ls : List Loop) (s : Sheet) : Type 0 where
  pub inner : z.inner ≡ length s.inner
  pub points : take (z.inner + 4) ps ≡ points_of s
  pub edges : take (z.corners + 4) es ≡ edges_of s
  pub loops : take z.loops ls ≡ loops_of s

pub fronted_all : (z : Size) (ps : List Point) (es : List Edge) (ls : List Loop) (s : Sheet) → Holds z ps es ls s → Fronted z ps es ls s
fronted_all z ps es ls s h =
    record {
      inner = sym (ap (λ z. z.inner) h.size);
      points = fronted (points_of s) ps (z.inner + 4) h.points (count_points s z.inner (ap (λ z. z.inner) h.size));
      edges =
          fronted (edges_of s) es (z.corners + 4) h.edges
          (length-append (rows_of s.rings) outside ∙ ap (λ n. n + 4) (row_count s.rings ∙ ap (λ z. z.corners) h.size));
      loops = fronted (loops_of s) ls z.loops h.loops (loop_count 0 s.rings ∙ ap (λ z. z.loops) h.size);
    }

long_tables : (p e l room : ℕ) → check_room p e l room ≡ true → (3077 ≤ room) × (roomy p e l ≡ true)
long_tables p e l room h = grind (arith, nat_tests)

-- what the rules tell of the fronts of tables is what they tell of the sheet that these hold
pub fronts_tell : (z : Size) (ps fps : List Point) (es fes : List Edge) (ls fls : List Loop) (room : ℕ) (said : Result (Option Refusal) Refusal)
    → fps ≡ take (z.inner + 4) ps → fes ≡ take (z.corners + 4) es → fls ≡ take z.loops ls
    → check_room (length ps) (length es) (length ls) room ≡ true → wrong_entry z ps es ls ≡ None
    → SheetTells z.inner fps fes fls room said → said ≡ Ok (first_broken (held_sheet z ps es ls))
unfolding SheetTells
fronts_tell z ps fps es fes ls fls room said p e l long none tells =
    let s = held_sheet z ps es ls in
    let room = long_tables (length ps) (length es) (length ls) _ long in
    let h = none_wrong z ps es ls room.1 none in
    let f = fronted_all z ps es ls s h in
    tells s h.legal f.inner (p ∙ f.points) (e ∙ f.edges) (l ∙ f.loops) room.0

-- the check tells of the sheet that the tables hold
pub sheet_told : (z : Size) (ps : List Point) (es : List Edge) (ls : List Loop) (room : ℕ) (said : Result (Unit {0}) Refusal)
    → said ≡ check_said z ps es ls → SheetChecked z ps es ls room said
unfolding check_said SheetChecked
sheet_told z ps es ls room said h s holds long =
    let o = one_held z ps es ls s holds in
    h ∙ (λ i. judged (o.0 i) (o.1 i))

-- of tables that are too short nothing is told
pub short_told : (z : Size) (ps : List Point) (es : List Edge) (ls : List Loop) (room : ℕ) (said : Result (Unit {0}) Refusal)
    → false ≡ check_room (length ps) (length es) (length ls) room → SheetChecked z ps es ls room said
unfolding SheetChecked
short_told z ps es ls room said short s holds long = absurd (false≢true (short ∙ long))
