-- Where there is room for half of the edges that a sheet can list, the first rule that the sheet breaks is told.
use Rattle.std.proofs.Common.{◌≡◌, ℕ, ◌≤◌, Bool, false, cond, nat_lt, List, length, Option, Some, None, is_some, Ok, Err, Result, refl, sym, ap, ◌∙◌, arith}
use Rattle.std.proofs.lemmas.Bool.{cond-false}
use Rattle.std.proofs.lemmas.Bool.Decides.{nat_tests}
use Rattle.plane.specs.declared.Edge.{Edge}
use Rattle.plane.specs.declared.Point.{Point}
use Rattle.refusal.specs.declared.Cause.TheVariants.{TableTooShort, LoopSum, SamePoint, VertexTwice, EdgeTwice, NoReverse}
use Rattle.refusal.specs.declared.Layer.TheVariants.{Check}
use Rattle.refusal.specs.declared.Refusal.{Refusal}
use Rattle.refusal.specs.Numbers.{refused}
use Rattle.sheet.specs.declared.tables.Loop.{Loop}
use Rattle.sheet.specs.Legal.{LegalSheet}
use Rattle.sheet.specs.Sheets.{Sheet, edges_of, loops_of, points_of}
use Rattle.rules.specs.Held.{first_broken_at, loops_broken_at, points_broken_at, sum_broken_at}
use Rattle.rules.specs.Rules.{drawn_edges, edges_broken, first_broken, or_else, reverses_broken, told}
use Rattle.rules.specs.Strokes.{SheetTells, broken_said, early_broken_at, late_broken_at}
use Rattle.rules.proofs.Halves.{few_drawn}
use Rattle.rules.proofs.Held.{loops_same, tables_tell}
use Rattle.rules.proofs.Nothing.{neither, untold}

-- ---- answers, one after another

chained : (a b c : Option Refusal) → or_else (or_else a b) c ≡ or_else a (or_else b c)
chained None b c = refl
chained (Some e) b c = refl

-- the rules before 19, and then the others
early_then_late : (n : ℕ) (ps : List Point) (es : List Edge) (ls : List Loop)
    → or_else (early_broken_at n ps es ls) (late_broken_at ps es ls) ≡ first_broken_at n ps es ls
early_then_late n ps es ls = simp chained refl

-- the first of two answers is told, if there is room where the second is asked for
told_first : (early late : Option Refusal) (short : Bool) (e : Result (Option Refusal) Refusal) → (early ≡ None → short ≡ false)
    → cond (is_some early) (Ok early) (cond short e (Ok late)) ≡ Ok (or_else early late)
told_first None late short e fits = cond-false short e (Ok late) (fits refl)
told_first (Some x) late short e fits = refl

fits : (room n : ℕ) → n ≤ room → nat_lt room n ≡ false
fits room n h = grind (arith, nat_tests)

-- ---- the tables of a sheet

module _ (s : Sheet) (legal : LegalSheet s) (room : ℕ) (enough : 3077 ≤ room) where
  -- where no rule before 19 is broken, 15, 16 and 17 are kept, and the edges that are drawn fit
  early_fits : early_broken_at (length s.inner) (points_of s) (edges_of s) (loops_of s) ≡ None → nat_lt room (length (drawn_edges s)) ≡ false
  early_fits none =
      let loops = loops_broken_at (edges_of s) (loops_of s) in
      let a = neither (told LoopSum (sum_broken_at (length s.inner) (loops_of s))) _ none in
      let b = neither (told SamePoint (points_broken_at (points_of s))) _ a.1 in
      let c = neither (told VertexTwice loops) _ b.1 in
      let d = neither (told EdgeTwice (edges_broken s)) _ c.1 in
      let e = neither (told NoReverse (reverses_broken s)) _ d.1 in
      let corners = sym (loops_same s) ∙ untold VertexTwice loops c.0 in
      let few = few_drawn s legal corners (untold EdgeTwice (edges_broken s) d.0) (untold NoReverse (reverses_broken s) e.0) in
      fits room (length (drawn_edges s)) (omega (arith, few, enough))

  -- so the call tells what the sheet breaks
  sheet_told : broken_said (length s.inner) (points_of s) (edges_of s) (loops_of s) room ≡ Ok (first_broken s)
  sheet_told =
      let n = length s.inner in
      let early = early_broken_at n (points_of s) (edges_of s) (loops_of s) in
      let late = late_broken_at (points_of s) (edges_of s) (loops_of s) in
      told_first early late (nat_lt room (length (drawn_edges s))) (Err (refused TableTooShort Check 0)) early_fits
      ∙ ap Ok (early_then_late n (points_of s) (edges_of s) (loops_of s) ∙ tables_tell s)

-- and so does what is said over any tables that are those of a sheet
pub sheet_tells : (n : ℕ) (ps : List Point) (es : List Edge) (ls : List Loop) (room : ℕ) (said : Result (Option Refusal) Refusal)
    → said ≡ broken_said n ps es ls room → SheetTells n ps es ls room said
unfolding SheetTells
sheet_tells n ps es ls room said is s legal inner points edges loops enough =
    is ∙ (λ i. broken_said (inner i) (points i) (edges i) (loops i) room) ∙ sheet_told s legal room enough
