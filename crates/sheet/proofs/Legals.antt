-- Every file that is taken is within the limits.
use Rattle.std.proofs.Common.{◌≡◌, ℕ, zero, suc, ◌+◌, ◌<◌, ◌≤◌, true, false, cond, eqb, List, [], ◌∷◌, ◌++◌, length, get_or, Ok, Err, Result, sym, refl, ap, ◌∙◌, subst, ⊎_elim, arith}
use borrow.Author.Tests.{clash}
use Rattle.std.specs.Prelude.{All}
use Rattle.std.proofs.lemmas.List.Elements.{All-nil, All-push}
use Rattle.std.proofs.lemmas.List.{get_or_append_left, get_or_push, length_push}
use Rattle.std.proofs.lemmas.Bool.{cases_lt, eq-eqb}
use Rattle.refusal.specs.declared.Cause.TheVariants.{BadNumeral, BadSize, BadWording, OverLimit}
use Rattle.reader.specs.Kinds as kind
use Rattle.reader.specs.Reading.{and_then, fault, several}
use Rattle.refusal.specs.declared.Refusal.{Refusal}
use Rattle.sheet.specs.declared.tables.Head.{Head}
use Rattle.sheet.specs.declared.tables.Label.{Label}
use Rattle.sheet.specs.Files.{SheetFile, contents, head, label, labelled, labels, ring, sheet}
use Rattle.sheet.specs.Legal.{Apart, Inside, LegalFile, LegalLabel, LegalRing, LegalSheet}
use Rattle.sheet.specs.Load.{sheet_of}
use Rattle.sheet.specs.Sheets.{Ring, Sheet, corners_in}
use Rattle.sheet.proofs.Known.{corner_known, count_known, fault_known, ok_same, ranged_known, several_known, then_known, vertex_known}
use Rattle.sheet.proofs.Looped.{corners_push}

-- a loop
pub ring_known : (vertices before : ℕ) (file : List ℕ) (at : ℕ) (r : Ring) (next : ℕ) → ring vertices before file at ≡ Ok (r, next)
    → LegalRing vertices r × (before + length r.corners ≤ 6150)
unfolding ring
ring_known vertices before file at r next h =
    let named : List ℕ → Type 0 = All (λ v. v < vertices) in
    let m = then_known (kind.numeral file at) _ (r, next) h in
    let k = then_known (kind.corner_count_of vertices before file m.0.1) _ (r, next) m.2 in
    let cs = then_known (several (λ _. kind.corner vertices file) [] k.0.0 k.0.1) _ (r, next) k.2 in
    let e = ap (λ (q : Ring × ℕ). q.0) (ok_same (record { numeral = m.0.0; corners = cs.0.0 }, cs.0.1) (r, next) cs.2) in
    let n = ranged_known 0 255 BadNumeral file at m.0.0 m.0.1 m.1 in
    let c = count_known vertices before file m.0.1 k.0.0 k.0.1 k.1 in
    let all =
    several_known (λ _. kind.corner vertices file) named
    (λ done at v at' p q. All-push (λ v. v < vertices) done v p (corner_known vertices file at v at' q))
    [] k.0.0 k.0.1 cs.0.0 cs.0.1 (All-nil (λ v. v < vertices)) cs.1 in
    subst (λ (x : Ring). LegalRing vertices x × (before + length x.corners ≤ 6150)) e (
      record { numeral = n.1; least = omega (arith, all.1, c.0); most = omega (arith, all.1, c.1); named = all.0 },
      omega (arith, all.1, c.2),
    )

-- the size
pub head_known : (file : List ℕ) (at : ℕ) (x : Head) (next : ℕ) → head file at ≡ Ok (x, next)
    → ((2 ≤ x.width) × (x.width ≤ 8191)) × ((2 ≤ x.height) × (x.height ≤ 8191)) × (x.inner ≤ 1024)
unfolding head
head_known file at x next h =
    let e = then_known (kind.edition file at) _ (x, next) h in
    let w = then_known (kind.extent file e.0.1) _ (x, next) e.2 in
    let t = then_known (kind.extent file w.0.1) _ (x, next) w.2 in
    let n = then_known (kind.count 1024 file t.0.1) _ (x, next) t.2 in
    let is = ap (λ (q : Head × ℕ). q.0) (ok_same (record { width = w.0.0; height = t.0.0; inner = n.0.0 }, n.0.1) (x, next) n.2) in
    let a = ranged_known 2 8191 BadSize file e.0.1 w.0.0 w.0.1 w.1 in
    let b = ranged_known 2 8191 BadSize file w.0.1 t.0.0 t.0.1 t.1 in
    let c = ranged_known 0 1024 OverLimit file t.0.1 n.0.0 n.0.1 n.1 in
    subst (λ (y : Head). ((2 ≤ y.width) × (y.width ≤ 8191)) × ((2 ≤ y.height) × (y.height ≤ 8191)) × (y.inner ≤ 1024)) is (a, b, c.1)

-- the loops so far
record Rings (vertices : ℕ) (rs : List Ring) : Type 0 where
  corners : corners_in rs ≤ 6150
  legal : All (LegalRing vertices) rs

rings_more : (vertices : ℕ) (file : List ℕ) (done : List Ring) (at : ℕ) (r : Ring) (next : ℕ) → Rings vertices done
    → ring vertices (corners_in done) file at ≡ Ok (r, next) → Rings vertices (done ++ r ∷ [])
rings_more vertices file done at r next p h =
    let k = ring_known vertices (corners_in done) file at r next h in
    let c = corners_push done r in
    record { corners = omega (arith, k.1); legal = All-push (LegalRing vertices) done r p.legal k.0 }

pub sheet_known : (file : List ℕ) (at : ℕ) (s : Sheet) (next : ℕ) → sheet file at ≡ Ok (s, next) → LegalSheet s
unfolding sheet
sheet_known file at s next h =
    let x = then_known (head file at) _ (s, next) h in
    let y = x.0.0 in
    let vs = then_known (several (λ _. kind.vertex y.width y.height file) [] y.inner x.0.1) _ (s, next) x.2 in
    let m = then_known (kind.count 2050 file vs.0.1) _ (s, next) vs.2 in
    let rs = then_known (several (λ before. ring (y.inner + 4) (corners_in before) file) [] m.0.0 m.0.1) _ (s, next) m.2 in
    let is = ap (λ (q : Sheet × ℕ). q.0) (ok_same (record { width = y.width; height = y.height; inner = vs.0.0; rings = rs.0.0 }, rs.0.1) (s, next) rs.2) in
    let size = head_known file at y x.0.1 x.1 in
    let points =
    several_known (λ _. kind.vertex y.width y.height file) (All (Inside y.width y.height))
    (λ done at p at' a q. All-push (Inside y.width y.height) done p a (vertex_known y.width y.height file at p at' q))
    [] y.inner x.0.1 vs.0.0 vs.0.1 (All-nil (Inside y.width y.height)) vs.1 in
    let few = ranged_known 0 2050 OverLimit file vs.0.1 m.0.0 m.0.1 m.1 in
    let loops =
    several_known (λ before. ring (y.inner + 4) (corners_in before) file) (Rings (y.inner + 4)) (rings_more (y.inner + 4) file)
    [] m.0.0 m.0.1 rs.0.0 rs.0.1 (record { corners = omega arith; legal = All-nil (LegalRing (y.inner + 4)) }) rs.1 in
    let inner : length vs.0.0 ≡ y.inner = points.1 ∙ omega arith in
    subst LegalSheet is
    (record {
      width = size.0;
      height = size.1;
      few = omega (arith, size.2);
      inside = points.0;
      loops = omega (arith, loops.1, few.1);
      corners = loops.0.corners;
      rings = rw inner loops.0.legal;
    })

-- the labels so far
record Labels (ls : List Label) : Type 0 where
  legal : All LegalLabel ls
  apart : Apart ls

labelled_at : (ls : List Label) (i : ℕ) (d : Label) → i < length ls → labelled (get_or ls i d).numeral ls ≡ true
labelled_at [] i d h = absurd (omega arith)
labelled_at (l ∷ ls) zero d h = let t : eqb l.numeral l.numeral ≡ true = eq-eqb l.numeral l.numeral refl in rw t refl
labelled_at (l ∷ ls) (suc i) d h =
    let t = labelled_at ls i d (omega arith) in
    rw t (elim (eqb (get_or ls i d).numeral l.numeral) as (λ b. cond b true true ≡ true) [ true ↦ refl | false ↦ refl ])

apart_push : (ls : List Label) (l : Label) → Apart ls → labelled l.numeral ls ≡ false → Apart (ls ++ l ∷ [])
apart_push ls l a f i j d h k e =
    let n = length_push ls l in
    ⊎_elim
    (λ (m : j < length ls).
    let x = get_or_append_left ls (l ∷ []) d i (omega arith) in
    let y = get_or_append_left ls (l ∷ []) d j m in
    a i j d h m (ap (λ (z : Label). z.numeral) (sym x) ∙ e ∙ ap (λ (z : Label). z.numeral) y))
    (λ (m : length ls ≤ j).
    let small : i < length ls = omega arith in
    let x = get_or_append_left ls (l ∷ []) d i small in
    let y = get_or_push ls l d j (omega arith) in
    let same : (get_or ls i d).numeral ≡ l.numeral = ap (λ (z : Label). z.numeral) (sym x) ∙ e ∙ ap (λ (z : Label). z.numeral) y in
    clash (sym f ∙ ap (λ m. labelled m ls) (sym same) ∙ labelled_at ls i d small))
    (cases_lt j (length ls))

label_known : (file : List ℕ) (before : List Label) (at : ℕ) (l : Label) (next : ℕ) → label file before at ≡ Ok (l, next) → LegalLabel l × (labelled l.numeral before ≡ false)
unfolding label
label_known file before at l next h =
    let m = then_known (kind.label_numeral_of file at) _ (l, next) h in
    let t = fault_known (labelled m.0.0 before) _ (fault BadNumeral at) (l, next) m.2 in
    let n = then_known (kind.wording_length_of file m.0.1) _ (l, next) t.1 in
    let w = then_known (kind.wording file n.0.0 n.0.1) _ (l, next) n.2 in
    let is = ap (λ (q : Label × ℕ). q.0) (ok_same (record { numeral = m.0.0; place = n.0.1; length = n.0.0 }, w.0) (l, next) w.2) in
    let a = ranged_known 1 255 BadNumeral file at m.0.0 m.0.1 m.1 in
    let b = ranged_known 1 63 BadWording file m.0.1 n.0.0 n.0.1 n.1 in
    subst (λ (x : Label). LegalLabel x × (labelled x.numeral before ≡ false)) is (record { numeral = a; length = b }, t.0)

pub contents_known : (file : List ℕ) (f : SheetFile) → contents file ≡ Ok f → LegalFile f
unfolding contents labels
contents_known file f h =
    let s = then_known (sheet file 0) _ f h in
    let ls = then_known (labels file s.0.1) _ f s.2 in
    let n = then_known (kind.count 255 file s.0.1) _ ls.0 ls.1 in
    let all = then_known (several (label file) [] n.0.0 n.0.1) _ ls.0 n.2 in
    let end = then_known (kind.finish file all.0.1) _ ls.0 all.2 in
    let few = ranged_known 0 255 OverLimit file s.0.1 n.0.0 n.0.1 n.1 in
    let k =
    several_known (label file) Labels
    (λ done at l at' p q.
    let g = label_known file done at l at' q in
    record { legal = All-push LegalLabel done l p.legal g.0; apart = apart_push done l p.apart g.1 })
    [] n.0.0 n.0.1 all.0.0 all.0.1 (record { legal = All-nil LegalLabel; apart = λ i j d h k e. absurd (omega arith) }) all.1 in
    let same : all.0.0 ≡ ls.0 = ok_same all.0.0 ls.0 end.2 in
    let is = ok_same (record { sheet = s.0.0; labels = ls.0 }) f ls.2 in
    subst LegalFile is
    (record {
      sheet = sheet_known file 0 s.0.0 s.0.1 s.1;
      few = subst (λ xs. length xs ≤ 255) same (omega (arith, k.1, few.1));
      labels = subst (All LegalLabel) same k.0.legal;
      apart = subst Apart same k.0.apart;
    })

-- the sheet that a load takes
sheet_in : (file : List ℕ) (c : Result SheetFile Refusal) (s : Sheet) → contents file ≡ c → and_then c (λ f. Ok f.sheet) ≡ Ok s → LegalSheet s
sheet_in file (Ok f) s h e = subst LegalSheet (ok_same f.sheet s e) (contents_known file f h).sheet
sheet_in file (Err e) s h k = cc

pub sheet_taken : (file : List ℕ) (s : Sheet) → sheet_of file ≡ Ok s → LegalSheet s
unfolding sheet_of
sheet_taken file s h = sheet_in file (contents file) s refl h
