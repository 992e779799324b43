-- Tables that hold a sheet have no wrong entry, and it is the one that is read off them.
use Rattle.std.proofs.Common.{◌≡◌, ◌+◌, ◌≤◌, ◌==◌, ℕ, suc, Bool, cond, true, List, [], ◌∷◌, ◌++◌, All, None, Some, length, map, not, take, drop, append_assoc, refl, ap, ◌∙◌, subst, arith}
use Rattle.std.specs.List.{position}
use Rattle.std.specs.Option.{option_map}
use Rattle.std.proofs.Math.Seq.{drop-append_seam, take-append_seam}
use Rattle.std.proofs.lemmas.Bool.{cond-true}
use Rattle.std.proofs.lemmas.Bool.Decides.{nat_tests}
use Rattle.std.proofs.lemmas.List.{length-append}
use Rattle.std.proofs.lemmas.List.Elements.{All-head, All-tail}
use Rattle.plane.specs.declared.Edge.{Edge}
use Rattle.plane.specs.declared.Point.{Point}
use Rattle.plane.specs.Edges.{outside, ring_edges, same_edge}
use Rattle.plane.specs.Points.{same_point}
use Rattle.rules.proofs.Positions.{position_cons}
use Rattle.rules.proofs.Rows.{front_there, rest_there, ring_length, row_there, rows_of, starts, starts_ring}
use Rattle.sheet.specs.declared.tables.Loop.{Loop}
use Rattle.sheet.specs.declared.tables.Size.{Size}
use Rattle.sheet.specs.Legal.{Inside, LegalRing, LegalSheet}
use Rattle.sheet.specs.Sheets.{Ring, Sheet, corners, corners_in, edges_of, entry, loops_from, loops_of, points_of, size_of}
use Rattle.checking.specs.Entries.{is_entry, is_inside, is_size, wrong_entry, wrong_loop, wrong_point, wrong_ring, unlike}
use Rattle.checking.specs.Held.{OneHeld, held_sheet, ring_at}
use Rattle.checking.proofs.Fronts.{itself, neither_of}
use Rattle.checking.proofs.Links.{ring_right}

-- ---- numbers within their limits pass the tests

is_size_of : (z : Size) → (2 ≤ z.width) × (z.width ≤ 8191) → (2 ≤ z.height) × (z.height ≤ 8191) → z.inner ≤ 1024 → z.loops ≤ 2050 → z.corners ≤ 6150 → is_size z ≡ true
is_size_of z w h i l c = grind (arith, nat_tests)

inside_passes : (z : Size) (p : Point) → Inside z.width z.height p → is_inside z p ≡ true
inside_passes z p h = let a = h.right in let b = h.left in let c = h.above in let d = h.below in grind (arith, nat_tests)

none_outside : (z : Size) (ps : List Point) → All (Inside z.width z.height) ps → position (λ p. not (is_inside z p)) ps ≡ None
none_outside z [] h = refl
none_outside z (p ∷ ps) h =
    let test : Point → Bool = λ p. not (is_inside z p) in
    position_cons test p ps
    ∙ (λ i. cond (not (inside_passes z p (All-head (Inside z.width z.height) p ps h) i)) (Some 0) (option_map (λ i. i + 1) (none_outside z ps (All-tail (Inside z.width z.height) p ps h) i)))

entry_passes : (z : Size) (start : ℕ) (r : Ring) → LegalRing (z.inner + 4) r → start + length r.corners ≤ z.corners → is_entry z start (entry start r) ≡ true
entry_passes z start r h room = let a = h.numeral in let b = h.least in let c = h.most in grind (arith, nat_tests)

-- ---- the loops from a position on

same : (u v : ℕ) → u ≡ v → (u == v) ≡ true
same u v h = grind (arith, nat_tests)

record Right (z : Size) (es : List Edge) (at start : ℕ) (rs : List Ring) : Type 0 where
  pub loops : wrong_loop z at start (loops_from start rs) ≡ None
  pub rings : wrong_ring (z.inner + 4) es (loops_from start rs) ≡ None
  pub read : map (ring_at es) (loops_from start rs) ≡ rs

module _ (z : Size) (es behind : List Edge) where
  right_from : (front : List Edge) (at start : ℕ) (rs : List Ring) → length front ≡ start → es ≡ front ++ (rows_of rs ++ behind) → start + corners_in rs ≡ z.corners
      → All (LegalRing (z.inner + 4)) rs → Right z es at start rs
  right_from front at start [] f e all h = record { loops = cond-true _ _ _ (same start z.corners (omega (arith, all))); rings = refl; read = refl }
  right_from front at start (r ∷ rs) f e all h =
      let there = row_there es front behind start r rs f e in
      let legal = All-head (LegalRing (z.inner + 4)) r rs h in
      let next = right_from (front ++ ring_edges r.corners) (at + 1) (start + length r.corners) rs (front_there es front behind start r rs f e) (rest_there es front behind start r rs f e)
      (omega (arith, all)) (All-tail (LegalRing (z.inner + 4)) r rs h) in
      record {
        loops = cond-true _ _ _ (entry_passes z start r legal (omega (arith, all))) ∙ next.loops;
        rings = neither_of _ _ (rw there (ring_right (z.inner + 4) start r.corners legal.named)) next.rings;
        read = λ i. record { numeral = r.numeral; corners = (ap starts there ∙ starts_ring r.corners) i } ∷ next.read i;
      }

-- ---- the tables of a sheet

pub loop_count : (start : ℕ) (rs : List Ring) → length (loops_from start rs) ≡ length rs
loop_count start [] = refl
loop_count start (r ∷ rs) = ap suc (loop_count (start + length r.corners) rs)

pub row_count : (rs : List Ring) → length (rows_of rs) ≡ corners_in rs
row_count [] = refl
row_count (r ∷ rs) = length-append (ring_edges r.corners) (rows_of rs) ∙ (λ i. ring_length r.corners i + row_count rs i)

module _ (s : Sheet) (legal : LegalSheet s) (P : List Point) (E : List Edge) (L : List Loop) where
  fronts : take (length s.rings) (loops_of s ++ L) ≡ loops_of s
  fronts = rw (← loop_count 0 s.rings) (take-append_seam (loops_of s) L)

  right : Right (size_of s) (edges_of s ++ E) 0 0 s.rings
  right = right_from (size_of s) (edges_of s ++ E) (outside ++ E) [] 0 0 s.rings refl (append_assoc (rows_of s.rings) outside E) (omega arith) legal.rings

  points_right : wrong_point (size_of s) (points_of s ++ P) ≡ None
  points_right =
      neither_of _ _
      (itself same_point (λ p. grind (arith, nat_tests)) 0 (corners s.width s.height))
      (ap (λ ps. option_map (λ i. 4 + i) (position (λ p. not (is_inside (size_of s) p)) ps)) (take-append_seam s.inner P) ∙ ap (option_map (λ i. 4 + i)) (none_outside (size_of s) s.inner legal.inside))

  outside_right : unlike same_edge (corners_in s.rings) outside (take 4 (drop (corners_in s.rings) (edges_of s ++ E))) ≡ None
  outside_right =
      let seam : drop (corners_in s.rings) (rows_of s.rings ++ (outside ++ E)) ≡ outside ++ E = rw (← row_count s.rings) (drop-append_seam (rows_of s.rings) (outside ++ E)) in
      let rest = ap (drop (corners_in s.rings)) (append_assoc (rows_of s.rings) outside E) ∙ seam in
      ap (λ es. unlike same_edge (corners_in s.rings) outside (take 4 es)) rest ∙ itself same_edge (λ e. grind (arith, nat_tests)) (corners_in s.rings) outside

  none : wrong_entry (size_of s) (points_of s ++ P) (edges_of s ++ E) (loops_of s ++ L) ≡ None
  unfolding wrong_entry
  none =
      let size = is_size_of (size_of s) legal.width legal.height legal.few legal.loops legal.corners in
      cond-true _ _ _ size
      ∙ neither_of _ _ points_right (neither_of _ _ (rw fronts right.loops) (neither_of _ _ (rw fronts right.rings) outside_right))

  again : held_sheet (size_of s) (points_of s ++ P) (edges_of s ++ E) (loops_of s ++ L) ≡ s
  unfolding held_sheet
  again =
      let inner = take-append_seam s.inner P in
      let rings = ap (map (ring_at (edges_of s ++ E))) fronts ∙ right.read in
      λ i. record { width = s.width; height = s.height; inner = inner i; rings = rings i }

pub one_held : OneHeld
one_held z ps es ls s h =
    let Told : Size → List Point → List Edge → List Loop → Type 0 = λ z ps es ls. (wrong_entry z ps es ls ≡ None) × (held_sheet z ps es ls ≡ s) in
    let P = drop (length (points_of s)) ps in
    let E = drop (length (edges_of s)) es in
    let L = drop (length (loops_of s)) ls in
    subst (λ z. Told z ps es ls) h.size (
    subst (λ ps. Told (size_of s) ps es ls) h.points (
    subst (λ es. Told (size_of s) (points_of s ++ P) es ls) h.edges (
    subst (Told (size_of s) (points_of s ++ P) (edges_of s ++ E)) h.loops (none s h.legal P E L, again s h.legal P E L))))
