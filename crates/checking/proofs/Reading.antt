-- Tables without a wrong entry hold the sheet that is read off them.
use Rattle.std.proofs.Common.{◌≡◌, ◌+◌, ◌<◌, ◌≤◌, ℕ, ◌==◌, true, List, [], ◌∷◌, ◌++◌, All, None, length, map, nat_le, take, drop, append_assoc, refl, sym, ap, ◌∙◌, subst, arith}
use Rattle.std.proofs.lemmas.Bool.{and_parts}
use Rattle.std.proofs.lemmas.Bool.Decides.{nat_tests}
use Rattle.std.proofs.lemmas.List.{drop-drop, length-drop, length-map, length-take-le, take-append-drop}
use Rattle.std.proofs.lemmas.List.Elements.{All-cons, All-map, All-nil}
use Rattle.plane.specs.declared.Edge.{Edge}
use Rattle.plane.specs.Edges.{links, ring_edges}
use Rattle.sheet.specs.declared.tables.Loop.{Loop}
use Rattle.sheet.specs.declared.tables.Size.{Size}
use Rattle.sheet.specs.Legal.{LegalRing}
use Rattle.sheet.specs.Sheets.{corners_in, loop_at, loops_from}
use Rattle.rules.specs.Held.{loop_corners, loop_edges}
use Rattle.rules.proofs.Rows.{rows_of, starts}
use Rattle.checking.specs.Entries.{is_entry, wrong_loop, wrong_ring, next_start}
use Rattle.checking.specs.Held.{ring_at}
use Rattle.checking.proofs.Fronts.{goes_on, neither}
use Rattle.checking.proofs.Links.{Closed, closes}

record IsEntry (z : Size) (start : ℕ) (l : Loop) : Type 0 where
  pub numeral : l.numeral ≤ 255
  pub behind : l.start ≡ start
  pub least : 3 ≤ l.corners
  pub most : l.corners ≤ z.inner + 4
  pub within : start + l.corners ≤ z.corners

at_most : (u v : ℕ) → nat_le u v ≡ true → u ≤ v
at_most u v h = grind (arith, nat_tests)

same : (u v : ℕ) → (u == v) ≡ true → u ≡ v
same u v h = grind (arith, nat_tests)

entry_parts : (z : Size) (start : ℕ) (l : Loop) → is_entry z start l ≡ true → IsEntry z start l
entry_parts z start l h =
    let a = and_parts _ _ h in
    let b = and_parts _ _ a.0 in
    let c = and_parts _ _ a.1 in
    let d = and_parts _ _ c.0 in
    record { numeral = at_most _ _ b.0; behind = same _ _ b.1; least = at_most _ _ d.0; most = at_most _ _ d.1; within = at_most _ _ c.1 }

-- a loop's edges, where they close up, are those of the ring of its corners
ring_again : (es : List Edge) → links (starts es ++ next_start 0 es ∷ []) ≡ es → ring_edges (starts es) ≡ es
ring_again [] h = refl
ring_again (e ∷ es) h = h

-- what the loops from a position on are read as
pub record Read (z : Size) (es : List Edge) (start : ℕ) (ls : List Loop) : Type 0 where
  pub loops : loops_from start (map (ring_at es) ls) ≡ ls
  pub corners : start + corners_in (map (ring_at es) ls) ≡ z.corners
  pub edges : rows_of (map (ring_at es) ls) ++ drop z.corners es ≡ drop start es
  pub rings : All (LegalRing (z.inner + 4)) (map (ring_at es) ls)

module _ (z : Size) (es : List Edge) (room : z.corners ≤ length es) where
  row_length : (start : ℕ) (l : Loop) → IsEntry z start l → length (loop_edges es l) ≡ l.corners
  row_length start l h =
      let inside = h.within in
      let at = h.behind in
      length-take-le l.corners (drop l.start es) (rw (length-drop l.start es) (omega (arith, inside, at, room)))

  corner_count : (start : ℕ) (l : Loop) → IsEntry z start l → length (loop_corners es l) ≡ l.corners
  corner_count start l h = length-map (loop_edges es l) (λ (e : Edge). e.from) ∙ row_length start l h

  legal_ring : (start : ℕ) (l : Loop) → IsEntry z start l → Closed (z.inner + 4) (next_start 0 (loop_edges es l)) (loop_edges es l) → LegalRing (z.inner + 4) (ring_at es l)
  legal_ring start l h c =
      let n = sym (corner_count start l h) in
      record {
        numeral = h.numeral;
        least = subst (λ k. 3 ≤ k) n h.least;
        most = subst (λ k. k ≤ z.inner + 4) n h.most;
        named = All-map (λ w. w < z.inner + 4) (λ (e : Edge). e.from) (loop_edges es l) c.0;
      }

  read_next : (start : ℕ) (l : Loop) (ls : List Loop) → IsEntry z start l → Closed (z.inner + 4) (next_start 0 (loop_edges es l)) (loop_edges es l)
      → Read z es (start + l.corners) ls → Read z es start (l ∷ ls)
  read_next start l ls h c next =
      let n = corner_count start l h in
      let at = sym h.behind in
      let rs = map (ring_at es) ls in
      let more : loops_from (start + length (loop_corners es l)) rs ≡ ls = ap (λ k. loops_from (start + k) rs) n ∙ next.loops in
      record {
        loops = λ i. loop_at l.numeral (at i) (n i) ∷ more i;
        corners = ap (λ k. start + (k + corners_in rs)) n ∙ omega (arith, next.corners);
        edges =
            append_assoc (ring_edges (loop_corners es l)) (rows_of rs) (drop z.corners es)
            ∙ ap (λ xs. xs ++ (rows_of rs ++ drop z.corners es)) (ring_again (loop_edges es l) c.1)
            ∙ ap (λ xs. loop_edges es l ++ xs) (next.edges ∙ sym (drop-drop l.corners start es))
            ∙ ap (λ k. take l.corners (drop k es) ++ drop l.corners (drop start es)) h.behind
            ∙ take-append-drop l.corners (drop start es);
        rings = All-cons (LegalRing (z.inner + 4)) (ring_at es l) rs (legal_ring start l h c) next.rings;
      }

  pub read_from : (at start : ℕ) (ls : List Loop) → wrong_loop z at start ls ≡ None → wrong_ring (z.inner + 4) es ls ≡ None → Read z es start ls
  read_from at start [] h k =
      let all = same _ _ (goes_on (start == z.corners) None at h).0 in
      record { loops = refl; corners = omega (arith, all); edges = ap (λ n. drop n es) (sym all); rings = All-nil _ }
  read_from at start (l ∷ ls) h k =
      let g = goes_on _ _ _ h in
      let e = neither _ _ k in
      read_next start l ls (entry_parts z start l g.0) (closes _ _ _ _ e.0) (read_from (at + 1) (start + l.corners) ls g.1 e.1)
