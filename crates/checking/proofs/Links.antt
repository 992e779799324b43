-- The edges of a loop, one after another.
use Rattle.std.proofs.Common.{◌≡◌, ℕ, ◌+◌, ◌<◌, ◌==◌, true, List, [], ◌∷◌, ◌++◌, All, None, drop, drop-cons, add-one, length, nat_lt, get_or, refl, sym, ap, ◌∙◌, arith}
use Rattle.std.proofs.lemmas.Bool.{and_parts, cond-true}
use Rattle.std.proofs.lemmas.Bool.Decides.{nat_tests}
use Rattle.std.proofs.lemmas.List.Elements.{All-cons, All-head, All-nil, All-tail}
use Rattle.plane.specs.declared.Edge.{Edge}
use Rattle.plane.specs.Edges.{edge, links, ring_edges}
use Rattle.checking.specs.Entries.{is_link, next_start, wrong_link}
use Rattle.checking.proofs.Fronts.{goes_on}
use Rattle.rules.proofs.Rows.{starts}

-- an edge that is right leaves all to those that follow
pub link_goes : (v first at : ℕ) (es : List Edge) (i next : ℕ) → i < length es → next ≡ next_start first (drop (i + 1) es)
    → is_link v (get_or es i (edge 0 0)) next ≡ true → wrong_link v first (at + i) (drop i es) ≡ wrong_link v first (at + (i + 1)) (drop (i + 1) es)
link_goes v first at es i next inside is right =
    ap (wrong_link v first (at + i)) (rw (← add-one i) at (drop-cons es i (edge 0 0) inside))
    ∙ cond-true _ _ _ (rw is at right)
    ∙ ap (λ n. wrong_link v first n (drop (i + 1) es)) (omega arith)

-- ---- edges without a wrong one close up

abbrev pub starts_below : ℕ → Edge → Type 0
starts_below v e = e.from < v

abbrev pub Closed : ℕ → ℕ → List Edge → Type 0
Closed v first es = All (starts_below v) es × (links (starts es ++ first ∷ []) ≡ es)

below : (u v : ℕ) → nat_lt u v ≡ true → u < v
below u v h = grind (arith, nat_tests)

same : (u v : ℕ) → (u == v) ≡ true → u ≡ v
same u v h = grind (arith, nat_tests)

pub closes : (v first at : ℕ) (es : List Edge) → wrong_link v first at es ≡ None → Closed v first es
closes v first at [] h = (All-nil _, refl)
closes v first at (e ∷ []) h =
    let g = goes_on _ _ _ h in
    let l = and_parts _ _ g.0 in
    let to = sym (same _ _ l.1) in
    (All-cons (starts_below v) e [] (below _ _ l.0) (All-nil _), λ i. edge e.from (to i) ∷ [])
closes v first at (e ∷ f ∷ es) h =
    let g = goes_on _ _ _ h in
    let l = and_parts _ _ g.0 in
    let to = sym (same _ _ l.1) in
    let next = closes v first (at + 1) (f ∷ es) g.1 in
    (All-cons (starts_below v) e (f ∷ es) (below _ _ l.0) next.0, λ i. edge e.from (to i) ∷ next.1 i)

-- ---- the edges of a ring have no wrong one

first_start : (w u c : ℕ) (cs : List ℕ) → next_start w (links (c ∷ (cs ++ u ∷ []))) ≡ c
first_start w u c [] = refl
first_start w u c (d ∷ ds) = refl

links_right : (v u at c : ℕ) (cs : List ℕ) → All (λ w. w < v) (c ∷ cs) → wrong_link v u at (links (c ∷ (cs ++ u ∷ []))) ≡ None
links_right v u at c [] h = cond-true _ _ _ (right c u (All-head (λ w. w < v) c [] h))
  where
    right : (c u : ℕ) → c < v → is_link v (edge c u) u ≡ true
    right c u h = grind (arith, nat_tests)
links_right v u at c (d ∷ ds) h =
    cond-true _ _ _ (right c d (next_start u (links (d ∷ (ds ++ u ∷ [])))) (All-head (λ w. w < v) c (d ∷ ds) h) (first_start u u d ds)) ∙ links_right v u (at + 1) d ds (All-tail (λ w. w < v) c (d ∷ ds) h)
  where
    right : (c d next : ℕ) → c < v → next ≡ d → is_link v (edge c d) next ≡ true
    right c d next h e = grind (arith, nat_tests)

pub ring_right : (v at : ℕ) (cs : List ℕ) → All (λ w. w < v) cs → wrong_link v (next_start 0 (ring_edges cs)) at (ring_edges cs) ≡ None
ring_right v at [] h = refl
ring_right v at (c ∷ cs) h = ap (λ u. wrong_link v u at (ring_edges (c ∷ cs))) (first_start 0 c c cs) ∙ links_right v c at c cs h
