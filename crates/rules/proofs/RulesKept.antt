-- A rule is kept exactly where no place breaks it.
use Rattle.std.proofs.Common.{◌≡◌, ℕ, zero, suc, ◌<◌, true, eqb, List, [], ◌∷◌, length, get_or, pos, int_lt, refl, sym, ap, subst, inl, inr, arith}
use Rattle.std.proofs.lemmas.Bool.{both_ways, cases_Bool, cases_order, eq-eqb, eqb-true}
use Rattle.clash.specs.Clashes.{IsFree, first_clash_in}
use Rattle.clash.proofs.Firsts.{IsFree-from_None}
use Rattle.plane.specs.declared.Edge.{Edge}
use Rattle.plane.specs.Edges.{In, back, edge, same_edge}
use Rattle.plane.specs.Points.{GridPoint}
use Rattle.refusal.specs.declared.Cause.TheVariants.{LoopSum, SamePoint, VertexTwice, EdgeTwice, NoReverse, VertexUnused, EdgesTouch, LoopTurned}
use Rattle.sheet.specs.Sheets.{Ring, Sheet, edges_of}
use Rattle.rules.specs.Rules.{drawn_edges, names_twice, signed_area, touch, triangles_in}
use Rattle.rules.specs.Sound.{Breaks, CornersDiffer, EdgesApart, Joins, ListedOnce, LoopsAddUp, LoopsTurnLeft, OneSegment, PointsDiffer, ReversesListed, Touching, TurnsLeft, VerticesUsed, drawn_at, vertex_at}
use Rattle.rules.proofs.Drawn.{has_drawn, two_free}
use Rattle.rules.proofs.Elements.{once_from_free}
use Rattle.rules.proofs.Halves.{Single, drawn_in, drawn_single, ring_once}
use Rattle.rules.proofs.Nothing.{edges_free, nothing_made}
use Rattle.rules.proofs.Orders.{paired, same_edge_itself}
use Rattle.rules.proofs.Places.{at_in, in_at, nowhere, stable}
use Rattle.rules.proofs.RulePlaces.{corner_named, edges_first, less_true, named_corner, named_in, once_apart, reverses_first, strokes_first, true_less, twice_not_once}
use Rattle.rules.proofs.SharedPoints.{on_turned}
use Rattle.rules.proofs.Touching.{touching_swap, touching_touch}

-- ---- edges in the other direction touch as they do

joins_back : (e : Edge) (u v : ℕ) → Joins (back e) u v → Joins e u v
joins_back e u v (inl q) = inr (ap back q)
joins_back e u v (inr q) = inl (ap back q)

back_joins : (e : Edge) (u v : ℕ) → Joins e u v → Joins (back e) u v
back_joins e u v (inl q) = inr (ap back q)
back_joins e u v (inr q) = inl (ap back q)

touching_back : (at : ℕ → GridPoint) (e f : Edge) → Touching at e f → Touching at (back e) f
touching_back at e f (inl h) =
    inl (record {
      none_common = λ u v w i j. h.none_common u v w (joins_back e u v i) j;
      shared = (h.shared.0, h.shared.1, on_turned (at e.from) (at e.to) h.shared.0 h.shared.2, h.shared.3);
    })
touching_back at e f (inr h) =
    inr (record {
      common = h.common;
      first = h.first;
      second = h.second;
      joins_first = back_joins e h.common h.first h.joins_first;
      joins_second = h.joins_second;
      on = h.on;
    })

touching_back' : (at : ℕ → GridPoint) (e f : Edge) → Touching at e f → Touching at e (back f)
touching_back' at e f h = touching_swap at (back f) e (touching_back at f e (touching_swap at e f h))

-- an edge that is drawn is not drawn again, in neither direction
single_apart : (es : List Edge) → Single es → (i k : ℕ) (d : Edge) → i < k → k < length es
    → (¬ (get_or es i d ≡ get_or es k d)) × (¬ (get_or es i d ≡ back (get_or es k d)))
single_apart [] single i k d l h = absurd (omega arith)
single_apart (e ∷ es) single zero zero d l h = absurd (omega arith)
single_apart (e ∷ es) single zero (suc k) d l h =
    let i = at_in es k d (omega arith) in
    (λ q. single.0 (inl (subst (λ x. In x es) (sym q) i)), λ q. single.0 (inr (subst (λ x. In x es) (sym (ap back q)) i)))
single_apart (e ∷ es) single (suc i) zero d l h = absurd (omega arith)
single_apart (e ∷ es) single (suc i) (suc k) d l h = single_apart es single.1 i k d (omega arith) (omega arith)

module _ (s : Sheet) where
  abbrev none : Ring
  none = record { numeral = 0; corners = [] }

  -- ---- 13

  pub sum_kept : ((k : ℕ) → ¬ (Breaks s LoopSum k)) → LoopsAddUp s
  sum_kept h = stable (eqb (triangles_in s.rings) _) (eqb-true _ _) (eq-eqb _ _) (λ n. h 0 (refl, n))

  pub sum_unbroken : LoopsAddUp s → (k : ℕ) → ¬ (Breaks s LoopSum k)
  sum_unbroken rule k b = b.1 rule

  -- ---- 14

  pub points_kept : ((k : ℕ) → ¬ (Breaks s SamePoint k)) → PointsDiffer s
  points_kept h u v g k e = elim (cases_order u v) [
    | inl q ↦ q
    | inr (inl q) ↦ absurd (h v (k, (u, q, e)))
    | inr (inr q) ↦ absurd (h u (g, (v, q, sym e)))
  ]

  pub points_unbroken : PointsDiffer s → (k : ℕ) → ¬ (Breaks s SamePoint k)
  points_unbroken rule k b =
      let l = b.1.1 in
      let q = rule b.1.0 k (omega (arith, b.0)) b.0 b.1.2 in
      absurd (omega arith)

  -- ---- 15

  pub corners_kept : ((k : ℕ) → ¬ (Breaks s VertexTwice k)) → CornersDiffer s
  corners_kept h r i =
      let a = in_at r s.rings none i in
      elim (cases_Bool (names_twice r)) [
        | inl t ↦ absurd (h a.0 (a.1, twice_not_once (get_or s.rings a.0 none) (subst (λ r. names_twice r ≡ true) (sym a.2) t)))
        | inr f ↦ ring_once r f
      ]

  pub corners_unbroken : CornersDiffer s → (k : ℕ) → ¬ (Breaks s VertexTwice k)
  corners_unbroken rule k b = b.1 (rule (get_or s.rings k none) (at_in s.rings k none b.0))

  -- ---- 16

  pub listed_kept : ((k : ℕ) → ¬ (Breaks s EdgeTwice k)) → ListedOnce s
  listed_kept h = once_from_free same_edge same_edge_itself (edges_of s) (edges_free s (nowhere (Breaks s EdgeTwice) _ (edges_first s) h))

  pub listed_unbroken : ListedOnce s → (k : ℕ) → ¬ (Breaks s EdgeTwice k)
  listed_unbroken once k b = once_apart (edges_of s) once b.1.0 k (edge 0 0) b.1.1 b.0 b.1.2

  -- ---- 17

  pub reverses_kept : ((k : ℕ) → ¬ (Breaks s NoReverse k)) → ReversesListed s
  reverses_kept h = paired s (nowhere (Breaks s NoReverse) _ (reverses_first s) h)

  pub reverses_unbroken : ReversesListed s → (k : ℕ) → ¬ (Breaks s NoReverse k)
  reverses_unbroken rule k b = b.1 (rule _ (at_in (edges_of s) k (edge 0 0) b.0))

  -- ---- 18

  pub used_kept : ((k : ℕ) → ¬ (Breaks s VertexUnused k)) → VerticesUsed s
  used_kept h v g k = stable (named_in s v) (named_corner s v) (corner_named s v) (λ n. h v (g, k, n))

  pub used_unbroken : VerticesUsed s → (k : ℕ) → ¬ (Breaks s VertexUnused k)
  used_unbroken rule k b = b.2 (rule k b.0 b.1)

  -- ---- 19

  drawn_free : ((k : ℕ) → ¬ (Breaks s EdgesTouch k)) → IsFree (touch (vertex_at s)) (drawn_edges s)
  drawn_free h =
      IsFree-from_None (touch (vertex_at s)) (drawn_edges s)
      (nothing_made _ (first_clash_in (touch (vertex_at s)) (drawn_edges s)) (nowhere (Breaks s EdgesTouch) _ (strokes_first s) h))

  -- of two edges that are drawn and touch, the one is the other
  one_drawn : IsFree (touch (vertex_at s)) (drawn_edges s) → (x y : Edge) → In x (drawn_edges s) → In y (drawn_edges s) → Touching (vertex_at s) x y → x ≡ y
  one_drawn free x y i j t = elim (two_free (touch (vertex_at s)) (drawn_edges s) free x y i j) [
    | inl q ↦ q
    | inr (inl f) ↦ absurd (both_ways (touch (vertex_at s) x y) f (touching_touch (vertex_at s) x y t))
    | inr (inr f) ↦ absurd (both_ways (touch (vertex_at s) y x) f (touching_touch (vertex_at s) y x (touching_swap (vertex_at s) x y t)))
  ]

  pub edges_kept : ((k : ℕ) → ¬ (Breaks s EdgesTouch k)) → EdgesApart s
  edges_kept h e f i j other t =
      let one = one_drawn (drawn_free h) in
      elim (has_drawn s e i) [
        | inl x ↦ elim (has_drawn s f j) [
          | inl y ↦ other (inl (one e f x y t))
          | inr y ↦ other (inr (one e (back f) x y (touching_back' (vertex_at s) e f t)))
        ]
        | inr x ↦ elim (has_drawn s f j) [
          | inl y ↦ other (inr (ap back (one (back e) f x y (touching_back (vertex_at s) e f t))))
          | inr y ↦ other (inl (ap back (one (back e) (back f) x y (touching_back (vertex_at s) e (back f) (touching_back' (vertex_at s) e f t)))))
        ]
      ]

  pub edges_unbroken : ListedOnce s → EdgesApart s → (k : ℕ) → ¬ (Breaks s EdgesTouch k)
  edges_unbroken once rule k b =
      let l = drawn_edges s in
      let i = b.1.0 in
      let listed : (n : ℕ) → n < length l → In (drawn_at s n) (edges_of s) = λ n h. drawn_in [] (edges_of s) (drawn_at s n) (at_in l n (edge 0 0) h) in
      let apart = single_apart l (drawn_single [] (edges_of s) once) i k (edge 0 0) b.1.1 b.0 in
      let other : ¬ (OneSegment (drawn_at s i) (drawn_at s k)) = λ q. elim q [ inl r ↦ apart.0 r | inr r ↦ apart.1 r ] in
      rule (drawn_at s i) (drawn_at s k) (listed i (omega (arith, b.0, b.1.1))) (listed k b.0) other b.1.2

  -- ---- 20

  pub turns_kept : ((k : ℕ) → ¬ (Breaks s LoopTurned k)) → LoopsTurnLeft s
  turns_kept h r i =
      let a = in_at r s.rings none i in
      stable (int_lt (pos 0) (signed_area (vertex_at s) r.corners)) (true_less _) (less_true _)
      (λ n. h a.0 (a.1, λ left. n (subst (λ (r : Ring). TurnsLeft s r.corners) a.2 left)))

  pub turns_unbroken : LoopsTurnLeft s → (k : ℕ) → ¬ (Breaks s LoopTurned k)
  turns_unbroken rule k b = b.1 (rule (get_or s.rings k none) (at_in s.rings k none b.0))
