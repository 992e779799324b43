-- The answer of each rule is the first place where the rule is broken.
use Rattle.std.proofs.Common.{◌≡◌, ℕ, zero, suc, ◌+◌, ◌-◌, ◌<◌, ◌≤◌, Bool, true, false, cond, not, eqb, List, [], ◌∷◌, length, get_or, Some, None, is_some, ℤ, pos, ◌<ℤ◌, int_lt, refl, sym, ap, ◌∙◌, subst, inl, inr, arith}
use Rattle.std.specs.List.{list_any, range_with_len}
use Rattle.std.proofs.lemmas.Bool.{and_parts, both_ways, cases_Bool, cond-false, cond-true, eq-eqb, eqb-true}
use Rattle.std.proofs.lemmas.List.FromFn.{get_or-range_with_len, length-range_with_len}
use Rattle.clash.specs.Clashes.{IsFree}
use Rattle.clash.proofs.Firsts.{first_clash_in-free}
use Rattle.plane.specs.declared.Edge.{Edge}
use Rattle.plane.specs.declared.Point.{Point}
use Rattle.plane.specs.Edges.{In, Once, back, edge, same_edge}
use Rattle.plane.specs.Points.{grid_point, same_point}
use Rattle.plane.proofs.Signs.{lin}
use Rattle.refusal.specs.declared.Cause.TheVariants.{LoopSum, SamePoint, VertexTwice, EdgeTwice, NoReverse, VertexUnused, EdgesTouch, LoopTurned}
use Rattle.sheet.specs.Sheets.{Ring, Sheet, edges_of, point, points_of}
use Rattle.rules.specs.Rules.{drawn_edges, edges_broken, is_listed, loops_broken, names, names_twice, points_broken, reverses_broken, signed_area, strokes_broken, sum_broken, touch, turns_broken, vertices_broken}
use Rattle.rules.specs.Sound.{Breaks, IsCorner, vertex_at}
use Rattle.rules.proofs.Drawn.{listed_back}
use Rattle.rules.proofs.Elements.{some_passes}
use Rattle.rules.proofs.Halves.{listed_in, ring_once}
use Rattle.rules.proofs.Orders.{grid_same, same_edge_itself, same_edge_true}
use Rattle.rules.proofs.Places.{Clashing, IsFirst, any_in, at_in, first_clashing, first_position, not_refuted, refuted, reworded, shifted}
use Rattle.rules.proofs.Touching.{touch_touching, touching_swap, touching_touch}

-- ---- tests, and what they decide

same_grid : (a b : Point) → same_point a b ≡ true → grid_point b ≡ grid_point a
same_grid a b h =
    let r = and_parts (eqb a.x b.x) (eqb a.y b.y) h in
    let x = sym (eqb-true a.x b.x r.0) in
    let y = sym (eqb-true a.y b.y r.1) in
    λ i. record { x = pos (x i); y = pos (y i) }

same_edges : (e f : Edge) → e ≡ f → same_edge f e ≡ true
same_edges e f q = subst (λ x. same_edge f x ≡ true) (sym q) (same_edge_itself f)

-- of a list whose elements all differ, no two are the same
pub once_apart : {X : Type 0} (xs : List X) → Once xs → (i j : ℕ) (d : X) → i < j → j < length xs → ¬ (get_or xs i d ≡ get_or xs j d)
once_apart [] once i j d l h e = absurd (omega arith)
once_apart (x ∷ xs) once zero zero d l h e = absurd (omega arith)
once_apart (x ∷ xs) once zero (suc j) d l h e = once.0 (subst (λ y. In y xs) (sym e) (at_in xs j d (omega arith)))
once_apart (x ∷ xs) once (suc i) zero d l h e = absurd (omega arith)
once_apart (x ∷ xs) once (suc i) (suc j) d l h e = once_apart xs once.1 i j d (omega arith) (omega arith) e

once_free : (cs : List ℕ) → Once cs → IsFree eqb cs
once_free cs once = λ i j d l h. elim (cases_Bool (eqb (get_or cs j d) (get_or cs i d))) [
  | inl t ↦ absurd (once_apart cs once i j d l h (sym (eqb-true _ _ t)))
  | inr f ↦ f
]

pub once_named : (r : Ring) → Once r.corners → names_twice r ≡ false
once_named r once = ap is_some (first_clash_in-free eqb r.corners (once_free r.corners once))

pub twice_not_once : (r : Ring) → names_twice r ≡ true → ¬ (Once r.corners)
twice_not_once r t once = both_ways (names_twice r) (once_named r once) t

not_once_twice : (r : Ring) → ¬ (Once r.corners) → names_twice r ≡ true
not_once_twice r h = elim (cases_Bool (names_twice r)) [ inl t ↦ t | inr f ↦ absurd (h (ring_once r f)) ]

pub true_less : (d : ℤ) → int_lt (pos 0) d ≡ true → pos 0 <ℤ d
true_less d h = grind lin

pub less_true : (d : ℤ) → pos 0 <ℤ d → int_lt (pos 0) d ≡ true
less_true d h = grind lin

-- ---- 13

sums : (t n : ℕ) → IsFirst (λ k. (k ≡ 0) × ¬ (t ≡ n)) (cond (eqb t n) None (Some 0))
sums t n =
    let P : ℕ → Type 0 = λ k. (k ≡ 0) × ¬ (t ≡ n) in
    elim (cases_Bool (eqb t n)) [
      | inl h ↦ subst (IsFirst P) (sym (cond-true (eqb t n) None (Some 0) h)) (λ k b. b.1 (eqb-true t n h))
      | inr f ↦ subst (IsFirst P) (sym (cond-false (eqb t n) None (Some 0) f)) (record { here = (refl, λ e. both_ways (eqb t n) f (eq-eqb t n e)); none_before = λ j l. absurd (omega arith) })
    ]

module _ (s : Sheet) where
  abbrev none : Ring
  none = record { numeral = 0; corners = [] }

  pub sum_first : IsFirst (Breaks s LoopSum) (sum_broken s)
  sum_first = sums _ _

  -- ---- 14, 16 and 19

  pub points_first : IsFirst (Breaks s SamePoint) (points_broken s)
  points_first =
      reworded (Clashing same_point (points_of s) (point 0 0)) (Breaks s SamePoint) (λ k h. (omega (arith, h.0), (h.1.0, h.1.1, same_grid _ _ h.1.2)))
      (λ k h. (omega (arith, h.0), (h.1.0, h.1.1, grid_same _ _ h.1.2))) (points_broken s) (first_clashing same_point (points_of s) (point 0 0))

  pub edges_first : IsFirst (Breaks s EdgeTwice) (edges_broken s)
  edges_first =
      reworded (Clashing same_edge (edges_of s) (edge 0 0)) (Breaks s EdgeTwice) (λ k h. (h.0, (h.1.0, h.1.1, same_edge_true _ _ h.1.2)))
      (λ k h. (h.0, (h.1.0, h.1.1, same_edges _ _ h.1.2))) (edges_broken s) (first_clashing same_edge (edges_of s) (edge 0 0))

  pub strokes_first : IsFirst (Breaks s EdgesTouch) (strokes_broken s)
  strokes_first =
      reworded (Clashing (touch (vertex_at s)) (drawn_edges s) (edge 0 0)) (Breaks s EdgesTouch)
      (λ k h. (h.0, (h.1.0, h.1.1, touching_swap (vertex_at s) _ _ (touch_touching (vertex_at s) _ _ h.1.2))))
      (λ k h. (h.0, (h.1.0, h.1.1, touching_touch (vertex_at s) _ _ (touching_swap (vertex_at s) _ _ h.1.2)))) (strokes_broken s)
      (first_clashing (touch (vertex_at s)) (drawn_edges s) (edge 0 0))

  -- ---- 15, 17 and 20

  pub loops_first : IsFirst (Breaks s VertexTwice) (loops_broken s)
  loops_first =
      reworded (λ k. (k < length s.rings) × (names_twice (get_or s.rings k none) ≡ true)) (Breaks s VertexTwice)
      (λ k h. (h.0, twice_not_once (get_or s.rings k none) h.1)) (λ k h. (h.0, not_once_twice (get_or s.rings k none) h.1)) (loops_broken s)
      (first_position names_twice s.rings none)

  pub reverses_first : IsFirst (Breaks s NoReverse) (reverses_broken s)
  reverses_first =
      let es = edges_of s in
      let lost : Edge → Bool = λ e. not (is_listed es (back e)) in
      reworded (λ k. (k < length es) × (lost (get_or es k (edge 0 0)) ≡ true)) (Breaks s NoReverse)
      (λ k h. (h.0, refuted (is_listed es (back (get_or es k (edge 0 0)))) (listed_back es _) (listed_in es _) h.1))
      (λ k h. (h.0, not_refuted (is_listed es (back (get_or es k (edge 0 0)))) (listed_back es _) (listed_in es _) h.1)) (reverses_broken s)
      (first_position lost es (edge 0 0))

  pub turns_first : IsFirst (Breaks s LoopTurned) (turns_broken s)
  turns_first =
      let area : Ring → ℤ = λ r. signed_area (vertex_at s) r.corners in
      let right : Ring → Bool = λ r. not (int_lt (pos 0) (area r)) in
      reworded (λ k. (k < length s.rings) × (right (get_or s.rings k none) ≡ true)) (Breaks s LoopTurned)
      (λ k h. (h.0, refuted (int_lt (pos 0) (area (get_or s.rings k none))) (true_less _) (less_true _) h.1))
      (λ k h. (h.0, not_refuted (int_lt (pos 0) (area (get_or s.rings k none))) (true_less _) (less_true _) h.1)) (turns_broken s)
      (first_position right s.rings none)

  -- ---- 18

  abbrev pub named_in : ℕ → Bool
  named_in v = list_any (λ r. names r v) s.rings

  pub named_corner : (v : ℕ) → named_in v ≡ true → IsCorner s v
  named_corner v h =
      let r = some_passes (λ r. names r v) s.rings h in
      let u = some_passes (λ u. eqb u v) r.0.corners r.2 in
      (r.0, r.1, subst (λ u. In u r.0.corners) (eqb-true u.0 v u.2) u.1)

  pub corner_named : (v : ℕ) → IsCorner s v → named_in v ≡ true
  corner_named v h = any_in (λ r. names r v) s.rings h.0 h.1 (any_in (λ u. eqb u v) h.0.corners v h.2 (eq-eqb v v refl))

  inner_at : (v : ℕ) → 4 ≤ v → v < length s.inner + 4 → get_or (range_with_len 4 (length s.inner)) (v - 4) 0 ≡ v
  inner_at v h k = get_or-range_with_len 4 (length s.inner) (v - 4) 0 (omega arith) ∙ omega arith

  pub vertices_first : IsFirst (Breaks s VertexUnused) (vertices_broken s)
  vertices_first =
      let vs = range_with_len 4 (length s.inner) in
      let unused : ℕ → Bool = λ v. not (named_in v) in
      let n : length vs ≡ length s.inner = length-range_with_len 4 (length s.inner) in
      reworded (λ v. (4 ≤ v) × ((v - 4 < length vs) × (unused (get_or vs (v - 4) 0) ≡ true))) (Breaks s VertexUnused)
      (λ v h.
      let k : v < length s.inner + 4 = omega (arith, h.0, h.1.0) in
      (h.0, k, refuted (named_in v) (named_corner v) (corner_named v) (subst (λ u. unused u ≡ true) (inner_at v h.0 k) h.1.1)))
      (λ v h.
      (h.0, (omega (arith, h.0, h.1), subst (λ u. unused u ≡ true) (sym (inner_at v h.0 h.1)) (not_refuted (named_in v) (named_corner v) (corner_named v) h.2))))
      (vertices_broken s) (shifted _ _ (first_position unused vs 0))
