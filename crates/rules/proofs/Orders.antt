-- A sheet within its limits that keeps the rules is a subdivision in order.
use Rattle.std.proofs.Common.{All, ◌≡◌, ℕ, zero, suc, ◌+◌, ◌-◌, ◌<◌, ◌≤◌, Bool, true, false, not, eqb, List, [], ◌∷◌, ◌++◌, None, length, map, get_or, pos, refl, sym, ap, ◌∙◌, subst, inl, inr, arith}
use Rattle.std.specs.List.{flat_map, list_any, range_with_len}
use Rattle.std.proofs.lemmas.Bool.{and_from, and_parts, cases_order, eq-eqb, eqb-true, false≢true, not-false}
use Rattle.std.proofs.lemmas.List.Elements.{All-map}
use Rattle.std.proofs.lemmas.List.FromFn.{get_or-range_with_len, length-range_with_len}
use Rattle.plane.specs.declared.Edge.{Edge}
use Rattle.plane.specs.declared.Point.{Point}
use Rattle.plane.specs.Edges.{In, Once, back, outside, ring_edges}
use Rattle.plane.specs.Points.{grid_point, place_of}
use Rattle.plane.proofs.Signs.{lin}
use Rattle.sheet.specs.Legal.{Inside, LegalRing}
use Rattle.sheet.specs.Sheets.{Ring, Sheet, edges_of, point, points_of}
use Rattle.tiling.specs.Cells.{listed}
use Rattle.tiling.specs.Order.{Inner}
use Rattle.tiling.proofs.Lists.{in_map}
use Rattle.rules.specs.Planes.{CheckedIsInOrder, plane_of}
use Rattle.rules.specs.Rules.{is_listed, names, reverses_broken}
use Rattle.plane.specs.Edges.{same_edge}
use Rattle.plane.specs.Points.{same_point}
use Rattle.rules.proofs.Elements.{all_in, none_passes, once_from_free, some_passes}
use Rattle.rules.proofs.Nothing.{Kept, edges_free, kept, nothing_made, points_free}

-- ---- points

pub grid_same : (a b : Point) → grid_point a ≡ grid_point b → same_point b a ≡ true
grid_same a b e =
    let x : a.x ≡ b.x = cc (ap (λ p. p.x) e) in
    let y : a.y ≡ b.y = cc (ap (λ p. p.y) e) in
    and_from (eqb b.x a.x) (eqb b.y a.y) (eq-eqb b.x a.x (sym x)) (eq-eqb b.y a.y (sym y))

inner_grid : (w h : ℕ) (p : Point) → Inside w h p → Inner (pos w) (pos h) (grid_point p)
inner_grid w h p i = let a = i.right in let b = i.left in let c = i.above in let d = i.below in record { left = omega lin; right = omega lin; below = omega lin; above = omega lin }

module _ (s : Sheet) where
  inner : All (Inside s.width s.height) s.inner → (v : ℕ) → 4 ≤ v → v < length s.inner + 4 → Inner (pos s.width) (pos s.height) (place_of (points_of s) v)
  inner inside zero h k = absurd (omega arith)
  inner inside (suc zero) h k = absurd (omega arith)
  inner inside (suc (suc zero)) h k = absurd (omega arith)
  inner inside (suc (suc (suc zero))) h k = absurd (omega arith)
  inner inside (suc (suc (suc (suc v)))) h k = inner_grid s.width s.height (get_or s.inner v (point 0 0)) (inside v (point 0 0) (omega arith))

  -- of two vertices at one place, neither comes first
  not_sooner : Kept s → (u v : ℕ) → v < length s.inner + 4 → place_of (points_of s) u ≡ place_of (points_of s) v → u < v → ⊥
  not_sooner k u v h e sooner =
      false≢true (sym (points_free s k u v (point 0 0) sooner (omega arith)) ∙ grid_same (get_or (points_of s) u (point 0 0)) (get_or (points_of s) v (point 0 0)) e)

  apart : Kept s → (u v : ℕ) → u < length s.inner + 4 → v < length s.inner + 4 → place_of (points_of s) u ≡ place_of (points_of s) v → u ≡ v
  apart k u v g h e = elim (cases_order u v) [
    | inl q ↦ q
    | inr (inl q) ↦ absurd (not_sooner k u v h e q)
    | inr (inr q) ↦ absurd (not_sooner k v u g (sym e) q)
  ]

-- ---- names of vertices

module _ (s : Sheet) where
  named : All (LegalRing (length s.inner + 4)) s.rings → (l : List ℕ) → In l (plane_of s).loops → (v : ℕ) → In v l → v < length s.inner + 4
  named legal l i =
      all_in (λ v. v < length s.inner + 4) l
      (all_in (All (λ v. v < length s.inner + 4)) (plane_of s).loops
      (All-map (All (λ v. v < length s.inner + 4)) (λ r. r.corners) s.rings (λ k d inside. (legal k d inside).named)) l i)

  -- a loop names each inner vertex
  some_names : Kept s → (v : ℕ) → 4 ≤ v → v < length s.inner + 4 → list_any (λ r. names r v) s.rings ≡ true
  some_names k v h inside =
      let failing : ℕ → Bool = λ v. not (list_any (λ r. names r v) s.rings) in
      let all = none_passes failing (range_with_len 4 (length s.inner)) (nothing_made (λ i. 4 + i) _ k.vertices) in
      let n = length-range_with_len 4 (length s.inner) in
      let e : get_or (range_with_len 4 (length s.inner)) (v - 4) 0 ≡ v = get_or-range_with_len 4 (length s.inner) (v - 4) 0 (omega arith) ∙ omega arith in
      not-false _ (rw e at (all (v - 4) 0 (omega arith)))

  used : Kept s → (v : ℕ) → 4 ≤ v → v < length s.inner + 4 → (l : List ℕ) × In l (plane_of s).loops × In v l
  used k v h inside =
      let r = some_passes (λ r. names r v) s.rings (some_names k v h inside) in
      let u = some_passes (λ u. eqb u v) r.0.corners r.2 in
      (r.0.corners, in_map (λ r. r.corners) r.0 s.rings r.1, subst (λ u. In u r.0.corners) (eqb-true u.0 v u.2) u.1)

-- ---- edges

-- the sheet and the subdivision list the same edges
joined_map : {X Y Z : Type 0} (f : X → Y) (g : Y → List Z) (xs : List X) → flat_map g (map f xs) ≡ flat_map (λ x. g (f x)) xs
joined_map f g [] = refl
joined_map f g (x ∷ xs) = ap (λ zs. g (f x) ++ zs) (joined_map f g xs)

pub listed_edges : (s : Sheet) → edges_of s ≡ listed (plane_of s)
listed_edges s = ap (λ es. es ++ outside) (sym (joined_map (λ (r : Ring). r.corners) ring_edges s.rings))

pub same_edge_itself : (e : Edge) → same_edge e e ≡ true
same_edge_itself e = and_from (eqb e.from e.from) (eqb e.to e.to) (eq-eqb e.from e.from refl) (eq-eqb e.to e.to refl)

pub same_edge_true : (e f : Edge) → same_edge e f ≡ true → f ≡ e
same_edge_true e f h =
    let p = and_parts (eqb e.from f.from) (eqb e.to f.to) h in
    let a = sym (eqb-true e.from f.from p.0) in
    let b = sym (eqb-true e.to f.to p.1) in
    λ i. record { from = a i; to = b i }

-- the reverse of an edge is listed
pub paired : (s : Sheet) → reverses_broken s ≡ None → (e : Edge) → In e (edges_of s) → In (back e) (edges_of s)
paired s h e i =
    let all = none_passes (λ e. not (is_listed (edges_of s) (back e))) (edges_of s) h in
    let f = some_passes (same_edge (back e)) (edges_of s) (not-false _ (all_in (λ e. not (is_listed (edges_of s) (back e)) ≡ false) (edges_of s) all e i)) in
    subst (λ f. In f (edges_of s)) (same_edge_true (back e) f.0 f.2) f.1

-- ---- all of it

pub checked_is_in_order : CheckedIsInOrder
checked_is_in_order s legal none =
    let k = kept s none in
    let w = legal.width in
    let h = legal.height in
    record {
      wide = omega lin;
      high = omega lin;
      corner_0 = refl;
      corner_1 = refl;
      corner_2 = refl;
      corner_3 = refl;
      four = omega arith;
      inner = inner s legal.inside;
      apart = apart s k;
      named = named s legal.rings;
      used = used s k;
      once = subst Once (listed_edges s) (once_from_free same_edge same_edge_itself (edges_of s) (edges_free s k.edges));
      paired = subst (λ es. (e : Edge) → In e es → In (back e) es) (listed_edges s) (paired s k.reverses);
    }
