-- The tests of the definitions, and the facts that they decide.
use Rattle.std.proofs.Common.{◌≡◌, ℕ, ◌<◌, ◌≤◌, Bool, true, false, ◌&&◌, eqb, ltb, ◌⊎◌, List, [], ◌∷◌, ℤ, pos, ◌*ℤ◌, ◌≤ℤ◌, ◌<ℤ◌, sym, refl, ap, ◌∙◌, subst, inl, inr, arith}
use lib.Signed.{le_z, lt_z}
use Rattle.std.proofs.lemmas.Bool.{and_from, and_parts, both_ways, cases_order, cond-false, cond-true, eq-eqb, eqb-true, false≢true, le-ltb, lt-ltb, ltb-true, not_from_false, not-true, or_cases, or_from, or_left, or_right}
use Rattle.plane.specs.declared.Edge.{Edge}
use Rattle.plane.specs.Crossings.{crossing_sum}
use Rattle.plane.specs.Edges.{In, back, edge}
use Rattle.plane.specs.Points.{GridPoint, Spot, ahead, along, between, int_same, is_at, on_segment, is_on_sheet}
use Rattle.plane.proofs.Ring.{lit, ring, same?}
use Rattle.plane.proofs.Signs.{lin}
use Rattle.plane.proofs.Symbols.{aheadˢ, aˢ, pˢ, variables}
use Rattle.tiling.specs.Cells.{Cell, Subdivision, cell_holds, drawn, face, joins, listed, on_some_edge, open_edge, some_of, vertex}
use Rattle.tiling.specs.Order.{loop_of}
use Rattle.tiling.specs.Theorems.{edge_named}
use Rattle.tiling.specs.Triangles.{Triangle, closed_holds, side_at, sides}
use Rattle.tiling.proofs.Covering.{NotRight}
use Rattle.tiling.proofs.Overlaps.{OnEdge}
use Rattle.tiling.proofs.Segments.{At, Between, between_back}

-- ---- numbers

pub same_of_int_same : (u v : ℤ) → int_same u v ≡ true → u ≡ v
same_of_int_same u v h = grind lin

pub int_same_of_same : (u v : ℤ) → u ≡ v → int_same u v ≡ true
int_same_of_same u v h = grind lin

pub above_int_same : (u : ℤ) → pos 0 <ℤ u → int_same u (pos 0) ≡ false
above_int_same u h = grind lin

int_le_low : (u v : ℤ) → le_z u v ≡ true → u ≤ℤ v
int_le_low u v h = grind lin

low_int_le : (u v : ℤ) → u ≤ℤ v → le_z u v ≡ true
low_int_le u v h = grind lin

int_lt_less : (u v : ℤ) → lt_z u v ≡ true → u <ℤ v
int_lt_less u v h = grind lin

less_int_lt : (u v : ℤ) → u <ℤ v → lt_z u v ≡ true
less_int_lt u v h = grind lin

-- ---- some element of a list

module _ {X : Type 0} (test : X → Bool) where
  pub some_true : (l : List X) → some_of test l ≡ true → (x : X) × In x l × (test x ≡ true)
  some_true [] h = absurd (false≢true h)
  some_true (x ∷ l) h = elim (or_cases (test x) (some_of test l) h) [ inl t ↦ (x, inl refl, t) | inr t ↦ (let r = some_true l t in (r.0, inr r.1, r.2)) ]

  pub true_some : (l : List X) (x : X) → In x l → test x ≡ true → some_of test l ≡ true
  true_some [] x i t = absurd i
  true_some (y ∷ l) x (inl e) t = or_left (test y) (some_of test l) (ap test (sym e) ∙ t)
  true_some (y ∷ l) x (inr i) t = or_right (test y) (some_of test l) (true_some l x i t)

  pub false_some : (l : List X) → ((x : X) → In x l → test x ≡ true → ⊥) → some_of test l ≡ false
  false_some [] h = refl
  false_some (x ∷ l) h = or_from (test x) (some_of test l) (not_true' (test x) (h x (inl refl))) (false_some l (λ y i. h y (inr i)))
    where
      not_true' : (b : Bool) → (b ≡ true → ⊥) → b ≡ false
      not_true' true n = absurd (n refl)
      not_true' false n = refl

-- ---- points and segments

pub at_true : (a : GridPoint) (p : Spot) → is_at a p ≡ true → At a p
at_true a p h = let r = and_parts _ _ h in record { level_x = same_of_int_same _ _ r.0; level_y = same_of_int_same _ _ r.1 }

pub true_at : (a : GridPoint) (p : Spot) → At a p → is_at a p ≡ true
true_at a p h = and_from _ _ (int_same_of_same _ _ h.level_x) (int_same_of_same _ _ h.level_y)

pub between_true : (a b : GridPoint) (p : Spot) → between a b p ≡ true → Between a b p
between_true a b p h =
    let r = and_parts _ _ h in
    let q = and_parts _ _ r.1 in
    record { on = same_of_int_same _ _ r.0; after = int_lt_less _ _ q.0; before = int_lt_less _ _ q.1 }

pub true_between : (a b : GridPoint) (p : Spot) → Between a b p → between a b p ≡ true
true_between a b p h = and_from _ _ (int_same_of_same _ _ h.on) (and_from _ _ (less_int_lt _ _ h.after) (less_int_lt _ _ h.before))

module _ (at : ℕ → GridPoint) (e : Edge) (p : Spot) where
  abbrev on_edge : Bool
  on_edge = on_segment (at e.from) (at e.to) p

  pub on_true : on_edge ≡ true → OnEdge at e p
  on_true h = elim (or_cases _ _ h) [
    | inl t ↦ inl (at_true _ p t)
    | inr t ↦ inr (elim (or_cases _ _ t) [ inl u ↦ inl (at_true _ p u) | inr u ↦ inr (between_true _ _ p u) ])
  ]

  pub true_on : OnEdge at e p → on_edge ≡ true
  true_on (inl h) = or_left _ _ (true_at _ p h)
  true_on (inr (inl h)) = or_right (is_at (at e.from) p) _ (or_left _ _ (true_at _ p h))
  true_on (inr (inr h)) = or_right (is_at (at e.from) p) _ (or_right (is_at (at e.to) p) _ (true_between _ _ p h))

  pub on_back : OnEdge at e p → OnEdge at (back e) p
  on_back (inl h) = inr (inl h)
  on_back (inr (inl h)) = inl h
  on_back (inr (inr h)) = inr (inr (between_back h))

-- ---- the closed sheet and the closed triangle

pub record OnSheet (width height : ℤ) (p : Spot) : Type 0 where
  pub from_left : pos 0 ≤ℤ p.X
  pub to_right : p.X ≤ℤ (width *ℤ p.Z)
  pub from_below : pos 0 ≤ℤ p.Y
  pub to_above : p.Y ≤ℤ (height *ℤ p.Z)

pub sheet_true : (width height : ℤ) (p : Spot) → is_on_sheet width height p ≡ true → OnSheet width height p
sheet_true width height p h =
    let r = and_parts _ _ h in
    let i = and_parts _ _ r.0 in
    let j = and_parts _ _ r.1 in
    record { from_left = int_le_low _ _ i.0; to_right = int_le_low _ _ i.1; from_below = int_le_low _ _ j.0; to_above = int_le_low _ _ j.1 }

module _ (at : ℕ → GridPoint) (t : Triangle) (p : Spot) where
  pub closed_true : closed_holds at t p ≡ true → NotRight at (sides t) p
  closed_true h e i = go i (and_parts _ _ h)
    where
      side : Edge → Bool
      side x = le_z (pos 0) (side_at at p x)

      low : (x : Edge) → e ≡ x → side x ≡ true → pos 0 ≤ℤ side_at at p e
      low x q k = subst (λ (y : Edge). pos 0 ≤ℤ side_at at p y) (sym q) (int_le_low _ _ k)

      go : In e (sides t) → (side (edge t.a t.b) ≡ true) × ((side (edge t.b t.c) && side (edge t.c t.a)) ≡ true) → pos 0 ≤ℤ side_at at p e
      go (inl q) k = low _ q k.0
      go (inr (inl q)) k = low _ q (and_parts _ _ k.1).0
      go (inr (inr (inl q))) k = low _ q (and_parts _ _ k.1).1
      go (inr (inr (inr n))) k = absurd n

  pub true_closed : NotRight at (sides t) p → closed_holds at t p ≡ true
  true_closed h =
      and_from _ _ (low_int_le _ _ (h (edge t.a t.b) (inl refl)))
      (and_from _ _ (low_int_le _ _ (h (edge t.b t.c) (inr (inl refl)))) (low_int_le _ _ (h (edge t.c t.a) (inr (inr (inl refl))))))

-- ---- cells

not_flat : (a : GridPoint) (p : Spot) → ahead a a p ≡ pos 0
unfolding along same?
not_flat a p = ring (variables a a a p p (pos 0) (pos 0)) (aheadˢ aˢ aˢ pˢ) (lit (pos 0)) tt

-- an edge with a point in it has two ends
pub ends_differ : (at : ℕ → GridPoint) (u v : ℕ) (p : Spot) → Between (at u) (at v) p → u ≡ v → ⊥
ends_differ at u v p h e = go _ (ap (λ (w : ℕ). ahead (at u) (at w) p) (sym e) ∙ not_flat (at u) p) h.after
  where
    go : (x : ℤ) → x ≡ pos 0 → pos 0 <ℤ x → ⊥
    go x i j = omega lin

edge_is : (e : Edge) (u v : ℕ) → e.from ≡ u → e.to ≡ v → e ≡ edge u v
edge_is e u v a b = λ i. record { from = a i; to = b i }

joins_true : (u v : ℕ) (e : Edge) → joins u v e ≡ true → (e ≡ edge u v) ⊎ (e ≡ edge v u)
joins_true u v e h = elim (or_cases _ _ h) [
  | inl t ↦ inl (let r = and_parts _ _ t in edge_is e u v (eqb-true _ _ r.0) (eqb-true _ _ r.1))
  | inr t ↦ inr (let r = and_parts _ _ t in edge_is e v u (eqb-true _ _ r.0) (eqb-true _ _ r.1))
]

same_joins : (u v : ℕ) → joins u v (edge u v) ≡ true
same_joins u v = or_left _ _ (and_from _ _ (eq-eqb u u refl) (eq-eqb v v refl))

back_joins : (u v : ℕ) → joins v u (edge u v) ≡ true
back_joins u v = or_right (eqb u v && eqb v u) _ (and_from _ _ (eq-eqb u u refl) (eq-eqb v v refl))

module _ (s : Subdivision) where
  -- the edge between u and v is listed, in one direction or the other
  abbrev pub Drawn : ℕ → ℕ → Type 0
  Drawn u v = In (edge u v) (listed s) ⊎ In (edge v u) (listed s)

  pub drawn_true : (u v : ℕ) → drawn s u v ≡ true → Drawn u v
  drawn_true u v h =
      let r = some_true (joins u v) (listed s) h in
      elim (joins_true u v r.0 r.2) [ inl e ↦ inl (subst (λ (x : Edge). In x (listed s)) e r.1) | inr e ↦ inr (subst (λ (x : Edge). In x (listed s)) e r.1) ]

  pub true_drawn : (u v : ℕ) → Drawn u v → drawn s u v ≡ true
  true_drawn u v (inl i) = true_some (joins u v) (listed s) (edge u v) i (same_joins u v)
  true_drawn u v (inr i) = true_some (joins u v) (listed s) (edge v u) i (back_joins v u)

  module _ (p : Spot) where
    pub vertex_held : (v : ℕ) → v < s.vertices → At (s.at v) p → cell_holds s (vertex v) p ≡ true
    vertex_held v k h = and_from _ _ (lt-ltb _ _ k) (true_at _ p h)

    pub held_vertex : (v : ℕ) → cell_holds s (vertex v) p ≡ true → (v < s.vertices) × At (s.at v) p
    held_vertex v h = let r = and_parts _ _ h in (ltb-true _ _ r.0, at_true _ p r.1)

    named_held : (u v : ℕ) → u < v → Drawn u v → Between (s.at u) (s.at v) p → cell_holds s (open_edge u v) p ≡ true
    named_held u v k d h = and_from _ _ (and_from _ _ (lt-ltb _ _ k) (true_drawn u v d)) (true_between _ _ p h)

    turned : (u v : ℕ) → Drawn u v → Drawn v u
    turned u v (inl i) = inr i
    turned u v (inr i) = inl i

    pub edge_held : (u v : ℕ) → Drawn u v → Between (s.at u) (s.at v) p → cell_holds s (edge_named u v) p ≡ true
    edge_held u v d h = elim (cases_order u v) [
      | inl e ↦ absurd (ends_differ s.at u v p h e)
      | inr (inl k) ↦ subst (λ (c : Cell). cell_holds s c p ≡ true) (sym (cond-true (ltb u v) (open_edge u v) (open_edge v u) (lt-ltb u v k))) (named_held u v k d h)
      | inr (inr k) ↦ subst (λ (c : Cell). cell_holds s c p ≡ true) (sym (cond-false (ltb u v) (open_edge u v) (open_edge v u) (le-ltb u v (below k)))) (named_held v u k (turned u v d) (between_back h))
    ]
      where
        below : {m n : ℕ} → m < n → m ≤ n
        below k = omega arith

    pub held_edge : (u v : ℕ) → cell_holds s (open_edge u v) p ≡ true → (u < v) × Drawn u v × Between (s.at u) (s.at v) p
    held_edge u v h =
        let r = and_parts _ _ h in
        let q = and_parts _ _ r.0 in
        (ltb-true _ _ q.0, drawn_true u v q.1, between_true _ _ p r.1)

    -- on no edge
    abbrev pub Clear : Type 0
    Clear = (e : Edge) → In e (listed s) → OnEdge s.at e p → ⊥

    pub face_held : (l : ℕ) → crossing_sum s.at (loop_of s l) p ≡ pos 1 → Clear → cell_holds s (face l) p ≡ true
    face_held l k h = and_from _ _ (int_same_of_same _ _ k) (not_from_false (on_some_edge s p) (false_some _ (listed s) (λ e i t. h e i (on_true s.at e p t))))

    pub held_face : (l : ℕ) → cell_holds s (face l) p ≡ true → (crossing_sum s.at (loop_of s l) p ≡ pos 1) × Clear
    held_face l h =
        let r = and_parts _ _ h in
        (same_of_int_same _ _ r.0, λ e i o. both_ways (on_some_edge s p) (not-true _ r.1) (true_some _ (listed s) e i (true_on s.at e p o)))
