-- No two cells hold one point.
use Rattle.std.proofs.Common.{◌≡◌, ℕ, zero, suc, ◌<◌, ◌≤◌, true, ◌⊎◌, List, [], ◌∷◌, length, get_or, ℤ, pos, ◌+ℤ◌, ◌-ℤ◌, ◌*ℤ◌, ◌≤ℤ◌, ◌<ℤ◌, sym, refl, ap, ◌∙◌, subst, ap₂, inl, inr, arith}
use Rattle.std.proofs.lemmas.Bool.{cases_lt}
use Rattle.plane.specs.declared.Edge.{Edge}
use Rattle.plane.specs.Crossings.{crossing_sum}
use Rattle.plane.specs.Edges.{In, back, edge}
use Rattle.plane.specs.Points.{GridPoint, Spot, ahead, along, det, spot_at}
use Rattle.plane.proofs.Ring.{var, ◌⊕◌, ◌⊖◌, ◌⊗◌, ring, same?}
use Rattle.plane.proofs.Signs.{lin, right_0, times-++, times->>, zero_right}
use Rattle.plane.proofs.Symbols.{GridPointˢ, aheadˢ, alongˢ, aˢ, bˢ, cˢ, detˢ, gˢ, pˢ, spot_atˢ, variables}
use Rattle.tiling.specs.Cells.{Cell, Subdivision, cell_holds, face, listed, open_edge, vertex}
use Rattle.plane.specs.Edges.{outside}
use Rattle.tiling.specs.Order.{InOrder, Triangulated, loop_of}
use Rattle.tiling.specs.Triangles.{Triangle, side_at, sides}
use Rattle.tiling.proofs.Borders.{Beyond, beyond, frame}
use Rattle.tiling.proofs.Holding.{Drawn, ends_differ, held_edge, held_face, held_vertex}
use Rattle.tiling.proofs.Lists.{in_left}
use Rattle.tiling.proofs.Overlaps.{InEdge, OnEdge, Tiles, between_only, only_side, side_held, side_on}
use Rattle.tiling.proofs.Segments.{At, Between, between_back, end_on, start_not_between, start_on}
use Rattle.tiling.proofs.Sheets.{all, ends_named, inner, inner_back, listed_inner, one_loop, owner, tiles, vertex_used}

-- ---- a whole point as a spot, and a point between two

pub at_spot : (a : GridPoint) → At a (spot_at a)
at_spot a = record { level_x = one a.x; level_y = one a.y }
  where
    one : (x : ℤ) → x ≡ x *ℤ pos 1
    one x = omega lin

-- the side of p is that of the vertex where it is, Z times
det_at : (u v a : GridPoint) (p : Spot) → At a p → det u v p ≡ p.Z *ℤ det u v (spot_at a)
unfolding det same?
det_at u v a p h =
    ap (det u v) (λ i. record { X = h.level_x i; Y = h.level_y i; Z = p.Z })
    ∙ ring (variables u v a p p (pos 0) (pos 0))
    (detˢ aˢ bˢ (record { X = cˢ.x ⊗ pˢ.Z; Y = cˢ.y ⊗ pˢ.Z; Z = pˢ.Z })) (pˢ.Z ⊗ detˢ aˢ bˢ (spot_atˢ cˢ)) tt

-- the side of a point between a and b weighs those of a and b
pub det_between : (u v a b : GridPoint) (p : Spot)
    → ahead a b (spot_at b) *ℤ det u v p
    ≡ ahead b a p *ℤ det u v (spot_at a) +ℤ ahead a b p *ℤ det u v (spot_at b) +ℤ along (v.x -ℤ u.x) (v.y -ℤ u.y) a (spot_at b) *ℤ det a b p
unfolding along det same?
det_between u v a b p =
    ring (variables u v a p (spot_at b) (pos 0) (pos 0))
    (aheadˢ cˢ dˢ (spot_atˢ dˢ) ⊗ detˢ aˢ bˢ pˢ)
    (aheadˢ dˢ cˢ pˢ ⊗ detˢ aˢ bˢ (spot_atˢ cˢ) ⊕ aheadˢ cˢ dˢ pˢ ⊗ detˢ aˢ bˢ (spot_atˢ dˢ) ⊕ alongˢ (bˢ.x ⊖ aˢ.x) (bˢ.y ⊖ aˢ.y) cˢ (spot_atˢ dˢ) ⊗ detˢ cˢ dˢ pˢ) tt
  where
    dˢ : GridPointˢ
    dˢ = record { x = gˢ.X; y = gˢ.Y }

-- with p on both lines, a and b are not both beside the line of u and v
on_both : (u v a b : GridPoint) (p : Spot) → det u v p ≡ pos 0 → Between a b p → pos 0 ≤ℤ det u v (spot_at a) → pos 0 ≤ℤ det u v (spot_at b)
    → (pos 0 <ℤ det u v (spot_at a)) ⊎ (pos 0 <ℤ det u v (spot_at b)) → ⊥
on_both u v a b p e h i j k =
    let q = det_between u v a b p in
    let r = zero_right (ahead a b (spot_at b)) (det u v p) e in
    let s = zero_right (along (v.x -ℤ u.x) (v.y -ℤ u.y) a (spot_at b)) (det a b p) h.on in
    elim k [
      | inl l ↦ (let m = times->> (ahead b a p) (det u v (spot_at a)) h.before l in let n = times-++ (ahead a b p) (det u v (spot_at b)) (weak h.after) j in omega lin)
      | inr l ↦ (let m = times-++ (ahead b a p) (det u v (spot_at a)) (weak h.before) i in let n = times->> (ahead a b p) (det u v (spot_at b)) h.after l in omega lin)
    ]
  where
    weak : {x : ℤ} → pos 0 <ℤ x → pos 0 ≤ℤ x
    weak l = omega lin

-- two whole points at one spot are one
same_point : (a b : GridPoint) (p : Spot) → pos 0 <ℤ p.Z → At a p → At b p → a ≡ b
unfolding same?
same_point a b p z h k = λ i. record { x = equal a.x b.x p.X h.level_x k.level_x i; y = equal a.y b.y p.Y h.level_y k.level_y i }
  where
    less_times : (x y w : ℤ) → w *ℤ (x -ℤ y) ≡ x *ℤ w -ℤ y *ℤ w
    less_times x y w = ring (x ∷ y ∷ w ∷ []) (var 2 ⊗ (var 0 ⊖ var 1)) (var 0 ⊗ var 2 ⊖ var 1 ⊗ var 2) tt

    equal : (x y w : ℤ) → w ≡ x *ℤ p.Z → w ≡ y *ℤ p.Z → x ≡ y
    equal x y w e f = let d = less_times x y p.Z in let q = right_0 p.Z (x -ℤ y) z (omega lin) in omega lin

-- ---- the ends of an edge

-- e is an edge between u and v
abbrev Ends : Edge → ℕ → ℕ → Type 0
Ends e u v = (e ≡ edge u v) ⊎ (e ≡ edge v u)

ends_back : (e : Edge) (u v : ℕ) → Ends e u v → Ends (back e) u v
ends_back e u v (inl q) = inr (ap back q)
ends_back e u v (inr q) = inl (ap back q)

-- two names of one edge with the lower vertex first are one
same_ends : (e : Edge) (u v w x : ℕ) → u < v → w < x → Ends e u v → Ends e w x → (w ≡ u) × (x ≡ v)
same_ends e u v w x h k (inl q) (inl r) = (ap (λ (y : Edge). y.from) (sym r ∙ q), ap (λ (y : Edge). y.to) (sym r ∙ q))
same_ends e u v w x h k (inl q) (inr r) = let a = ap (λ (y : Edge). y.from) (sym r ∙ q) in let b = ap (λ (y : Edge). y.to) (sym r ∙ q) in absurd (omega arith)
same_ends e u v w x h k (inr q) (inl r) = let a = ap (λ (y : Edge). y.from) (sym r ∙ q) in let b = ap (λ (y : Edge). y.to) (sym r ∙ q) in absurd (omega arith)
same_ends e u v w x h k (inr q) (inr r) = (ap (λ (y : Edge). y.to) (sym r ∙ q), ap (λ (y : Edge). y.from) (sym r ∙ q))

past_none : {X : Type 0} (d : X) (l : List X) (i : ℕ) → length l ≤ i → get_or l i d ≡ d
past_none d [] i h = refl
past_none d (x ∷ l) zero h = absurd (omega arith)
past_none d (x ∷ l) (suc i) h = past_none d l i (omega arith)

module _ (s : Subdivision) (triangles : ℕ → List Triangle) (o : InOrder s) (g : Triangulated s triangles) (p : Spot) (z : pos 0 <ℤ p.Z) where
  abbrev T : Tiles s.at (all s triangles o g)
  T = tiles s triangles o g

  -- ---- an open edge and an edge of a loop through one point are one edge

  -- between two loops: by the triangles on both sides
  meets_inside : (e : Edge) → In e (inner s) → In (back e) (inner s) → InEdge s.at e p → (y : Edge) → In y (inner s) → OnEdge s.at y p → (y ≡ e) ⊎ (y ≡ back e)
  meets_inside e i i' h y j d =
      let t = owner s triangles o g e i in
      let t' = owner s triangles o g (back e) i' in
      let u = owner s triangles o g y j in
      let k = T.leftward t.0 t.1 in
      let k' = T.leftward t'.0 t'.1 in
      let l = T.leftward u.0 u.1 in
      let w = side_on s.at u.0 l y u.2 p d in
      elim (between_only T p z u.0 t.0 t'.0 e u.1 t.1 t'.1 (side_held s.at u.0 l y u.2 p z d) t.2 t'.2 h) [
        | inl q ↦ inl (only_side s.at t.0 k e t.2 p h y (subst (λ (x : Triangle). In y (sides x)) q u.2) w)
        | inr q ↦ inr (only_side s.at t'.0 k' (back e) t'.2 p (between_back h) y (subst (λ (x : Triangle). In y (sides x)) q u.2) w)
      ]

  -- on the border: every vertex is an end of the border edge, or off its line
  module _ (e : Edge) (f : In e frame) (h : InEdge s.at e p) where
    off_vertex : (v : ℕ) → v < s.vertices → At (s.at v) p → ⊥
    off_vertex v k a = elim (beyond s o v k e f) [
      | inl l ↦ (let q = det_at (s.at e.from) (s.at e.to) (s.at v) p a in let r = times->> p.Z (side_at s.at (spot_at (s.at v)) e) z l in let w = h.on in omega lin)
      | inr (inl q) ↦ start_not_between (s.at e.from) (s.at e.to) p (subst (λ (w : ℕ). At (s.at w) p) q a) h
      | inr (inr q) ↦ start_not_between (s.at e.to) (s.at e.from) p (subst (λ (w : ℕ). At (s.at w) p) q a) (between_back h)
    ]

    low : (v : ℕ) → Beyond s o v e → pos 0 ≤ℤ side_at s.at (spot_at (s.at v)) e
    low v (inl l) = omega lin
    low v (inr (inl q)) = let r = start_on (s.at v) (s.at e.to) (spot_at (s.at v)) (at_spot (s.at v)) in flat (ap (λ (w : ℕ). det (s.at w) (s.at e.to) (spot_at (s.at v))) (sym q) ∙ r)
      where
        flat : {u : ℤ} → u ≡ pos 0 → pos 0 ≤ℤ u
        flat a = omega lin
    low v (inr (inr q)) = let r = end_on (s.at v) (s.at e.from) (spot_at (s.at v)) (at_spot (s.at v)) in flat (ap (λ (w : ℕ). det (s.at e.from) (s.at w) (spot_at (s.at v))) (sym q) ∙ r)
      where
        flat : {u : ℤ} → u ≡ pos 0 → pos 0 ≤ℤ u
        flat a = omega lin

    border_edge : (y : Edge) → InEdge s.at y p → Beyond s o y.from e → Beyond s o y.to e → (y ≡ e) ⊎ (y ≡ back e)
    border_edge y d (inl a) b = absurd (on_both (s.at e.from) (s.at e.to) (s.at y.from) (s.at y.to) p h.on d (low y.from (inl a)) (low y.to b) (inl a))
    border_edge y d (inr a) (inl b) = absurd (on_both (s.at e.from) (s.at e.to) (s.at y.from) (s.at y.to) p h.on d (low y.from (inr a)) (low y.to (inl b)) (inr b))
    border_edge y d (inr (inl a)) (inr (inr b)) = inl (λ i. record { from = a i; to = b i })
    border_edge y d (inr (inr a)) (inr (inl b)) = inr (λ i. record { from = a i; to = b i })
    border_edge y d (inr (inl a)) (inr (inl b)) = absurd (ends_differ s.at y.from y.to p d (a ∙ sym b))
    border_edge y d (inr (inr a)) (inr (inr b)) = absurd (ends_differ s.at y.from y.to p d (a ∙ sym b))

    meets_border : (y : Edge) → In y (inner s) → OnEdge s.at y p → (y ≡ e) ⊎ (y ≡ back e)
    meets_border y j (inl a) = absurd (off_vertex y.from (ends_named s o y j).0 a)
    meets_border y j (inr (inl a)) = absurd (off_vertex y.to (ends_named s o y j).1 a)
    meets_border y j (inr (inr d)) = border_edge y d (beyond s o y.from (ends_named s o y j).0 e f) (beyond s o y.to (ends_named s o y j).1 e f)

  meets : (e : Edge) → In e (inner s) → InEdge s.at e p → (y : Edge) → In y (inner s) → OnEdge s.at y p → (y ≡ e) ⊎ (y ≡ back e)
  meets e i h y j d = elim (inner_back s o e i) [ inl i' ↦ meets_inside e i i' h y j d | inr f ↦ meets_border e f h y j d ]

  -- ---- two cells

  -- an open edge that holds p, as an edge of a loop
  record Through (u v : ℕ) : Type 0 where
    line : Edge
    listing : In line (inner s)
    holding : InEdge s.at line p
    ends : Ends line u v

  through : (u v : ℕ) → Drawn s u v → Between (s.at u) (s.at v) p → Through u v
  through u v d h = elim d [ inl i ↦ go (listed_inner s o (edge u v) i) | inr i ↦ turn (listed_inner s o (edge v u) i) ]
    where
      go : In (edge u v) (inner s) ⊎ In (edge v u) (inner s) → Through u v
      go (inl j) = record { line = edge u v; listing = j; holding = h; ends = inl refl }
      go (inr j) = record { line = edge v u; listing = j; holding = between_back h; ends = inr refl }

      turn : In (edge v u) (inner s) ⊎ In (edge u v) (inner s) → Through u v
      turn (inl j) = go (inr j)
      turn (inr j) = go (inl j)

  in_listed : (e : Edge) → In e (inner s) → In e (listed s)
  in_listed e i = in_left e (inner s) outside i

  -- a vertex is on an edge of a loop
  record Started (v : ℕ) : Type 0 where
    line : Edge
    listing : In line (inner s)
    starting : At (s.at line.from) p

  started : (v : ℕ) → v < s.vertices → At (s.at v) p → Started v
  started v k a = let r = vertex_used s o v k in record { line = r.0; listing = r.1; starting = subst (λ (w : ℕ). At (s.at w) p) (sym r.2) a }

  no_vertex_edge : (v : ℕ) → Started v → (u w : ℕ) → Through u w → ⊥
  no_vertex_edge v a u w t = elim (meets t.line t.listing t.holding a.line a.listing (inl a.starting)) [
    | inl q ↦ start_not_between _ _ p (subst (λ (e : Edge). At (s.at e.from) p) q a.starting) t.holding
    | inr q ↦ start_not_between _ _ p (subst (λ (e : Edge). At (s.at e.from) p) q a.starting) (between_back t.holding)
  ]

  same_edge : (u v w x : ℕ) → u < v → w < x → Through u v → Through w x → open_edge w x ≡ open_edge u v
  same_edge u v w x h k a b =
      let r = same_ends b.line u v w x h k (across (meets a.line a.listing a.holding b.line b.listing (inr (inr b.holding)))) b.ends in
      ap₂ open_edge r.0 r.1
    where
      across : (b.line ≡ a.line) ⊎ (b.line ≡ back a.line) → Ends b.line u v
      across (inl q) = subst (λ (e : Edge). Ends e u v) (sym q) a.ends
      across (inr q) = subst (λ (e : Edge). Ends e u v) (sym q) (ends_back a.line u v a.ends)

  loop_there : (l : ℕ) → crossing_sum s.at (loop_of s l) p ≡ pos 1 → l < length s.loops
  loop_there l h = elim (cases_lt l (length s.loops)) [
    | inl k ↦ k
    | inr k ↦ absurd (none (sym (ap (λ (c : List ℕ). crossing_sum s.at c p) (past_none [] s.loops l k)) ∙ h))
  ]
    where
      none : pos 0 ≡ pos 1 → ⊥
      none e = omega lin

  vertex_and_edge : (u v w : ℕ) → cell_holds s (vertex u) p ≡ true → cell_holds s (open_edge v w) p ≡ true → ⊥
  vertex_and_edge u v w h k =
      let a = held_vertex s p u h in
      let b = held_edge s p v w k in
      no_vertex_edge u (started u a.0 a.1) v w (through v w b.1 b.2)

  vertex_and_face : (u l : ℕ) → cell_holds s (vertex u) p ≡ true → cell_holds s (face l) p ≡ true → ⊥
  vertex_and_face u l h k =
      let a = held_vertex s p u h in
      let t = started u a.0 a.1 in
      (held_face s p l k).1 t.line (in_listed t.line t.listing) (inl t.starting)

  edge_and_face : (u v l : ℕ) → cell_holds s (open_edge u v) p ≡ true → cell_holds s (face l) p ≡ true → ⊥
  edge_and_face u v l h k =
      let b = held_edge s p u v h in
      let t = through u v b.1 b.2 in
      (held_face s p l k).1 t.line (in_listed t.line t.listing) (inr (inr t.holding))

  pub one_at_most : (c d : Cell) → cell_holds s c p ≡ true → cell_holds s d p ≡ true → d ≡ c
  one_at_most (vertex u) (vertex v) h k =
      let a = held_vertex s p u h in
      let b = held_vertex s p v k in
      ap vertex (o.apart v u b.0 a.0 (same_point (s.at v) (s.at u) p z b.1 a.1))
  one_at_most (vertex u) (open_edge v w) h k = absurd (vertex_and_edge u v w h k)
  one_at_most (vertex u) (face l) h k = absurd (vertex_and_face u l h k)
  one_at_most (open_edge u v) (vertex w) h k = absurd (vertex_and_edge w u v k h)
  one_at_most (open_edge u v) (open_edge w x) h k =
      let a = held_edge s p u v h in
      let b = held_edge s p w x k in
      same_edge u v w x a.0 b.0 (through u v a.1 a.2) (through w x b.1 b.2)
  one_at_most (open_edge u v) (face l) h k = absurd (edge_and_face u v l h k)
  one_at_most (face l) (vertex u) h k = absurd (vertex_and_face u l k h)
  one_at_most (face l) (open_edge u v) h k = absurd (edge_and_face u v l k h)
  one_at_most (face l) (face m) h k =
      let a = (held_face s p l h).0 in
      let b = (held_face s p m k).0 in
      ap face (one_loop s triangles o g p z m l (loop_there m b) (loop_there l a) b a)
