-- Vertices and edges of a sheet that keeps the rules lie apart.
use Rattle.std.proofs.Common.{◌≡◌, ℕ, ◌+◌, ◌<◌, ◌⊎◌, length, None, pos, ◌<ℤ◌, refl, sym, ap, ◌∙◌, subst, inl, inr}
use Rattle.plane.specs.declared.Edge.{Edge}
use Rattle.plane.specs.Edges.{In, back, outside}
use Rattle.plane.specs.Points.{GridPoint, Spot, place_of, spot_at}
use Rattle.clash.specs.Clashes.{IsFree, first_clash_in}
use Rattle.clash.proofs.Firsts.{IsFree-from_None}
use Rattle.sheet.specs.Legal.{LegalSheet}
use Rattle.sheet.specs.Sheets.{Sheet, edges_of, points_of}
use Rattle.tiling.specs.Order.{InOrder}
use Rattle.tiling.proofs.Holding.{between_true}
use Rattle.tiling.proofs.Lists.{in_left}
use Rattle.tiling.proofs.Segments.{Between, between_back}
use Rattle.tiling.proofs.Sheets.{ends_named, inner, listed_inner, vertex_used}
use Rattle.rules.specs.Apart.{CheckedLiesApart, inside_edge}
use Rattle.rules.specs.Planes.{plane_of}
use Rattle.rules.specs.Rules.{drawn_edges, first_broken, touch}
use Rattle.rules.proofs.Drawn.{has_drawn, two_free}
use Rattle.rules.proofs.Nothing.{kept, nothing_made}
use Rattle.rules.proofs.Orders.{checked_is_in_order, listed_edges}
use Rattle.rules.proofs.Parting.{PartedEdges, not_start, parted}
use Rattle.rules.proofs.Sharing.{same_ends}

-- one segment, in one direction or the other
Same : Edge → Edge → Type 0
Same e f = (e ≡ f) ⊎ (e ≡ back f)

same_swap : (e f : Edge) → Same e f → Same f e
unfolding Same
same_swap e f (inl q) = inl (sym q)
same_swap e f (inr q) = inr (sym (ap back q))

same_join : (e f g : Edge) → Same e f → Same f g → Same e g
unfolding Same
same_join e f g (inl q) (inl r) = inl (q ∙ r)
same_join e f g (inl q) (inr r) = inr (q ∙ r)
same_join e f g (inr q) (inl r) = inr (q ∙ ap back r)
same_join e f g (inr q) (inr r) = inl (q ∙ ap back r)

edge_is : (e f : Edge) → e.from ≡ f.from → e.to ≡ f.to → e ≡ f
edge_is e f p q = λ i. record { from = p i; to = q i }

-- p is inside the edge
abbrev InsideOf : (ℕ → GridPoint) → Edge → Spot → Type 0
InsideOf at e p = Between (at e.from) (at e.to) p

inside_same : (at : ℕ → GridPoint) (x e : Edge) (p : Spot) → Same x e → InsideOf at e p → InsideOf at x p
unfolding Same
inside_same at x e p (inl q) h = subst (λ y. InsideOf at y p) (sym q) h
inside_same at x e p (inr q) h = subst (λ y. InsideOf at y p) (sym q) (between_back h)

-- an end of the edge
End : Edge → ℕ → Type 0
End e v = (e.from ≡ v) ⊎ (e.to ≡ v)

end_same : (x e : Edge) (v : ℕ) → Same x e → e.from ≡ v → End x v
unfolding Same End
end_same x e v (inl q) h = inl (ap (λ (y : Edge). y.from) q ∙ h)
end_same x e v (inr q) h = inr (ap (λ (y : Edge). y.to) q ∙ h)

module _ (at : ℕ → GridPoint) (x : Edge) (v : ℕ) where
  -- an end is not inside
  not_end : End x v → ¬ (InsideOf at x (spot_at (at v)))
  unfolding End
  not_end (inl q) h = not_start (at x.from) (at x.to) (subst (λ u. InsideOf at x (spot_at (at u))) (sym q) h)
  not_end (inr q) h = not_start (at x.to) (at x.from) (between_back (subst (λ u. InsideOf at x (spot_at (at u))) (sym q) h))

  -- nor inside an edge that is parted from it
  not_first : (y : Edge) → PartedEdges at y x → End x v → ¬ (InsideOf at y (spot_at (at v)))
  unfolding End
  not_first y o (inl q) h = o.no-c (subst (λ u. InsideOf at y (spot_at (at u))) (sym q) h)
  not_first y o (inr q) h = o.no-d (subst (λ u. InsideOf at y (spot_at (at u))) (sym q) h)

  not_second : (y : Edge) → PartedEdges at x y → End x v → ¬ (InsideOf at y (spot_at (at v)))
  unfolding End
  not_second y o (inl q) h = o.no-a (subst (λ u. InsideOf at y (spot_at (at u))) (sym q) h)
  not_second y o (inr q) h = o.no-b (subst (λ u. InsideOf at y (spot_at (at u))) (sym q) h)

module _ (s : Sheet) (legal : LegalSheet s) (none : first_broken s ≡ None) where
  order : InOrder (plane_of s)
  order = checked_is_in_order s legal none

  abbrev at : ℕ → GridPoint
  at = place_of (points_of s)

  free : IsFree (touch at) (drawn_edges s)
  free = IsFree-from_None (touch at) (drawn_edges s) (nothing_made _ (first_clash_in (touch at) (drawn_edges s)) (kept s none).strokes)

  one_or_parted : (x y : Edge) → In x (drawn_edges s) → In y (drawn_edges s) → (x ≡ y) ⊎ (PartedEdges at x y ⊎ PartedEdges at y x)
  one_or_parted x y i j = elim (two_free (touch at) (drawn_edges s) free x y i j) [ inl q ↦ inl q | inr (inl h) ↦ inr (inl (parted at x y h)) | inr (inr h) ↦ inr (inr (parted at y x h)) ]

  -- a listed edge as it is drawn
  stroke : (e : Edge) → In e (edges_of s) → (x : Edge) × In x (drawn_edges s) × Same x e
  unfolding Same
  stroke e i = elim (has_drawn s e i) [ inl j ↦ (e, j, inl refl) | inr j ↦ (back e, j, inr refl) ]

  -- ---- vertices

  ends : (v : ℕ) → v < length s.inner + 4 → (e : Edge) × In e (edges_of s) × (e.from ≡ v)
  ends v h = let r = vertex_used (plane_of s) order v h in (r.0, subst (In r.0) (sym (listed_edges s)) (in_left r.0 (inner (plane_of s)) outside r.1), r.2)

  Named : Edge → Type 0
  Named e = (e.from < length s.inner + 4) × (e.to < length s.inner + 4)

  named : (e : Edge) → In e (edges_of s) → Named e
  unfolding Named
  named e i = elim (listed_inner (plane_of s) order e (subst (In e) (listed_edges s) i)) [
    | inl j ↦ ends_named (plane_of s) order e j
    | inr j ↦ let r = ends_named (plane_of s) order (back e) j in (r.1, r.0)
  ]

  named_same : (x e : Edge) → Same x e → Named e → Named x
  unfolding Named Same
  named_same x e (inl q) h = subst Named (sym q) h
  named_same x e (inr q) h = subst Named (sym q) (h.1, h.0)

  no_vertex : (e : Edge) → In e (edges_of s) → (v : ℕ) → v < length s.inner + 4 → inside_edge s e (spot_at (at v)) → ⊥
  no_vertex e i v h k =
      let f = ends v h in
      let x = stroke e i in
      let y = stroke f.0 f.1 in
      let v-ends : End y.0 v = end_same y.0 f.0 v y.2 f.2 in
      let inside : InsideOf at x.0 (spot_at (at v)) = inside_same at x.0 e (spot_at (at v)) x.2 (between_true _ _ _ k) in
      elim (one_or_parted x.0 y.0 x.1 y.1) [
        | inl q ↦ not_end at y.0 v v-ends (subst (λ u. InsideOf at u (spot_at (at v))) q inside)
        | inr (inl o) ↦ not_first at y.0 v x.0 o v-ends inside
        | inr (inr o) ↦ not_second at y.0 v x.0 o v-ends inside
      ]

  -- ---- points inside two edges

  module _ (p : Spot) (z : pos 0 <ℤ p.Z) where
    parted_one : (x y : Edge) → Named x → Named y → InsideOf at x p → InsideOf at y p → PartedEdges at x y → Same y x
    unfolding Named Same
    parted_one x y n m h k o = elim (same_ends (at x.from) (at x.to) (at y.from) (at y.to) p z h k o) [
      | inl q ↦ inl (edge_is y x (order.apart y.from x.from m.0 n.0 q.0) (order.apart y.to x.to m.1 n.1 q.1))
      | inr q ↦ inr (edge_is y (back x) (order.apart y.from x.to m.0 n.1 q.0) (order.apart y.to x.from m.1 n.0 q.1))
    ]

    drawn_one : (x y : Edge) → In x (drawn_edges s) → In y (drawn_edges s) → Named x → Named y → InsideOf at x p → InsideOf at y p → Same x y
    unfolding Same
    drawn_one x y i j n m h k = elim (one_or_parted x y i j) [
      | inl q ↦ inl q
      | inr (inl o) ↦ same_swap y x (parted_one x y n m h k o)
      | inr (inr o) ↦ parted_one y x m n k h o
    ]

    no_two : (e f : Edge) → In e (edges_of s) → In f (edges_of s) → inside_edge s e p → inside_edge s f p → (e ≡ f) ⊎ (e ≡ back f)
    unfolding Same
    no_two e f i j h k =
        let x = stroke e i in
        let y = stroke f j in
        same_join e y.0 f
        (same_join e x.0 y.0 (same_swap x.0 e x.2)
        (drawn_one x.0 y.0 x.1 y.1 (named_same x.0 e x.2 (named e i)) (named_same y.0 f y.2 (named f j))
        (inside_same at x.0 e p x.2 (between_true _ _ _ h)) (inside_same at y.0 f p y.2 (between_true _ _ _ k)))) y.2

pub checked_lies_apart : CheckedLiesApart
checked_lies_apart s legal none = record { ends = ends s legal none; no_vertex = no_vertex s legal none; no_two = λ e f i j p z. no_two s legal none p z e f i j }
