-- The fan of a chosen vertex and the nodes that close its hole: they cover the same, and have the same sums.
use Rattle.std.proofs.Common.{◌≡◌, ℕ, ◌<◌, Bool, true, false, List, length, ℤ, pos, ◌<ℤ◌, Some, is_some, sym, ap, ◌∙◌, subst, inl, inr}
use Rattle.std.specs.List.Sorted.{IsPermutation}
use Rattle.std.proofs.lemmas.List.Sorted.{IsPermutation-sym}
use Rattle.plane.specs.declared.Edge.{Edge}
use Rattle.plane.specs.Edges.{In, ring_edges, sum_of}
use Rattle.plane.specs.Points.{GridPoint, Spot}
use Rattle.plane.proofs.Signs.{lin}
use Rattle.tiling.specs.Lemmas.{Odd}
use Rattle.tiling.specs.Triangles.{AllLeftward, Leftward, Triangle, around, closed_holds, corners, fan, triangle}
use Rattle.tiling.proofs.Cuts.{cut_sum}
use Rattle.tiling.proofs.Fans.{fan_sum}
use Rattle.tiling.proofs.Holding.{closed_true, true_closed}
use Rattle.tiling.proofs.Lists.{in_map}
use Rattle.tiling.proofs.Rings.{ring_ends}
use Rattle.tiling.proofs.Segments.{area_back}
use Rattle.tiling.proofs.Theorems.{fan_covers}
use Rattle.tiling.proofs.Turning.{Same}
use Rattle.ears.specs.Cutting.{CutInto}
use Rattle.ears.proofs.Rotations.{cut_is_cut}
use Rattle.nodes.specs.declared.node.Node.{Node}
use Rattle.fans.specs.declared.around.Turned.{Turned}
use Rattle.fans.specs.Around.{around as entries_around, live_around, nodes_of, turned_at}
use Rattle.fans.specs.Fans.{ring_of, triangles_of}
use Rattle.fans.proofs.Fans.{fan_closes}
use Rattle.fans.proofs.Tallies.{around_tells}
use Rattle.fans.proofs.Whole.{whole_fan_has_all, whole_fan_has_live}
use Rattle.rounds.specs.Choices.{closing, hole_node, is_marked}
use Rattle.hierarchy.specs.Layers.{shape, triangle_of}
use Rattle.hierarchy.proofs.Corners.{turned_below, turned_corner, turned_next, turned_same}
use Rattle.hierarchy.proofs.Elements.{all_at, filter_in, in_filter, in_permuted, map_in, sum_filter, sum_map, sum_permuted, sum_same, where_true}
use Rattle.hierarchy.proofs.Looks.{Choice, closes}

pub corner_within : (u : ℕ) (t : Triangle) (cs : List ℕ) → In t.a cs × In t.b cs × In t.c cs → In u (corners t) → In u cs
corner_within u t cs h (inl e) = subst (λ w. In w cs) (sym e) h.0
corner_within u t cs h (inr (inl e)) = subst (λ w. In w cs) (sym e) h.1
corner_within u t cs h (inr (inr (inl e))) = subst (λ w. In w cs) (sym e) h.2
corner_within u t cs h (inr (inr (inr z))) = absurd z

module _ (at : ℕ → GridPoint) (nodes : List Node) (live : List ℕ) (marks : List Bool) (v : ℕ) (c : Choice at nodes live marks v) where
  -- the nodes of the fan are the live nodes with corner v
  abbrev all_live : IsPermutation (live_around nodes live v) (nodes_of c.es)
  all_live = whole_fan_has_live nodes live v c.es c.fan c.whole

  pub fan_live : (k : ℕ) → In k (nodes_of c.es) → In k live × (is_some (turned_at nodes v k) ≡ true)
  fan_live k i = in_filter (λ k. is_some (turned_at nodes v k)) k live (in_permuted k _ _ (IsPermutation-sym _ _ all_live) i)

  live_fan : (k : ℕ) → In k live → is_some (turned_at nodes v k) ≡ true → In k (nodes_of c.es)
  live_fan k i t = in_permuted k _ _ all_live (filter_in (λ k. is_some (turned_at nodes v k)) k live i t)

  entry_turns : (t : Turned) → In t c.es → turned_at nodes v t.node ≡ Some t
  entry_turns t i =
      all_at (λ (t : Turned). turned_at nodes v t.node ≡ Some t) (entries_around nodes live v) (around_tells nodes live v).1 t
      (in_permuted t _ _ (IsPermutation-sym _ _ (whole_fan_has_all (entries_around nodes live v) c.es c.fan c.whole)) i)

  entry_same : (t : Turned) → In t c.es → Same at (triangle_of nodes t.node) (triangle v t.next t.last)
  entry_same t i = turned_same nodes v t.node t (entry_turns t i) at

  -- its triangles are those of the ring
  closed_ring : triangles_of v c.es ≡ fan v (ring_of c.es)
  closed_ring = fan_closes v (entries_around nodes live v) c.es c.fan

  last_noted : (t : Turned) → In t c.es → In t.last (ring_of c.es)
  last_noted t i =
      let j = subst (In (triangle v t.next t.last)) closed_ring (in_map (λ (t : Turned). triangle v t.next t.last) t c.es i) in
      let e = map_in (λ (e : Edge). triangle v e.from e.to) (triangle v t.next t.last) (ring_edges (ring_of c.es)) j in
      subst (λ u. In u (ring_of c.es)) (ap (λ (x : Triangle). x.c) e.2) (ring_ends e.0 (ring_of c.es) e.1).1

  -- every other corner of a live node with corner v is noted
  pub noted : (k : ℕ) → In k live → is_some (turned_at nodes v k) ≡ true → (u : ℕ) → In u (corners (triangle_of nodes k)) → (u ≡ v → ⊥) → In u (ring_of c.es)
  noted k i h u j other =
      let r = map_in (λ (t : Turned). t.node) k c.es (live_fan k i h) in
      let t = r.0 in
      elim (turned_corner nodes v t.node t (entry_turns t r.1) u (subst (λ k. In u (corners (triangle_of nodes k))) (sym r.2) j)) [
        | inl e ↦ absurd (other e)
        | inr (inl e) ↦ subst (λ u. In u (ring_of c.es)) (sym e) (in_map (λ (t : Turned). t.next) t c.es r.1)
        | inr (inr e) ↦ subst (λ u. In u (ring_of c.es)) (sym e) (last_noted t r.1)
      ]

  -- so none of them is marked before v is
  pub none_before : (k : ℕ) → In k live → is_some (turned_at nodes v k) ≡ true → (u : ℕ) → In u (corners (triangle_of nodes k)) → u < v → (u ≡ v → ⊥)
      → is_marked marks u ≡ false
  none_before k i h u j l other = c.clear u (noted k i h u j other) l

  -- a noted corner is one of a live node with corner v
  pub noted_corner : (u : ℕ) → In u (ring_of c.es) → (k : ℕ) × In k live × (is_some (turned_at nodes v k) ≡ true) × In u (corners (triangle_of nodes k))
  noted_corner u i =
      let r = map_in (λ (t : Turned). t.next) u c.es i in
      let k = r.0.node in
      let l = fan_live k (in_map (λ (t : Turned). t.node) r.0 c.es r.1) in
      (k, l.0, l.1, subst (λ u. In u (corners (triangle_of nodes k))) r.2 (turned_next nodes v k r.0 (entry_turns r.0 r.1)))

  -- ---- the nodes that close the hole

  abbrev cut_into : CutInto at (ring_of c.es) c.ts
  cut_into = cut_is_cut at (ring_of c.es) c.ts c.cut

  -- each is of a triangle of the cut, and has the fan's nodes as children
  pub closing_node : (n : Node) → In n (closing at nodes live v) → (t : Triangle) × In t c.ts × (hole_node at nodes live (nodes_of c.es) t ≡ n)
  closing_node n i = map_in (hole_node at nodes live (nodes_of c.es)) n c.ts (subst (In n) (closes at nodes live marks v c) i)

  pub closing_leftward : (n : Node) → In n (closing at nodes live v) → Leftward at (shape n)
  closing_leftward n i = let r = closing_node n i in subst (λ n. Leftward at (shape n)) r.2 (cut_into.leftward r.0 r.1)

  -- its corners are noted ones
  pub closing_corner : (n : Node) → In n (closing at nodes live v) → (u : ℕ) → In u (corners (shape n)) → In u (ring_of c.es)
  closing_corner n i u j =
      let r = closing_node n i in
      corner_within u r.0 (ring_of c.es) (cut_into.within r.0 r.1) (subst (λ n. In u (corners (shape n))) (sym r.2) j)

  module _ (good : (k : ℕ) → k < length nodes → Leftward at (triangle_of nodes k)) where
    entry_leftward : (t : Turned) → In t c.es → Leftward at (triangle v t.next t.last)
    entry_leftward t i = subst (λ (u : ℤ). pos 0 <ℤ u) (entry_same t i).area_is (good t.node (turned_below nodes v t.node t (entry_turns t i)))

    fan_leftward : AllLeftward at (fan v (ring_of c.es))
    fan_leftward x i =
        let r = map_in (λ (t : Turned). triangle v t.next t.last) x c.es (subst (In x) (sym closed_ring) i) in
        subst (Leftward at) r.2 (entry_leftward r.0 r.1)

    -- v itself is no noted corner, since its triangle would have no area
    pub not_noted : In v (ring_of c.es) → ⊥
    not_noted i =
        let r = map_in (λ (t : Turned). t.next) v c.es i in
        let a = area_back (at v) (at v) (at r.0.last) in
        let b : Leftward at (triangle v v r.0.last) = subst (λ u. Leftward at (triangle v u r.0.last)) r.2 (entry_leftward r.0 r.1) in
        omega lin

    -- what a triangle of the fan holds, its node holds
    entry_holds : (t : Turned) → In t c.es → (x : Triangle) → triangle v t.next t.last ≡ x → (p : Spot) → closed_holds at x p ≡ true
        → closed_holds at (triangle_of nodes t.node) p ≡ true
    entry_holds t i x e p h =
        let l = closed_true at (triangle v t.next t.last) p (subst (λ x. closed_holds at x p ≡ true) (sym e) h) in
        true_closed at (triangle_of nodes t.node) p (λ e j. l e ((entry_same t i).sides_to e j))

    -- what one of them holds, a node of the fan holds
    pub closing_covered : (n : Node) → In n (closing at nodes live v) → (p : Spot) → pos 0 <ℤ p.Z → closed_holds at (shape n) p ≡ true
        → (k : ℕ) × In k (nodes_of c.es) × (closed_holds at (triangle_of nodes k) p ≡ true)
    closing_covered n i p z h =
        let r = closing_node n i in
        let x = fan_covers at v (ring_of c.es) c.ts cut_into.cut fan_leftward cut_into.leftward r.0 r.1 p z (subst (λ n. closed_holds at (shape n) p ≡ true) (sym r.2) h) in
        let q = map_in (λ (t : Turned). triangle v t.next t.last) x.0 c.es (subst (In x.0) (sym closed_ring) x.1) in
        let t = q.0 in
        (t.node, in_map (λ (t : Turned). t.node) t c.es q.1, entry_holds t q.1 x.0 q.2 p x.2)

  -- they have the sum of the live nodes with corner v
  pub closing_sum : (f : Edge → ℤ) → Odd f
      → sum_of (λ n. around f (shape n)) (closing at nodes live v)
      ≡ sum_of (where_true (λ k. is_some (turned_at nodes v k)) (λ k. around f (triangle_of nodes k))) live
  closing_sum f odd =
      ap (sum_of (λ n. around f (shape n))) (closes at nodes live marks v c)
      ∙ sum_map (λ n. around f (shape n)) (hole_node at nodes live (nodes_of c.es)) c.ts
      ∙ sym (cut_sum f odd (ring_of c.es) c.ts cut_into.cut)
      ∙ sym (fan_sum f odd v (ring_of c.es))
      ∙ ap (sum_of (around f)) (sym closed_ring)
      ∙ sum_map (around f) (λ (t : Turned). triangle v t.next t.last) c.es
      ∙ sum_same (λ (t : Turned). around f (triangle v t.next t.last)) (λ (t : Turned). around f (triangle_of nodes t.node)) c.es
      (λ t i. sym ((entry_same t i).around_is f))
      ∙ sym (sum_map (λ k. around f (triangle_of nodes k)) (λ (t : Turned). t.node) c.es)
      ∙ sym (sum_permuted (λ k. around f (triangle_of nodes k)) (live_around nodes live v) (nodes_of c.es) all_live)
      ∙ sum_filter (λ k. around f (triangle_of nodes k)) (λ k. is_some (turned_at nodes v k)) live
