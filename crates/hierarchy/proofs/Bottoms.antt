-- The nodes of a sheet's loops: each is a triangle of the cut of its loop, and together they have the sum of the border.
use Rattle.std.proofs.Common.{◌≡◌, ℕ, suc, ◌+◌, ◌<◌, List, [], ◌∷◌, ◌++◌, length, map, get_or, ℤ, ◌+ℤ◌, Some, None, Option, Ok, Err, Result, sym, refl, ap, ◌∙◌, subst, inl, inr, arith}
use Rattle.std.specs.List.{flat_map, range_with_len}
use Rattle.std.proofs.lemmas.List.{length-map}
use Rattle.plane.specs.declared.Edge.{Edge}
use Rattle.plane.specs.Edges.{In, edge, outside, ring_edges, sum_of}
use Rattle.plane.specs.Points.{GridPoint, place_of}
use Rattle.plane.proofs.Signs.{lin}
use Rattle.tiling.specs.Lemmas.{Odd}
use Rattle.tiling.specs.Order.{InOrder, Triangulated, loop_of}
use Rattle.tiling.specs.Triangles.{Leftward, Triangle, around, corners}
use Rattle.tiling.proofs.Borders.{frame}
use Rattle.tiling.proofs.Cuts.{cut_sum}
use Rattle.tiling.proofs.Lists.{in_split, sum-++}
use Rattle.tiling.proofs.Pairs.{paired_sum}
use Rattle.tiling.proofs.Sheets.{in_get_or}
use Rattle.ears.specs.Cutting.{CutInto}
use Rattle.ears.specs.Ears.{cut_of}
use Rattle.ears.proofs.Rotations.{cut_is_cut}
use Rattle.nodes.specs.declared.node.Node.{Node}
use Rattle.nodes.specs.Nodes.{blank}
use Rattle.sheet.specs.Sheets.{Ring, Sheet, edges_of, points_of}
use Rattle.rules.specs.Planes.{plane_of}
use Rattle.bottom.specs.Bottom.{bottom_node, bottom_of, cut_loops, cut_next}
use Rattle.hierarchy.specs.Layers.{or_none, shape, triangle_of, triangles_of_loop}
use Rattle.hierarchy.proofs.Holes.{corner_within}
use Rattle.hierarchy.proofs.Elements.{map_in, sum_map, sum_range}

next_ok : (l : ℕ) (g : List Triangle → List Node) (o : Option (List Triangle)) (others : Result (List Node) ℕ) (ns : List Node) → cut_next l g o others ≡ Ok ns
    → (ts : List Triangle) × (ms : List Node) × (o ≡ Some ts) × (others ≡ Ok ms) × (g ts ++ ms ≡ ns)
next_ok l g None others ns e = cc
next_ok l g (Some ts) (Ok ms) ns e = (ts, ms, refl, refl, cc)
next_ok l g (Some ts) (Err k) ns e = cc

abbrev corners_of_rings : List Ring → List (List ℕ)
corners_of_rings rs = map (λ (r : Ring). r.corners) rs

module _ (at : ℕ → GridPoint) (es : List Edge) where
  -- every loop is cut
  loops_cut : (rs : List Ring) (l : ℕ) (ns : List Node) → cut_loops at es l rs ≡ Ok ns → (r : Ring) → In r rs → (ts : List Triangle) × (cut_of at r.corners ≡ Some ts)
  unfolding cut_loops
  loops_cut [] l ns e r i = absurd i
  loops_cut (q ∷ rs) l ns e r (inl h) = let n = next_ok l _ (cut_of at q.corners) _ ns e in (n.0, ap (λ (x : Ring). cut_of at x.corners) h ∙ n.2)
  loops_cut (q ∷ rs) l ns e r (inr i) = let n = next_ok l _ (cut_of at q.corners) _ ns e in loops_cut rs (l + 1) n.1 n.3 r i

  -- a node is of a triangle of the cut of its loop
  record FromLoop (rs : List Ring) (l : ℕ) (n : Node) : Type 0 where
    place : ℕ
    below : place < length rs
    t : Triangle
    cut : In t (or_none (cut_of at (get_or (corners_of_rings rs) place [])))
    is : n ≡ bottom_node es (l + place) t

  from_loop : (rs : List Ring) (l : ℕ) (ns : List Node) → cut_loops at es l rs ≡ Ok ns → (n : Node) → In n ns → FromLoop rs l n
  unfolding cut_loops
  from_loop [] l ns e n i = absurd (subst (In n) (sym nothing) i)
    where
      nothing : [] ≡ ns
      nothing = cc
  from_loop (q ∷ rs) l ns e n i =
      let x = next_ok l _ (cut_of at q.corners) _ ns e in
      elim (in_split n (map (bottom_node es l) x.0) x.1 (subst (In n) (sym x.4) i)) [
        | inl j ↦ let t = map_in (bottom_node es l) n x.0 j in
            record {
              place = 0;
              below = omega arith;
              t = t.0;
              cut = subst (λ o. In t.0 (or_none o)) (sym x.2) t.1;
              is = sym t.2 ∙ ap (λ m. bottom_node es m t.0) (omega arith);
            }
        | inr j ↦ let h = from_loop rs (l + 1) x.1 x.3 n j in
            record { place = suc h.place; below = (let b = h.below in omega arith); t = h.t; cut = h.cut; is = h.is ∙ ap (λ m. bottom_node es m h.t) (omega arith) }
      ]

  loops_sum : (f : Edge → ℤ) → Odd f → (rs : List Ring) (l : ℕ) (ns : List Node) → cut_loops at es l rs ≡ Ok ns
      → sum_of (λ n. around f (shape n)) ns ≡ sum_of f (flat_map (λ (r : Ring). ring_edges r.corners) rs)
  unfolding cut_loops
  loops_sum f odd [] l ns e = ap (sum_of (λ n. around f (shape n))) nothing
    where
      nothing : ns ≡ []
      nothing = cc
  loops_sum f odd (q ∷ rs) l ns e =
      let x = next_ok l _ (cut_of at q.corners) _ ns e in
      let a = sum-++ (λ n. around f (shape n)) (map (bottom_node es l) x.0) x.1 in
      let b = sum_map (λ n. around f (shape n)) (bottom_node es l) x.0 in
      let c = cut_sum f odd q.corners x.0 (cut_is_cut at q.corners x.0 x.2).cut in
      let d = loops_sum f odd rs (l + 1) x.1 x.3 in
      let g = sum-++ f (ring_edges q.corners) (flat_map (λ (r : Ring). ring_edges r.corners) rs) in
      ap (sum_of (λ n. around f (shape n))) (sym x.4) ∙ a ∙ ap (λ (u : ℤ). u +ℤ sum_of (λ n. around f (shape n)) x.1) (b ∙ sym c)
      ∙ ap (λ (u : ℤ). sum_of f (ring_edges q.corners) +ℤ u) d ∙ sym g

flat_mapped : (rs : List Ring) → flat_map ring_edges (corners_of_rings rs) ≡ flat_map (λ (r : Ring). ring_edges r.corners) rs
flat_mapped [] = refl
flat_mapped (r ∷ rs) = ap (λ l. ring_edges r.corners ++ l) (flat_mapped rs)

module _ (s : Sheet) (ns : List Node) (e : bottom_of s ≡ Ok ns) where
  abbrev at : ℕ → GridPoint
  at = place_of (points_of s)

  looped : cut_loops (place_of (points_of s)) (edges_of s) 0 s.rings ≡ Ok ns
  unfolding bottom_of
  looped = e

  loop_cut : (l : ℕ) → l < length (corners_of_rings s.rings) → (ts : List Triangle) × (cut_of at (loop_of (plane_of s) l) ≡ Some ts)
  loop_cut l h =
      let r = map_in (λ (r : Ring). r.corners) (loop_of (plane_of s) l) s.rings (in_get_or [] (corners_of_rings s.rings) l h) in
      let c = loops_cut at (edges_of s) s.rings 0 ns looped r.0 r.1 in
      (c.0, ap (cut_of at) (sym r.2) ∙ c.1)

  loop_into : (l : ℕ) → l < length (corners_of_rings s.rings) → CutInto at (loop_of (plane_of s) l) (triangles_of_loop s l)
  loop_into l h =
      let c = loop_cut l h in
      subst (CutInto at (loop_of (plane_of s) l)) (sym (ap or_none c.1)) (cut_is_cut at (loop_of (plane_of s) l) c.0 c.1)

  pub triangulated : Triangulated (plane_of s) (triangles_of_loop s)
  triangulated = record { cut = λ l h. (loop_into l h).cut; leftward = λ l h. (loop_into l h).leftward }

  -- a node of the bottom
  pub record FromBottom (n : Node) : Type 0 where
    pub below : n.ring < length s.rings
    pub cut : In (shape n) (triangles_of_loop s n.ring)
    pub is : n ≡ bottom_node (edges_of s) n.ring (shape n)

  pub from_bottom : (n : Node) → In n ns → FromBottom n
  from_bottom n i =
      let h = from_loop at (edges_of s) s.rings 0 ns looped n i in
      subst FromBottom (sym (h.is ∙ ap (λ m. bottom_node (edges_of s) m h.t) (omega arith)))
      (record { below = h.below; cut = h.cut; is = refl })

  pub bottom_leftward : (n : Node) → In n ns → Leftward at (shape n)
  bottom_leftward n i =
      let h = from_bottom n i in
      (loop_into n.ring (let b = h.below in omega (arith, length-map s.rings (λ (r : Ring). r.corners)))).leftward (shape n) h.cut

  -- its corners are vertices
  pub bottom_named : InOrder (plane_of s) → (n : Node) → In n ns → (u : ℕ) → In u (corners (shape n)) → u < length s.inner + 4
  bottom_named o n i u j =
      let h = from_bottom n i in
      let l : n.ring < length (corners_of_rings s.rings) = (let b = h.below in omega (arith, length-map s.rings (λ (r : Ring). r.corners))) in
      o.named (loop_of (plane_of s) n.ring) (in_get_or [] (corners_of_rings s.rings) n.ring l) u
      (corner_within u (shape n) (loop_of (plane_of s) n.ring) ((loop_into n.ring l).within (shape n) h.cut) j)

  -- all edges but the border's cancel
  pub bottom_sum : InOrder (plane_of s) → (f : Edge → ℤ) → Odd f → sum_of (λ n. around f (shape n)) ns ≡ sum_of f frame
  bottom_sum o f odd =
      let a = loops_sum at (edges_of s) f odd s.rings 0 ns looped in
      let b = paired_sum f odd (flat_map ring_edges (corners_of_rings s.rings) ++ outside) o.once o.paired in
      let c = sum-++ f (flat_map ring_edges (corners_of_rings s.rings)) outside in
      let d = ap (sum_of f) (flat_mapped s.rings) in
      let e₀ = odd (edge 0 1) in
      let e₁ = odd (edge 1 2) in
      let e₂ = odd (edge 2 3) in
      let e₃ = odd (edge 3 0) in
      omega lin

  pub live_sum : InOrder (plane_of s) → (f : Edge → ℤ) → Odd f → sum_of (λ k. around f (triangle_of ns k)) (range_with_len 0 (length ns)) ≡ sum_of f frame
  live_sum o f odd =
      sum_range (λ k. around f (triangle_of ns k)) (λ n. around f (shape n)) blank ns 0 (λ i l. ap (λ k. around f (triangle_of ns k)) (omega arith))
      ∙ bottom_sum o f odd
