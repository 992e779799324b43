-- The theorems, from what every round keeps.
use Rattle.std.proofs.Common.{◌≡◌, ℕ, zero, suc, ◌+◌, ◌<◌, ◌≤◌, true, List, [], ◌∷◌, length, map, get_or, replicate, ℤ, pos, ◌*ℤ◌, ◌<ℤ◌, Ok, sym, refl, ap, ◌∙◌, subst, inl, inr, arith}
use Rattle.std.specs.List.{range_with_len}
use Rattle.std.proofs.lemmas.Bool.{cases_lt}
use Rattle.std.proofs.lemmas.List.{length-replicate}
use Rattle.plane.specs.Crossings.{crossing_sum, edge_crossing}
use Rattle.plane.specs.Edges.{In, sum_of}
use Rattle.plane.specs.Points.{GridPoint, Spot, is_on_sheet, place_of}
use Rattle.plane.proofs.Signs.{lin}
use Rattle.tiling.specs.Order.{InOrder}
use Rattle.tiling.specs.Triangles.{AllLeftward, Leftward, Triangle, closed_holds, turns}
use Rattle.tiling.proofs.Borders.{Within, frame, frame_left, frame_low, left_frame}
use Rattle.tiling.proofs.Covering.{covers, crossing_odd}
use Rattle.tiling.proofs.Holding.{sheet_true, true_closed}
use Rattle.tiling.proofs.Rectangles.{rectangle_counts}
use Rattle.tiling.proofs.Sheets.{in_get_or}
use Rattle.nodes.specs.declared.node.Node.{Node}
use Rattle.nodes.specs.Nodes.{blank}
use Rattle.sheet.specs.Sheets.{Sheet, points_of}
use Rattle.rules.specs.Planes.{plane_of}
use Rattle.rules.proofs.Orders.{checked_is_in_order}
use Rattle.bottom.specs.Bottom.{bottom_of}
use Rattle.hierarchy.specs.Layers.{Layers, bottom, node_at, round, triangle_of}
use Rattle.hierarchy.specs.Theorems.{BottomIsCut, BottomNode, ChildlessIsBottom, ChildrenAreEarlier, ChildrenCover, CornersAreVertices, LiveCountsAsBorder, LiveCovers, Made, NodesTurnLeft}
use Rattle.hierarchy.proofs.Bottoms.{bottom_leftward, bottom_named, from_bottom, live_sum, triangulated}
use Rattle.hierarchy.proofs.Elements.{in_range, map_in, sum_map}
use Rattle.hierarchy.proofs.Growth.{Kept, Parent, ascends_range, kept_on}

-- ---- from the bottom up

zeros : (n k : ℕ) → ◌≡◌ {A = ℕ} (get_or (replicate n 0) k 0) 0
zeros zero k = refl
zeros (suc n) zero = refl
zeros (suc n) (suc k) = zeros n k

zero_low : (d : ℕ) → d ≡ 0 → d ≤ 0
zero_low d h = omega arith

module _ (s : Sheet) (o : InOrder (plane_of s)) (ns : List Node) (e : bottom_of s ≡ Ok ns) where
  abbrev at : ℕ → GridPoint
  at = place_of (points_of s)

  bottom_kept : Kept at (length s.inner + 4) ns ns (range_with_len 0 (length ns)) (replicate (length ns) 0) 0
  bottom_kept =
      record {
        leftward = λ k l. bottom_leftward s ns e (node_at ns k) (in_get_or blank ns k l);
        named = λ k l. bottom_named s ns e o (node_at ns k) (in_get_or blank ns k l);
        ascending = ascends_range 0 (length ns);
        alive = λ k i. (let r = in_range k 0 (length ns) i in omega arith);
        total = live_sum s ns e o;
        dated = length-replicate (length ns) 0;
        past = λ k l. zero_low _ (zeros (length ns) k);
        grown = omega arith;
        first = λ k l. refl;
        later = λ k b l. absurd (omega arith);
      }

  kept : (nodes : List Node) (live made : List ℕ) (r : ℕ) → Layers s nodes live made r → Kept at (length s.inner + 4) ns nodes live made r
  kept nodes live made r (bottom ms d) = subst (λ ms. Kept at (length s.inner + 4) ns ms (range_with_len 0 (length ms)) (replicate (length ms) 0) 0) same bottom_kept
    where
      same : ns ≡ ms
      same = cc
  kept nodes live made r (round olds was dates q l f h) = kept_on at (length s.inner + 4) ns olds was dates q (kept olds was dates q l) (length s.inner) f h

bottom_is : (s : Sheet) (nodes : List Node) (live made : List ℕ) (r : ℕ) → Layers s nodes live made r → (ns : List Node) × (bottom_of s ≡ Ok ns)
bottom_is s nodes live made r (bottom ns e) = (ns, e)
bottom_is s nodes live made r (round olds was dates q l f h) = bottom_is s olds was dates q l

-- ---- the theorems

pub bottom_is_cut : BottomIsCut
bottom_is_cut s ns e = triangulated s ns e

module _ (s : Sheet) (nodes : List Node) (live made : List ℕ) (r : ℕ) (m : Made s nodes live made r) where
  in_order : InOrder (plane_of s)
  in_order = checked_is_in_order s m.legal m.checked

  pub ground_nodes : (ns : List Node) × (bottom_of s ≡ Ok ns)
  ground_nodes = bottom_is s nodes live made r m.layers

  kept_so : (ns : List Node) → bottom_of s ≡ Ok ns → Kept (place_of (points_of s)) (length s.inner + 4) ns nodes live made r
  kept_so ns e = kept s in_order ns e nodes live made r m.layers

  pub keeps : Kept (place_of (points_of s)) (length s.inner + 4) ground_nodes.0 nodes live made r
  keeps = kept_so ground_nodes.0 ground_nodes.1

  -- a node of the bottom has no children
  first_is_bottom : (ns : List Node) (e : bottom_of s ≡ Ok ns) (k : ℕ) → k < length ns → BottomNode s (node_at nodes k)
  first_is_bottom ns e k l =
      let h = from_bottom s ns e (node_at ns k) (in_get_or blank ns k l) in
      subst (BottomNode s) (sym ((kept_so ns e).first k l))
      (record { ring = h.below; cut = h.cut; sides = ap (λ (n : Node). n.sides) h.is; childless = ap (λ (n : Node). n.count) h.is })

  -- and every other one has
  parent : (k : ℕ) → k < length nodes → 0 < (node_at nodes k).count → Parent (place_of (points_of s)) nodes made k (node_at nodes k)
  parent k l c = elim (cases_lt k (length ground_nodes.0)) [
    | inl i ↦ let z = (first_is_bottom ground_nodes.0 ground_nodes.1 k i).childless in absurd (omega arith)
    | inr i ↦ keeps.later k i l
  ]

  few : (k : ℕ) → k < length nodes → (node_at nodes k).count ≤ 8
  few k l = elim (cases_lt k (length ground_nodes.0)) [
    | inl i ↦ let z = (first_is_bottom ground_nodes.0 ground_nodes.1 k i).childless in omega arith
    | inr i ↦ (keeps.later k i l).most
  ]

  counts : (p : Spot) → sum_of (λ k. turns (place_of (points_of s)) p (triangle_of nodes k)) live ≡ crossing_sum (place_of (points_of s)) (0 ∷ 1 ∷ 2 ∷ 3 ∷ []) p
  counts p = keeps.total (edge_crossing (place_of (points_of s)) p) (crossing_odd (place_of (points_of s)) p)

  abbrev live_triangles : List Triangle
  live_triangles = map (triangle_of nodes) live

  live_leftward : AllLeftward (place_of (points_of s)) live_triangles
  live_leftward t i = let x = map_in (triangle_of nodes) t live i in subst (Leftward (place_of (points_of s))) x.2 (keeps.leftward x.0 (keeps.alive x.0 x.1))

  inside_counts : (q : Spot) → pos 0 <ℤ q.Z → Within (plane_of s) in_order q → sum_of (turns (place_of (points_of s)) q) live_triangles ≡ pos 1
  inside_counts q z i =
      let o = in_order in
      sum_map (turns (place_of (points_of s)) q) (triangle_of nodes) live ∙ counts q
      ∙ (rectangle_counts (place_of (points_of s)) (pos s.width) (pos s.height) o.wide o.high o.corner_0 o.corner_1 o.corner_2 o.corner_3 q z
      ).inside i.from_left i.to_right i.from_below i.to_above

  somewhere : (p : Spot) → pos 0 <ℤ p.Z → is_on_sheet (pos s.width) (pos s.height) p ≡ true
      → (k : ℕ) × In k live × (closed_holds (place_of (points_of s)) (triangle_of nodes k) p ≡ true)
  somewhere p z on =
      let w = sheet_true (pos s.width) (pos s.height) p on in
      let c = covers (place_of (points_of s)) frame middle (omega lin) (frame_left (plane_of s) in_order middle central) live_triangles live_leftward
      (λ q y h. let e = inside_counts q y (left_frame (plane_of s) in_order q h) in omega lin)
      p z (frame_low (plane_of s) in_order p w.from_left w.to_right w.from_below w.to_above) in
      let x = map_in (triangle_of nodes) c.0 live c.1 in
      (x.0, x.1, subst (λ t. closed_holds (place_of (points_of s)) t p ≡ true) (sym x.2) (true_closed (place_of (points_of s)) c.0 p c.2))
    where
      middle : Spot
      middle = record { X = pos s.width; Y = pos s.height; Z = pos 2 }

      half : (u : ℤ) → pos 0 <ℤ u → u <ℤ (u *ℤ pos 2)
      half u h = omega lin

      central : Within (plane_of s) in_order middle
      central = record { from_left = in_order.wide; to_right = half (pos s.width) in_order.wide; from_below = in_order.high; to_above = half (pos s.height) in_order.high }

pub nodes_turn_left : NodesTurnLeft
nodes_turn_left s nodes live made r m = let k = keeps s nodes live made r m in (k.ascending, k.alive, k.leftward)

pub corners_are_vertices : CornersAreVertices
corners_are_vertices s nodes live made r m k l u i = (keeps s nodes live made r m).named k l u i

pub live_counts_as_border : LiveCountsAsBorder
live_counts_as_border s nodes live made r m p z = counts s nodes live made r m p

pub live_covers : LiveCovers
live_covers s nodes live made r m p z on = somewhere s nodes live made r m p z on

pub children_cover : ChildrenCover
children_cover s nodes live made r m k l c p z h = (parent s nodes live made r m k l c).covers p z h

pub children_are_earlier : ChildrenAreEarlier
children_are_earlier s nodes live made r m =
    let h = keeps s nodes live made r m in (
      h.dated,
      λ k l. (
        h.past k l,
        few s nodes live made r m k l,
        λ i j. let p = parent s nodes live made r m k l (omega arith) in (p.lower i j, p.earlier i j),
      ),
    )

pub childless_is_bottom : ChildlessIsBottom
childless_is_bottom s ns e nodes live made r m =
    let h = kept_so s nodes live made r m ns e in (
      h.grown,
      λ k l. (h.first k l, first_is_bottom s nodes live made r m ns e k l),
      λ k l c. elim (cases_lt k (length ns)) [ inl i ↦ i | inr i ↦ (let p = (h.later k i l).least in absurd (omega arith)) ],
    )
