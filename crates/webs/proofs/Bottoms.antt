-- The bottom of a checked sheet that is cut: two nodes more than twice the inner vertices, and some at each of these.
use Rattle.std.proofs.Common.{◌≡◌, ℕ, zero, suc, ◌+◌, ◌*◌, ◌<◌, ◌≤◌, ◌==◌, Bool, true, false, cond, List, [], ◌∷◌, ◌++◌, length, map, Some, None, Option, Ok, Err, Result, sym, refl, ap, ◌∙◌, subst, inl, inr, arith, eqb-true, length-append}
use Rattle.std.specs.List.{range_with_len}
use Rattle.std.proofs.lemmas.List.{length-map}
use Rattle.plane.specs.declared.Edge.{Edge}
use Rattle.plane.specs.Edges.{In}
use Rattle.plane.specs.Points.{GridPoint, place_of}
use Rattle.tiling.specs.Order.{InOrder}
use Rattle.tiling.specs.Triangles.{Triangle, corners}
use Rattle.tiling.proofs.Cuts.{kept as cut_kept}
use Rattle.tiling.proofs.Lists.{in_left, in_map, in_right}
use Rattle.tiling.proofs.Rings.{ring_from}
use Rattle.ears.specs.Ears.{cut_of}
use Rattle.ears.proofs.Rotations.{cut_is_cut}
use Rattle.nodes.specs.declared.node.Node.{Node}
use Rattle.nodes.specs.Nodes.{blank}
use Rattle.fans.specs.Around.{left_from}
use Rattle.sheet.specs.Legal.{LegalSheet}
use Rattle.sheet.specs.Sheets.{Ring, Sheet, edges_of, points_of}
use Rattle.rules.specs.Planes.{plane_of}
use Rattle.rules.specs.Rules.{first_broken, triangles_in}
use Rattle.rules.proofs.Nothing.{kept}
use Rattle.rules.proofs.Orders.{checked_is_in_order}
use Rattle.bottom.specs.Bottom.{bottom_node, bottom_of, cut_loops, cut_next}
use Rattle.bottom.specs.Cuts.{bottom_count}
use Rattle.hierarchy.specs.Layers.{shape}
use Rattle.hierarchy.proofs.Corners.{has_turn}
use Rattle.hierarchy.proofs.Counts.{counted, has_live, live_to}
use Rattle.hierarchy.proofs.Elements.{map_in, place_in}
use Rattle.webs.proofs.Distinct.{range_in, range_long}
use Rattle.webs.proofs.Fans.{side_from}
use Rattle.webs.proofs.Totals.{counted_all}

-- ---- every triangle of a cut loop has a node

next_ok : (l : ℕ) (g : List Triangle → List Node) (o : Option (List Triangle)) (others : Result (List Node) ℕ) (ns : List Node) → cut_next l g o others ≡ Ok ns
    → (ts : List Triangle) × (ms : List Node) × (o ≡ Some ts) × (others ≡ Ok ms) × (g ts ++ ms ≡ ns)
next_ok l g None others ns e = cc
next_ok l g (Some ts) (Ok ms) ns e = (ts, ms, refl, refl, cc)
next_ok l g (Some ts) (Err k) ns e = cc

module _ (at : ℕ → GridPoint) (es : List Edge) where
  abbrev Filed : List Ring → List Node → Type 0
  Filed rs ns = (r : Ring) → In r rs → (ts : List Triangle) × (cut_of at r.corners ≡ Some ts) × ((t : Triangle) → In t ts → (x : Node) × In x ns × (shape x ≡ t))

  file : (r : Ring) (rs : List Ring) (l : ℕ) (ts : List Triangle) (ms : List Node) → cut_of at r.corners ≡ Some ts → Filed rs ms → Filed (r ∷ rs) (map (bottom_node es l) ts ++ ms)
  file r rs l ts ms e h q (inl d) =
      (ts, ap (λ (x : Ring). cut_of at x.corners) d ∙ e, λ t i. (bottom_node es l t, in_left _ (map (bottom_node es l) ts) ms (in_map (bottom_node es l) t ts i), refl))
  file r rs l ts ms e h q (inr i) =
      let f = h q i in
      (f.0, f.1, λ t j. let x = f.2 t j in (x.0, in_right x.0 (map (bottom_node es l) ts) ms x.1, x.2))

  filed : (rs : List Ring) (l : ℕ) (ns : List Node) → cut_loops at es l rs ≡ Ok ns → (length ns ≡ triangles_in rs) × Filed rs ns
  unfolding cut_loops
  filed [] l ns e = (ap length nothing, λ r i. absurd i)
    where
      nothing : ns ≡ []
      nothing = cc
  filed (r ∷ rs) l ns e =
      let n = next_ok l _ (cut_of at r.corners) _ ns e in
      let m = filed rs (l + 1) n.1 n.3 in
      let c = (cut_is_cut at r.corners n.0 n.2).count in
      let a = length-append (map (bottom_node es l) n.0) n.1 in
      let b = length-map n.0 (bottom_node es l) in
      let d = m.0 in
      let long : length (map (bottom_node es l) n.0 ++ n.1) ≡ triangles_in (r ∷ rs) = omega arith in
      (ap length (sym n.4) ∙ long, subst (λ ns. Filed (r ∷ rs) ns) n.4 (file r rs l n.0 n.1 n.2 m.1))

-- ---- so the sheet is

told_none : (b : Bool) → ◌≡◌ {A = Option ℕ} (cond b None (Some 0)) None → b ≡ true
told_none true h = refl
told_none false h = cc

pub sum_right : (s : Sheet) → first_broken s ≡ None → (triangles_in s.rings == bottom_count (length s.inner)) ≡ true
sum_right s none = told_none (triangles_in s.rings == 2 * length s.inner + 2) (kept s none).sum

-- the live nodes, and all nodes, by how many vertices are left
pub record Balanced (s : Sheet) (nodes : List Node) (live : List ℕ) : Type 0 where
  pub count : length live ≡ 2 * left_from nodes live (length s.inner) 4 + 2
  pub room : length nodes + 6 * left_from nodes live (length s.inner) 4 ≤ 8 * length s.inner + 2

pub left_counted : (nodes : List Node) (live : List ℕ) (k v : ℕ) → left_from nodes live k v ≡ counted (has_live nodes live) k v
left_counted nodes live zero v = refl
left_counted nodes live (suc k) v = ap (λ m. cond (has_live nodes live v) 1 0 + m) (left_counted nodes live k (v + 1))

module _ (s : Sheet) (legal : LegalSheet s) (none : first_broken s ≡ None) (ns : List Node) (e : bottom_of s ≡ Ok ns) where
  abbrev at : ℕ → GridPoint
  at = place_of (points_of s)

  abbrev all : List ℕ
  all = range_with_len 0 (length ns)

  order : InOrder (plane_of s)
  order = checked_is_in_order s legal none

  looped : cut_loops at (edges_of s) 0 s.rings ≡ Ok ns
  unfolding bottom_of
  looped = e

  bottom_live : (v : ℕ) → 4 ≤ v → v < 4 + length s.inner → has_live ns all v ≡ true
  bottom_live v i j =
      let u = order.used v i (omega arith) in
      let r = map_in (λ (r : Ring). r.corners) u.0 s.rings u.1 in
      let c = (filed at (edges_of s) s.rings 0 ns looped).1 r.0 r.1 in
      let e = ring_from v r.0.corners (subst (λ l. In v l) (sym r.2) u.2) in
      let t = cut_kept r.0.corners c.0 (cut_is_cut at r.0.corners c.0 c.1).cut e.0 e.1 in
      let x = c.2 t.0 t.1 in
      let k = place_in blank x.0 ns x.1 in
      live_to ns all v k.0 (range_in k.0 0 (length ns) (omega arith) (let q = k.1 in omega arith))
      (has_turn ns v k.0 k.1 (subst (λ (y : Node). In v (corners (shape y))) (sym k.2) (subst (λ (y : Triangle). In v (corners y)) (sym x.2) (subst (λ w. In w (corners t.0)) e.2 (side_from t.0 e.0 t.2)))))

  pub bottom_balanced : Balanced s ns all
  bottom_balanced =
      let f = (filed at (edges_of s) s.rings 0 ns looped).0 ∙ eqb-true _ _ (sum_right s none) in
      let a = range_long 0 (length ns) in
      let l = left_counted ns all (length s.inner) 4 in
      let b = counted_all (has_live ns all) (length s.inner) 4 bottom_live in
      record { count = omega arith; room = omega arith }
