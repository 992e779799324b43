-- A walk over the nodes of a checked sheet tells the one cell that holds the point.
use Rattle.std.proofs.Common.{◌≡◌, ℕ, ◌+◌, ◌*◌, ◌<◌, ◌≤◌, true, List, Some, Ok, Err, length, pos, ◌<ℤ◌, nat_le, nat_lt, sym, ap, ◌∙◌, subst, arith}
use Rattle.std.proofs.lemmas.Bool.{and_from, cond-true}
use Rattle.std.proofs.lemmas.Bool.Decides.{nat_tests}
use Rattle.std.proofs.lemmas.List.{length-map}
use Rattle.plane.specs.Kernels.{is_sheet_size}
use Rattle.plane.specs.Points.{Spot, is_on_sheet}
use Rattle.sheet.specs.Legal.{LegalSheet}
use Rattle.nodes.specs.declared.node.Node.{Node}
use Rattle.sheet.specs.Sheets.{Ring, Sheet, edges_of, points_of}
use Rattle.tiling.specs.Cells.{cell_holds}
use Rattle.tiling.proofs.Theorems.{one_cell, triangle_tells}
use Rattle.bottom.specs.Bottom.{bottom_of, is_drawn}
use Rattle.rules.specs.Planes.{plane_of}
use Rattle.rules.proofs.Orders.{checked_is_in_order}
use Rattle.hierarchy.specs.Layers.{Layers, node_at, shape, triangles_of_loop}
use Rattle.hierarchy.specs.Layers.Layers.{bottom, round}
use Rattle.hierarchy.specs.Theorems.{Made}
use Rattle.hierarchy.proofs.Theorems.{bottom_is_cut, childless_is_bottom, children_are_earlier, live_covers, nodes_turn_left}
use Rattle.walk.specs.declared.steps.Walked.{Walked}
use Rattle.walk.specs.declared.view.Places.{Places}
use Rattle.walk.specs.Telling.{WalkTells, cell_of}
use Rattle.walk.specs.Walks.{down_from, found, go_down, told_at, told_from, told_node, walk_from, walk_on, walked}
use Rattle.walk.proofs.Arriving.{arrives, known, whole}
use Rattle.walk.proofs.Cells.{marked, node_tells}
use Rattle.walk.proofs.Finding.{Holds, reads, top_found}
use Rattle.walk.proofs.Vertices.{is_below, places_in}

-- nodes that cuts and rounds made have a bottom
has_bottom : (s : Sheet) (nodes : List Node) (live made : List ℕ) (r : ℕ) → Layers s nodes live made r → (ns : List Node) × (bottom_of s ≡ Ok ns)
has_bottom s nodes live made r (bottom ns h) = (ns, h)
has_bottom s nodes live made r (round nodes' live' made' r' layers f h) = has_bottom s nodes' live' made' r' layers

module _ (s : Sheet) (nodes : List Node) (live made : List ℕ) (rounds : ℕ) (m : Made s nodes live made rounds) (p : Spot) (z : pos 0 <ℤ p.Z)
    (on : is_on_sheet (pos s.width) (pos s.height) p ≡ true) where
  -- the walk comes to a bottom node that holds the point
  Comes : Type 0
  Comes =
      (b t : ℕ) × (walk_from (reads s) (Some p) nodes live ≡ Ok (walked (Some b) t))
      × (t ≤ 24 * rounds + 3 * length live) × (b < length nodes) × ((node_at nodes b).count ≡ 0) × Holds s nodes p b

  comes : Comes
  unfolding Comes
  comes =
      let left = nodes_turn_left s nodes live made rounds m in
      let there = left.1 in
      let top = live_covers s nodes live made rounds m p z on in
      let f = top_found s nodes p 0 0 live 0 left.0 there (λ k i. whole s nodes live made rounds m p z k (there k i)) top.0 top.1 top.2 in
      let c = f.3.0 in
      let a = arrives s nodes live made rounds m p z (length nodes) c f.0.tests (there c f.3.2) (there c f.3.2) f.3.3 in
      let early = ((children_are_earlier s nodes live made rounds m).1 c (there c f.3.2)).0 in
      let tested = f.2 in
      let deep = a.3 in
      let down = down_from (reads s) (Some p) nodes (length nodes) in (
        a.0,
        a.1,
        ap (λ r. walk_on r (λ (w : Walked). go_down (reads s) (Some p) nodes 0 down w.node w.tests)) f.1
            ∙ ap (λ o. go_down (reads s) (Some p) nodes 0 down o f.0.tests) f.3.1
            ∙ a.2,
        omega (arith, early, tested, deep),
        a.4,
        a.5,
        a.6,
      )

-- a sheet within its limits has a size that a sheet can have
pub sized : (s : Sheet) → LegalSheet s → is_sheet_size s.width s.height ≡ true
sized s legal =
    and_from _ _ (and_from _ _ (at_least 2 s.width legal.width.0) (at_least s.width 8191 legal.width.1))
    (and_from _ _ (at_least 2 s.height legal.height.0) (at_least s.height 8191 legal.height.1))
  where
    at_least : (x y : ℕ) → x ≤ y → nat_le x y ≡ true
    at_least x y h = grind (arith, nat_tests)

pub walk_tells : WalkTells
unfolding told_from Comes
walk_tells s nodes live made rounds m few p z on =
    let a = comes s nodes live made rounds m p z on in
    let ns = has_bottom s nodes live made rounds m.layers in
    let cb = childless_is_bottom s ns.0 ns.1 nodes live made rounds m in
    let n = node_at nodes a.0 in
    let bn = (cb.1 a.0 (cb.2 a.0 a.4 a.5)).1 in
    let es = edges_of s in
    let ring = bn.ring in
    let marks = ap (λ k. nat_lt k 8) bn.sides ∙ (marked (is_drawn es n.a n.b) (is_drawn es n.b n.c) (is_drawn es n.c n.a)).few in
    let right = and_from _ _ (is_below n.ring (length s.rings) ring) marks in
    let answer = told_node (Some p) (places_in s n) n in
    let said =
    cond-true _ _ _ (sized s m.legal)
    ∙ ap (λ r. walk_on r (λ (w : Walked). told_at (reads s) (Some p) nodes (length s.rings) w.node w.tests)) a.2
    ∙ cond-true _ _ (Err a.0) right
    ∙ ap (λ r. walk_on r (λ (q : Places). Ok (found (told_node (Some p) q n) a.1))) (known s nodes live made rounds m p z a.0 a.4) in
    let order = checked_is_in_order s m.legal m.checked in
    let cut = bottom_is_cut s ns.0 ns.1 in
    let loops = length-map s.rings (λ (r : Ring). r.corners) in
    let tells = (triangle_tells (plane_of s) (triangles_of_loop s) order cut p z).1 n.ring (omega (arith, ring, loops)) (shape n) bn.cut a.6 in
    let holds = subst (λ c. cell_holds (plane_of s) c p ≡ true) (sym (node_tells s p n bn.sides)) tells in
    let one = one_cell (plane_of s) (triangles_of_loop s) order cut p z on in
    (found answer a.1, said, holds, λ d h. one.2 d h ∙ sym (one.2 (cell_of answer) holds), a.3)
