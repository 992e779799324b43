-- A walk over the nodes of a checked sheet arrives at a bottom node that holds the point.
use Rattle.std.proofs.Common.{◌≡◌, ℕ, zero, suc, ◌+◌, ◌*◌, ◌<◌, ◌≤◌, ◌==◌, true, false, List, Some, Ok, length, take, pos, ◌<ℤ◌, nat_le, nat_lt, slice_index, refl, sym, ap, ◌∙◌, subst, inl, inr, arith}
use Rattle.std.proofs.lemmas.Bool.{cases_Bool, cond-false, cond-true}
use Rattle.std.proofs.lemmas.List.{length-take}
use Rattle.std.proofs.lemmas.Bool.Decides.{nat_tests}
use Rattle.plane.specs.Edges.{In}
use Rattle.plane.specs.Points.{Spot}
use Rattle.nodes.specs.declared.node.Node.{Node}
use Rattle.sheet.specs.Sheets.{Sheet}
use Rattle.hierarchy.specs.Layers.{child, node_at}
use Rattle.hierarchy.specs.Theorems.{Made}
use Rattle.hierarchy.proofs.Theorems.{children_are_earlier, children_cover, corners_are_vertices}
use Rattle.walk.specs.declared.steps.Walked.{Walked}
use Rattle.walk.specs.declared.view.Places.{Places}
use Rattle.walk.specs.Walks.{children_of, down_from, first_child, go_down, places_of, walk_on, walked}
use Rattle.walk.proofs.Children.{child_in, in_children}
use Rattle.walk.proofs.Finding.{Finds, Holds, Tested, child_found, full_at, reads}
use Rattle.walk.proofs.Vertices.{places_in, places_known}

module _ (s : Sheet) (nodes : List Node) (live made : List ℕ) (rounds : ℕ) (m : Made s nodes live made rounds) (p : Spot) (z : pos 0 <ℤ p.Z) where
  -- where its corners are
  pub known : (k : ℕ) → k < length nodes → places_of (reads s) nodes k ≡ Ok (places_in s (node_at nodes k))
  known k inside =
      let c = corners_are_vertices s nodes live made rounds m k inside in
      let n = node_at nodes k in
      places_known s m.legal nodes k (c n.a (inl refl)) (c n.b (inr (inl refl))) (c n.c (inr (inr (inl refl))))

  pub whole : (k : ℕ) → k < length nodes → Tested s nodes p k
  whole k inside = ap (λ r. walk_on r (λ (q : Places). Ok (full_at s nodes p q))) (known k inside)

  abbrev pub Arrives : (steps k tests : ℕ) → Type 0
  Arrives steps k tests =
      (b t : ℕ) × (down_from (reads s) (Some p) nodes steps k tests ≡ Ok (walked (Some b) t))
      × (t ≤ tests + 24 * slice_index made k) × (b < length nodes) × ((node_at nodes b).count ≡ 0) × Holds s nodes p b

  lower : (k : ℕ) → k < length nodes → (x : ℕ) → In x (take (node_at nodes k).count (children_of nodes k)) → x < k
  lower k inside x i =
      let e = (children_are_earlier s nodes live made rounds m).1 k inside in
      let r = in_children nodes k (node_at nodes k).count x i in
      subst (λ c. c < k) (sym r.2) (e.2 r.0 r.1).0

  -- and it was made in an earlier round
  earlier : (k : ℕ) → k < length nodes → (x : ℕ) → In x (take (node_at nodes k).count (children_of nodes k)) → slice_index made x < slice_index made k
  earlier k inside x i =
      let e = (children_are_earlier s nodes live made rounds m).1 k inside in
      let r = in_children nodes k (node_at nodes k).count x i in
      subst (λ c. slice_index made c < slice_index made k) (sym r.2) (e.2 r.0 r.1).1

  there : (k : ℕ) → k < length nodes → (x : ℕ) → In x (take (node_at nodes k).count (children_of nodes k)) → Tested s nodes p x
  there k inside x i = let l = lower k inside x i in whole x (omega (arith, l, inside))

  -- a node with children, of which one holds the point
  module _ (steps k tests : ℕ) (h : k < suc steps) (inside : k < length nodes) (holds : Holds s nodes p k) (some : ((node_at nodes k).count == 0) ≡ false) where
    abbrev fan : List ℕ
    fan = take (node_at nodes k).count (children_of nodes k)

    found : Finds s nodes p (first_child (reads s) (Some p) nodes k fan tests) fan tests
    found =
        let n = node_at nodes k in
        let e = (children_are_earlier s nodes live made rounds m).1 k inside in
        let c = children_cover s nodes live made rounds m k inside (above n.count some) p z holds in
        child_found s nodes p k fan tests (lower k inside) (there k inside) (child n c.0) (child_in nodes k n.count c.0 e.1 c.1) c.2
      where
        above : (c : ℕ) → (c == 0) ≡ false → 0 < c
        above c e = grind (arith, nat_tests)

    deeper : ((c t : ℕ) → c < steps → c < length nodes → Holds s nodes p c → Arrives steps c t) → Arrives (suc steps) k tests
    unfolding down_from
    deeper next =
        let e = (children_are_earlier s nodes live made rounds m).1 k inside in
        let w = found.0 in
        let c = found.3.0 in
        let l = lower k inside c found.3.2 in
        let r = next c w.tests (omega (arith, l, h)) (omega (arith, l, inside)) found.3.3 in
        let tested = found.2 in
        let below = earlier k inside c found.3.2 in
        let children : length (take (node_at nodes k).count (children_of nodes k)) ≤ 8 = let n = length-take (node_at nodes k).count (children_of nodes k) in omega (arith, n) in
        let deep = r.3 in (
          r.0,
          r.1,
          cond-false _ _ _ some ∙ cond-true _ _ _ (few (node_at nodes k).count e.1)
              ∙ ap (λ f. walk_on f (λ (w : Walked). go_down (reads s) (Some p) nodes k (down_from (reads s) (Some p) nodes steps) w.node w.tests)) found.1
              ∙ ap (λ o. go_down (reads s) (Some p) nodes k (down_from (reads s) (Some p) nodes steps) o w.tests) found.3.1
              ∙ r.2,
          omega (arith, tested, below, children, deep),
          r.4,
          r.5,
          r.6,
        )
      where
        few : (c : ℕ) → c ≤ 8 → nat_le c 8 ≡ true
        few c h = grind (arith, nat_tests)

  pub arrives : (steps k tests : ℕ) → k < steps → k < length nodes → Holds s nodes p k → Arrives steps k tests
  unfolding down_from
  arrives zero k tests h inside holds = absurd (omega (arith, h))
  arrives (suc steps) k tests h inside holds =
      elim (cases_Bool ((node_at nodes k).count == 0)) [
        | inl e ↦ (k, tests, cond-true _ _ _ e, omega arith, inside, none (node_at nodes k).count e, holds)
        | inr e ↦ deeper steps k tests h inside holds e (λ c t l i g. arrives steps c t l i g)
      ]
    where
      none : (c : ℕ) → (c == 0) ≡ true → c ≡ 0
      none c e = grind (arith, nat_tests)
