-- What a walk over the nodes of a checked sheet finds.
use Rattle.std.proofs.Common.{◌≡◌, ℕ, ◌+◌, ◌*◌, ◌<◌, ◌≤◌, true, false, cond, List, [], ◌∷◌, Some, Ok, Result, length, nat_le, refl, sym, ap, ◌∙◌, subst, inl, inr, arith}
use Rattle.std.proofs.lemmas.Bool.{and_from, cases_Bool, cond-false, cond-true, false≢true}
use Rattle.std.proofs.lemmas.Bool.Decides.{nat_tests}
use Rattle.plane.specs.declared.Point.{Point}
use Rattle.plane.specs.declared.Test.{Test}
use Rattle.plane.specs.Edges.{In}
use Rattle.plane.specs.Kernels.{is_right, side_said, triangle_said}
use Rattle.plane.specs.Points.{Spot, place_of}
use Rattle.nodes.specs.declared.node.Node.{Node}
use Rattle.sheet.specs.Sheets.{Sheet, points_of, size_of}
use Rattle.tiling.specs.Triangles.{closed_holds}
use Rattle.hierarchy.specs.Layers.{node_at, triangle_of}
use Rattle.hierarchy.specs.Theorems.{Ascends}
use Rattle.walk.specs.declared.steps.Walked.{Walked}
use Rattle.walk.specs.declared.view.Places.{Places}
use Rattle.walk.specs.Walks.{first_child, first_top, tested, tried, vertex_read, walk_on, walked}
use Rattle.walk.proofs.Signs.{at_most_three, held_by_test}
use Rattle.walk.proofs.Vertices.{is_below, places_in}

-- how a walk over the sheet reads a vertex of a node
abbrev pub reads : Sheet → ℕ → ℕ → Result Point ℕ
reads s = vertex_read (size_of s) (points_of s)

module _ (s : Sheet) (nodes : List Node) (p : Spot) where
  abbrev pub Holds : ℕ → Type 0
  Holds k = closed_holds (place_of (points_of s)) (triangle_of nodes k) p ≡ true

  abbrev pub full_at : Places → Test
  full_at q = triangle_said (Some p) q.a q.b q.c

  abbrev pub full : ℕ → Test
  full k = full_at (places_in s (node_at nodes k))

  -- the corners of a node are vertices, so that it is tested
  abbrev pub Tested : ℕ → Type 0
  Tested k = tested (reads s) (Some p) nodes k ≡ Ok (full k)

  few : (k : ℕ) → (full k).tests ≤ 3
  few k =
      let q = places_in s (node_at nodes k) in
      at_most_three (is_right (side_said (Some p) q.a q.b)) (is_right (side_said (Some p) q.b q.c)) (is_right (side_said (Some p) q.c q.a))

  same : (k : ℕ) → (full k).holds ≡ closed_holds (place_of (points_of s)) (triangle_of nodes k) p
  same k = let n = node_at nodes k in held_by_test (points_of s) p n.a n.b n.c

  -- of some nodes one that holds the point is come to
  abbrev pub Finds : Result Walked ℕ → List ℕ → ℕ → Type 0
  Finds said ks tests =
      (w : Walked) × (said ≡ Ok w) × (w.tests ≤ tests + 3 * length ks) × ((c : ℕ) × (w.node ≡ Some c) × In c ks × Holds c)

  -- the first of them is tried, and those that follow if it does not hold the point
  module _ (j : ℕ) (ks : List ℕ) (tests : ℕ) (rest : ℕ → Result Walked ℕ) (said : Result Walked ℕ) (is : said ≡ tried (reads s) (Some p) nodes j tests rest)
      (there : Tested j) where
    trial : said ≡ walk_on {X = Test} (Ok (full j)) (λ t. cond t.holds (Ok (walked (Some j) (tests + t.tests))) (rest (tests + t.tests)))
    trial = is ∙ ap (λ r. walk_on r (λ (t : Test). cond t.holds (Ok (walked (Some j) (tests + t.tests))) (rest (tests + t.tests)))) there

    here : (full j).holds ≡ true → Finds said (j ∷ ks) tests
    here holds =
        let most = few j in
        (walked (Some j) (tests + (full j).tests), trial ∙ cond-true _ _ _ holds, omega (arith, most), (j, refl, inl refl, sym (same j) ∙ holds))

    later : (full j).holds ≡ false → Finds (rest (tests + (full j).tests)) ks (tests + (full j).tests) → Finds said (j ∷ ks) tests
    later fails f =
        let most = few j in
        let more = f.2 in
        (f.0, trial ∙ cond-false _ _ _ fails ∙ f.1, omega (arith, most, more), (f.3.0, f.3.1, inr f.3.2, f.3.3))

    pub finds : (k : ℕ) → In k (j ∷ ks) → Holds k → (In k ks → Finds (rest (tests + (full j).tests)) ks (tests + (full j).tests)) → Finds said (j ∷ ks) tests
    finds k i h next =
        elim (cases_Bool (full j).holds) [
          | inl holds ↦ here holds
          | inr fails ↦ later fails (next (elim i [ inl e ↦ absurd (false≢true (sym (sym (same j) ∙ fails) ∙ subst Holds e h)) | inr l ↦ l ]))
        ]

  -- so of children that are below their node
  pub child_found : (node : ℕ) (ks : List ℕ) (tests : ℕ) → ((k : ℕ) → In k ks → k < node) → ((k : ℕ) → In k ks → Tested k)
      → (k : ℕ) → In k ks → Holds k → Finds (first_child (reads s) (Some p) nodes node ks tests) ks tests
  unfolding first_child
  child_found node [] tests below there k i h = absurd i
  child_found node (j ∷ ks) tests below there k i h =
      finds j ks tests (first_child (reads s) (Some p) nodes node ks) _ (cond-true _ _ _ (is_below j node (below j (inl refl)))) (there j (inl refl)) k i h
      (λ l. child_found node ks _ (λ k i. below k (inr i)) (λ k i. there k (inr i)) k l h)

  -- and of top nodes, which ascend
  pub top_found : (entry least : ℕ) (ks : List ℕ) (tests : ℕ) → Ascends least ks → ((k : ℕ) → In k ks → k < length nodes) → ((k : ℕ) → In k ks → Tested k)
      → (k : ℕ) → In k ks → Holds k → Finds (first_top (reads s) (Some p) nodes entry least ks tests) ks tests
  unfolding first_top
  top_found entry least [] tests up below there k i h = absurd i
  top_found entry least (j ∷ ks) tests up below there k i h =
      finds j ks tests (first_top (reads s) (Some p) nodes (entry + 1) (j + 1) ks) _
      (cond-true _ _ _ (and_from _ _ (at_least least j up.0) (is_below j (length nodes) (below j (inl refl))))) (there j (inl refl)) k i h
      (λ l. top_found (entry + 1) (j + 1) ks _ up.1 (λ k i. below k (inr i)) (λ k i. there k (inr i)) k l h)
    where
      at_least : (x y : ℕ) → x ≤ y → nat_le x y ≡ true
      at_least x y h = grind (arith, nat_tests)
