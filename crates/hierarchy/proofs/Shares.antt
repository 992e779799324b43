-- The live nodes that a round takes out, shared among the chosen vertices: no live node has two chosen corners.
use Rattle.std.proofs.Common.{◌≡◌, ℕ, zero, suc, ◌+◌, ◌<◌, ◌≤◌, Bool, true, false, cond, ◌||◌, List, [], length, ℤ, pos, ◌+ℤ◌, is_some, sym, refl, ap, ◌∙◌, inl, inr, arith}
use Rattle.std.proofs.lemmas.Bool.{both_ways, cases_eq, cases_order, or_cases, or_parts}
use Rattle.plane.specs.declared.Edge.{Edge}
use Rattle.plane.specs.Edges.{In, sum_of}
use Rattle.plane.specs.Points.{GridPoint}
use Rattle.plane.proofs.Signs.{lin}
use Rattle.tiling.specs.Lemmas.{Odd}
use Rattle.tiling.specs.Triangles.{around, corners}
use Rattle.tiling.proofs.Lists.{in_split, sum-++}
use Rattle.nodes.specs.declared.node.Node.{Node}
use Rattle.fans.specs.Around.{turned_at}
use Rattle.rounds.specs.Choices.{closing, closings, goes, is_marked}
use Rattle.hierarchy.specs.Layers.{node_at, shape, triangle_of}
use Rattle.hierarchy.proofs.Corners.{has_turn, turn_has}
use Rattle.hierarchy.proofs.Elements.{sum_both, sum_zero, where_true}
use Rattle.hierarchy.proofs.Holes.{closing_sum, none_before}
use Rattle.hierarchy.proofs.Looks.{Choice}

module _ (at : ℕ → GridPoint) (nodes : List Node) (live : List ℕ) (marks : List Bool) where
  -- node j has corner w
  abbrev takes : ℕ → ℕ → Bool
  takes w j = is_some (turned_at nodes w j)

  -- what vertex w takes of a number for node j, and what so many vertices from v on take
  abbrev share : (ℕ → ℤ) → ℕ → ℕ → ℤ
  share g w j = cond (is_marked marks w) (where_true (takes w) g j) (pos 0)

  pub shares : (ℕ → ℤ) → ℕ → ℕ → ℕ → ℤ
  shares g zero v j = pos 0
  shares g (suc k) v j = share g v j +ℤ shares g k (v + 1) j

  abbrev number : (Edge → ℤ) → ℕ → ℤ
  number f j = around f (triangle_of nodes j)

  module _ (choice : (w : ℕ) → is_marked marks w ≡ true → Choice at nodes live marks w) where
    -- the nodes that close the holes have the sum of what the vertices take
    one_sum : (f : Edge → ℤ) → Odd f → (v : ℕ) (b : Bool) → is_marked marks v ≡ b
        → sum_of (λ n. around f (shape n)) (cond b (closing at nodes live v) []) ≡ sum_of (λ j. cond b (where_true (takes v) (number f) j) (pos 0)) live
    one_sum f odd v true h = closing_sum at nodes live marks v (choice v h) f odd
    one_sum f odd v false h = sym (sum_zero (λ j. pos 0) live (λ j i. refl))

    pub closings_sum : (f : Edge → ℤ) → Odd f → (k v : ℕ) → sum_of (λ n. around f (shape n)) (closings at nodes live marks k v) ≡ sum_of (shares (number f) k v) live
    unfolding closings shares
    closings_sum f odd zero v = sym (sum_zero (λ j. pos 0) live (λ j i. refl))
    closings_sum f odd (suc k) v =
        let a = sum-++ (λ n. around f (shape n)) (cond (is_marked marks v) (closing at nodes live v) []) (closings at nodes live marks k (v + 1)) in
        let b = one_sum f odd v (is_marked marks v) refl in
        let c = closings_sum f odd k (v + 1) in
        a ∙ ap (λ (u : ℤ). u +ℤ sum_of (λ n. around f (shape n)) (closings at nodes live marks k (v + 1))) b
        ∙ ap (λ (u : ℤ). sum_of (share (number f) v) live +ℤ u) c
        ∙ sym (sum_both (share (number f) v) (shares (number f) k (v + 1)) live)

    -- each of them closes the hole of a chosen vertex
    one_closing : (n : Node) (v : ℕ) (b : Bool) → is_marked marks v ≡ b → In n (cond b (closing at nodes live v) []) → (w : ℕ) × (is_marked marks w ≡ true) × In n (closing at nodes live w)
    one_closing n v true h i = (v, h, i)
    one_closing n v false h i = absurd i

    pub closings_from : (n : Node) (k v : ℕ) → In n (closings at nodes live marks k v) → (w : ℕ) × (is_marked marks w ≡ true) × In n (closing at nodes live w)
    unfolding closings
    closings_from n zero v i = absurd i
    closings_from n (suc k) v i =
        elim (in_split n (cond (is_marked marks v) (closing at nodes live v) []) (closings at nodes live marks k (v + 1)) i) [
          | inl j ↦ one_closing n v (is_marked marks v) refl j
          | inr j ↦ closings_from n k (v + 1) j
        ]

  -- ---- who takes a node

  module _ (g : ℕ → ℤ) (j : ℕ) where
    one_share : (b c : Bool) (u : ℤ) → (b ≡ true → c ≡ true → ⊥) → cond b (cond c u (pos 0)) (pos 0) ≡ pos 0
    one_share true true u h = absurd (h refl refl)
    one_share true false u h = refl
    one_share false c u h = refl

    no_share : (w : ℕ) → (is_marked marks w ≡ true → takes w j ≡ true → ⊥) → share g w j ≡ pos 0
    no_share w h = one_share (is_marked marks w) (takes w j) (g j) h

    no_shares : (k v : ℕ) → ((w : ℕ) → v ≤ w → is_marked marks w ≡ true → takes w j ≡ true → ⊥) → shares g k v j ≡ pos 0
    unfolding shares
    no_shares zero v h = refl
    no_shares (suc k) v h =
        let a = no_share v (h v (omega arith)) in
        let b = no_shares k (v + 1) (λ w l. h w (omega arith)) in
        omega lin

    module _ (u : ℕ) (m : is_marked marks u ≡ true) (t : takes u j ≡ true) (only : (w : ℕ) → is_marked marks w ≡ true → takes w j ≡ true → w ≡ u) where
      whole_share : share g u j ≡ g j
      whole_share = ap (λ b. cond b (where_true (takes u) g j) (pos 0)) m ∙ ap (λ b. cond b (g j) (pos 0)) t

      one_takes : (k v : ℕ) → v ≤ u → u < v + k → shares g k v j ≡ g j
      unfolding shares
      one_takes zero v l r = absurd (omega arith)
      one_takes (suc k) v l r =
          elim (cases_eq v u) [
            | inl e ↦
                let a = ap (λ w. share g w j) e ∙ whole_share in
                let b = no_shares k (v + 1) (λ w i n s. let q = only w n s in omega arith) in
                omega lin
            | inr d ↦
                let a = no_share v (λ n s. d (only v n s)) in
                let b = one_takes k (v + 1) (omega arith) (omega arith) in
                omega lin
          ]

  marked_corner : (j : ℕ) → goes at nodes live marks j ≡ true → (u : ℕ) × In u (corners (triangle_of nodes j)) × (is_marked marks u ≡ true)
  marked_corner j h = elim (or_cases _ _ h) [
    | inl t ↦ ((node_at nodes j).a, inl refl, t)
    | inr t ↦ elim (or_cases _ _ t) [ inl e ↦ ((node_at nodes j).b, inr (inl refl), e) | inr e ↦ ((node_at nodes j).c, inr (inr (inl refl)), e) ]
  ]

  pub no_marked_corner : (j : ℕ) → goes at nodes live marks j ≡ false → (u : ℕ) → In u (corners (triangle_of nodes j)) → is_marked marks u ≡ true → ⊥
  no_marked_corner j h u i m = go (or_parts _ _ h) i
    where
      off : (w : ℕ) → u ≡ w → is_marked marks w ≡ false → ⊥
      off w e q = both_ways (is_marked marks w) q (ap (is_marked marks) (sym e) ∙ m)

      go : (is_marked marks (node_at nodes j).a ≡ false) × ((is_marked marks (node_at nodes j).b || is_marked marks (node_at nodes j).c) ≡ false)
          → In u (corners (triangle_of nodes j)) → ⊥
      go r (inl e) = off _ e r.0
      go r (inr (inl e)) = off _ e (or_parts _ _ r.1).0
      go r (inr (inr (inl e))) = off _ e (or_parts _ _ r.1).1
      go r (inr (inr (inr z))) = z

  module _ (choice : (w : ℕ) → is_marked marks w ≡ true → Choice at nodes live marks w) (j : ℕ) (i : In j live) where
    -- two chosen corners of a live node are one
    pub one_corner : (u w : ℕ) → is_marked marks u ≡ true → takes u j ≡ true → is_marked marks w ≡ true → takes w j ≡ true → w ≡ u
    one_corner u w m t m' t' = elim (cases_order w u) [
      | inl e ↦ e
      | inr (inl l) ↦ absurd (both_ways (is_marked marks w)
          (none_before at nodes live marks u (choice u m) j i t w (turn_has nodes w j t') l (λ e. omega arith)) m')
      | inr (inr l) ↦ absurd (both_ways (is_marked marks u)
          (none_before at nodes live marks w (choice w m') j i t' u (turn_has nodes u j t) l (λ e. omega arith)) m)
    ]

  module _ (n : ℕ) (within : (w : ℕ) → is_marked marks w ≡ true → (4 ≤ w) × (w < 4 + n)) (choice : (w : ℕ) → is_marked marks w ≡ true → Choice at nodes live marks w)
      (alive : (k : ℕ) → In k live → k < length nodes) (g : ℕ → ℤ) (j : ℕ) (i : In j live) where
    -- a live node with a chosen corner is taken once, and the others are not
    taken : (b : Bool) → goes at nodes live marks j ≡ b → shares g n 4 j ≡ cond b (g j) (pos 0)
    taken true h =
        let r = marked_corner j h in
        let t = has_turn nodes r.0 j (alive j i) r.1 in
        let k = within r.0 r.2 in
        one_takes g j r.0 r.2 t (λ w m s. one_corner choice j i r.0 w r.2 t m s) n 4 k.0 k.1
    taken false h = no_shares g j n 4 (λ w l m s. no_marked_corner j h w (turn_has nodes w j s) m)

    pub taken_once : shares g n 4 j ≡ where_true (goes at nodes live marks) g j
    taken_once = taken (goes at nodes live marks j) refl
