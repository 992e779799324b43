-- A node that is turned to one of its corners: it is the same triangle, and has the same corners.
use Rattle.std.proofs.Common.{◌≡◌, ℕ, ◌<◌, ◌==◌, ◌⊎◌, Bool, true, false, cond, nat_lt, List, length, Some, None, Option, is_some, sym, refl, ap, ◌∙◌, subst, inl, inr}
use Rattle.std.specs.Option.{option_and_then}
use Rattle.std.proofs.lemmas.Bool.{eq-eqb, lt-ltb, ltb-true, true≢false}
use Rattle.std.proofs.lemmas.Option.{none-some}
use Rattle.plane.specs.Edges.{In}
use Rattle.plane.specs.Points.{GridPoint}
use Rattle.tiling.specs.Triangles.{Triangle, corners, triangle}
use Rattle.tiling.proofs.Turning.{Same, same, same_next}
use Rattle.nodes.specs.declared.node.Node.{Node}
use Rattle.fans.specs.declared.around.Turned.{Turned}
use Rattle.fans.specs.Around.{corners_of, turn, turned, turned_at}
use Rattle.fans.specs.Fans.{turns_of}
use Rattle.fans.proofs.Fans.{turned_is_node}
use Rattle.hierarchy.specs.Layers.{node_at, triangle_of}

-- ---- the triangles that turn into one another

turn_corners : (n : Node) (x : Triangle) (u : ℕ) → In x (turns_of (corners_of n)) → In u (corners (triangle n.a n.b n.c)) → In u (corners x)
turn_corners n x u (inl q) i = subst (λ y. In u (corners y)) (sym q) i
turn_corners n x u (inr (inl q)) (inl e) = subst (λ y. In u (corners y)) (sym q) (inr (inr (inl e)))
turn_corners n x u (inr (inl q)) (inr (inl e)) = subst (λ y. In u (corners y)) (sym q) (inl e)
turn_corners n x u (inr (inl q)) (inr (inr (inl e))) = subst (λ y. In u (corners y)) (sym q) (inr (inl e))
turn_corners n x u (inr (inl q)) (inr (inr (inr z))) = absurd z
turn_corners n x u (inr (inr (inl q))) (inl e) = subst (λ y. In u (corners y)) (sym q) (inr (inl e))
turn_corners n x u (inr (inr (inl q))) (inr (inl e)) = subst (λ y. In u (corners y)) (sym q) (inr (inr (inl e)))
turn_corners n x u (inr (inr (inl q))) (inr (inr (inl e))) = subst (λ y. In u (corners y)) (sym q) (inl e)
turn_corners n x u (inr (inr (inl q))) (inr (inr (inr z))) = absurd z
turn_corners n x u (inr (inr (inr z))) i = absurd z

first_corner : (n : Node) (x : Triangle) → In x (turns_of (corners_of n)) → In x.a (corners (triangle n.a n.b n.c))
first_corner n x (inl q) = inl (ap (λ (y : Triangle). y.a) q)
first_corner n x (inr (inl q)) = inr (inl (ap (λ (y : Triangle). y.a) q))
first_corner n x (inr (inr (inl q))) = inr (inr (inl (ap (λ (y : Triangle). y.a) q)))
first_corner n x (inr (inr (inr z))) = absurd z

second_corner : (n : Node) (x : Triangle) → In x (turns_of (corners_of n)) → In x.b (corners (triangle n.a n.b n.c))
second_corner n x (inl q) = inr (inl (ap (λ (y : Triangle). y.b) q))
second_corner n x (inr (inl q)) = inr (inr (inl (ap (λ (y : Triangle). y.b) q)))
second_corner n x (inr (inr (inl q))) = inl (ap (λ (y : Triangle). y.b) q)
second_corner n x (inr (inr (inr z))) = absurd z

turn_same : (at : ℕ → GridPoint) (n : Node) (x : Triangle) → In x (turns_of (corners_of n)) → Same at (triangle n.a n.b n.c) x
turn_same at n x (inl q) = subst (Same at (triangle n.a n.b n.c)) (sym q) (same at (triangle n.a n.b n.c))
turn_same at n x (inr (inl q)) =
    let t = triangle n.a n.b n.c in
    subst (Same at t) (sym q) (same_next at t t (same at t))
turn_same at n x (inr (inr (inl q))) =
    let t = triangle n.a n.b n.c in
    subst (Same at t) (sym q) (same_next at t (triangle n.b n.c n.a) (same_next at t t (same at t)))
turn_same at n x (inr (inr (inr z))) = absurd z

-- ---- nodes of a list

module _ (nodes : List Node) (v k : ℕ) where
  turned_in : (b : Bool) → nat_lt k (length nodes) ≡ b → (t : Turned) → option_and_then (turned v k) (cond b (Some (corners_of (node_at nodes k))) None) ≡ Some t
      → (k < length nodes) × In (triangle v t.next t.last) (turns_of (corners_of (node_at nodes k)))
  turned_in true h t e = (ltb-true _ _ h, turned_is_node v k (corners_of (node_at nodes k)) t e)
  turned_in false h t e = absurd (none-some t e)

  module _ (t : Turned) (h : turned_at nodes v k ≡ Some t) where
    pub turned_below : k < length nodes
    turned_below = (turned_in (nat_lt k (length nodes)) refl t h).0

    abbrev is_turn : In (triangle v t.next t.last) (turns_of (corners_of (node_at nodes k)))
    is_turn = (turned_in (nat_lt k (length nodes)) refl t h).1

    pub turned_same : (at : ℕ → GridPoint) → Same at (triangle_of nodes k) (triangle v t.next t.last)
    turned_same at = turn_same at (node_at nodes k) (triangle v t.next t.last) is_turn

    pub turned_next : In t.next (corners (triangle_of nodes k))
    turned_next = second_corner (node_at nodes k) (triangle v t.next t.last) is_turn

    -- each of its corners is v, or one of the two others
    pub turned_corner : (u : ℕ) → In u (corners (triangle_of nodes k)) → (u ≡ v) ⊎ ((u ≡ t.next) ⊎ (u ≡ t.last))
    turned_corner u i = go (turn_corners (node_at nodes k) (triangle v t.next t.last) u is_turn i)
      where
        go : In u (corners (triangle v t.next t.last)) → (u ≡ v) ⊎ ((u ≡ t.next) ⊎ (u ≡ t.last))
        go (inl e) = inl e
        go (inr (inl e)) = inr (inl e)
        go (inr (inr (inl e))) = inr (inr e)
        go (inr (inr (inr n))) = absurd n

  pub some_turn : (o : Option Turned) → is_some o ≡ true → (t : Turned) × (o ≡ Some t)
  some_turn (Some t) h = (t, refl)
  some_turn None h = absurd (true≢false (sym h))

  -- it turns exactly where v is a corner
  pub turn_has : is_some (turned_at nodes v k) ≡ true → In v (corners (triangle_of nodes k))
  turn_has h =
      let t = some_turn (turned_at nodes v k) h in
      first_corner (node_at nodes k) (triangle v t.0.next t.0.last) (turned_in (nat_lt k (length nodes)) refl t.0 t.1).1

  one_turns : (b c d : Bool) (t u w : Turned) → (b ≡ true) ⊎ ((c ≡ true) ⊎ (d ≡ true)) → is_some (cond b (Some t) (cond c (Some u) (cond d (Some w) None))) ≡ true
  one_turns true c d t u w h = refl
  one_turns false true d t u w h = refl
  one_turns false false true t u w h = refl
  one_turns false false false t u w (inl h) = h
  one_turns false false false t u w (inr (inl h)) = h
  one_turns false false false t u w (inr (inr h)) = h

  pub has_turn : k < length nodes → In v (corners (triangle_of nodes k)) → is_some (turned_at nodes v k) ≡ true
  has_turn l i =
      let n = node_at nodes k in
      ap (λ b. is_some (option_and_then (turned v k) (cond b (Some (corners_of n)) None))) (lt-ltb _ _ l)
      ∙ one_turns (n.a == v) (n.b == v) (n.c == v) (turn k n.b n.c) (turn k n.c n.a) (turn k n.a n.b) (go i)
    where
      go : In v (corners (triangle_of nodes k))
          → (((node_at nodes k).a == v) ≡ true) ⊎ ((((node_at nodes k).b == v) ≡ true) ⊎ (((node_at nodes k).c == v) ≡ true))
      go (inl e) = inl (eq-eqb _ _ (sym e))
      go (inr (inl e)) = inr (inl (eq-eqb _ _ (sym e)))
      go (inr (inr (inl e))) = inr (inr (eq-eqb _ _ (sym e)))
      go (inr (inr (inr n))) = absurd n
