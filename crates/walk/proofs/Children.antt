-- The children of a node, as a walk reads them.
use Rattle.std.proofs.Common.{◌≡◌, ℕ, zero, suc, ◌+◌, ◌<◌, ◌≤◌, List, map, take, slice_index, sym, ap, ◌∙◌, subst, inl, inr, arith}
use Rattle.std.specs.List.{range_with_len}
use Rattle.plane.specs.Edges.{In}
use Rattle.nodes.specs.declared.node.Node.{Node}
use Rattle.nodes.specs.Nodes.{number_in, numbers}
use Rattle.hierarchy.specs.Layers.{child, node_at}
use Rattle.walk.specs.Walks.{children_of}

-- the first m of n numbers that are made from a on
module _ (f : ℕ → ℕ) where
  made_in : (a n m i : ℕ) → m ≤ n → i < m → In (f (a + i)) (take m (map f (range_with_len a n)))
  made_in a zero m i h l = absurd (omega (arith, h, l))
  made_in a (suc n) zero i h l = absurd (omega (arith, l))
  made_in a (suc n) (suc m) zero h l = let e : a + 0 ≡ a = omega arith in inl (ap f e)
  made_in a (suc n) (suc m) (suc i) h l =
      let e : a + suc i ≡ a + 1 + i = omega arith in
      inr (subst (λ k. In (f k) (take m (map f (range_with_len (a + 1) n)))) (sym e) (made_in (a + 1) n m i (omega (arith, h)) (omega (arith, l))))

  in_made : (a n m x : ℕ) → In x (take m (map f (range_with_len a n))) → (i : ℕ) × (i < m) × (x ≡ f (a + i))
  in_made a zero zero x h = absurd h
  in_made a zero (suc m) x h = absurd h
  in_made a (suc n) zero x h = absurd h
  in_made a (suc n) (suc m) x (inl e) = let z : a ≡ a + 0 = omega arith in (0, omega arith, e ∙ ap f z)
  in_made a (suc n) (suc m) x (inr h) =
      let r = in_made (a + 1) n m x h in
      let e : a + 1 + r.0 ≡ a + suc r.0 = omega arith in
      let l = r.1 in
      (suc r.0, omega (arith, l), r.2 ∙ ap f e)

behind_six : (n : Node) (i : ℕ) → slice_index (numbers n) (6 + i) ≡ child n i
behind_six n i = let e : 6 + i ≡ suc (suc (suc (suc (suc (suc i))))) = omega arith in ap (slice_index (numbers n)) e

-- each of them is one of the node's children, and each child in use is one of them
pub child_in : (nodes : List Node) (k m i : ℕ) → m ≤ 8 → i < m → In (child (node_at nodes k) i) (take m (children_of nodes k))
child_in nodes k m i h l = subst (λ c. In c (take m (children_of nodes k))) (behind_six (node_at nodes k) i) (made_in (number_in nodes k) 6 8 m i h l)

pub in_children : (nodes : List Node) (k m x : ℕ) → In x (take m (children_of nodes k)) → (i : ℕ) × (i < m) × (x ≡ child (node_at nodes k) i)
in_children nodes k m x h =
    let r = in_made (number_in nodes k) 6 8 m x h in
    (r.0, r.1, r.2 ∙ behind_six (node_at nodes k) r.0)
