-- The steps of a walk down, one after another.
use Rattle.std.proofs.Common.{◌≡◌, ◌≢◌, ℕ, suc, ◌+◌, ◌-◌, ◌<◌, ◌≤◌, ◌==◌, true, false, List, None, Some, Ok, Err, Option, Result, take, nat_le, sym, ap, ◌∙◌, arith}
use Rattle.std.proofs.lemmas.Bool.{cond-false, cond-true}
use Rattle.std.proofs.lemmas.Bool.Decides.{nat_tests}
use Rattle.plane.specs.declared.Point.{Point}
use Rattle.plane.specs.Points.{Spot}
use Rattle.nodes.specs.declared.node.Node.{Node}
use Rattle.nodes.specs.Nodes.{number_in}
use Rattle.walk.specs.declared.steps.Walked.{Walked}
use Rattle.walk.specs.Walks.{children_of, down_from, first_child, go_down, node_at, walk_on, walked}

module _ (at : (node v : ℕ) → Result Point ℕ) (tip : Option Spot) (nodes : List Node) (total i k tests count : ℕ) (more : i < total) (is : count ≡ number_in nodes k 5) where
  -- a bottom node ends it
  pub down_ends : count ≡ 0 → down_from at tip nodes (total - i) k tests ≡ Ok (walked (Some k) tests)
  unfolding down_from
  down_ends none =
      let n : total - i ≡ suc (total - (i + 1)) = omega (arith, more) in
      ap (λ n. down_from at tip nodes n k tests) n ∙ cond-true _ _ _ (same (node_at nodes k).count is none)
    where
      same : (c : ℕ) → count ≡ c → count ≡ 0 → (c == 0) ≡ true
      same c e s = grind (arith, nat_tests)

module _ (at : (node v : ℕ) → Result Point ℕ) (tip : Option Spot) (nodes : List Node) (total i k tests count : ℕ) (more : i < total) (is : count ≡ number_in nodes k 5)
    (some : count ≢ 0) (few : count ≤ 8) (found : Result Walked ℕ) (held : found ≡ first_child at tip nodes k (take count (children_of nodes k)) tests) where
  step : down_from at tip nodes (total - i) k tests ≡ walk_on found (λ w. go_down at tip nodes k (down_from at tip nodes (total - (i + 1))) w.node w.tests)
  unfolding down_from
  step =
      let n : total - i ≡ suc (total - (i + 1)) = omega (arith, more) in
      ap (λ n. down_from at tip nodes n k tests) n
      ∙ cond-false _ _ _ (other (node_at nodes k).count is some)
      ∙ cond-true _ _ _ (within (node_at nodes k).count is few)
      ∙ ap (λ r. walk_on r (λ (w : Walked). go_down at tip nodes k (down_from at tip nodes (total - (i + 1))) w.node w.tests))
      (ap (λ c. first_child at tip nodes k (take c (children_of nodes k)) tests) (sym is) ∙ sym held)
    where
      other : (c : ℕ) → count ≡ c → count ≢ 0 → (c == 0) ≡ false
      other c e s = grind (arith, nat_tests)

      within : (c : ℕ) → count ≡ c → count ≤ 8 → nat_le c 8 ≡ true
      within c e f = grind (arith, nat_tests)

  -- what is refused, what is lost, and what goes on
  pub down_refused : (e : ℕ) → found ≡ Err e → down_from at tip nodes (total - i) k tests ≡ Err e
  down_refused e h = step ∙ ap (λ r. walk_on r (λ (w : Walked). go_down at tip nodes k (down_from at tip nodes (total - (i + 1))) w.node w.tests)) h

  pub down_lost : (w : Walked) → found ≡ Ok w → w.node ≡ None → down_from at tip nodes (total - i) k tests ≡ Err k
  down_lost w h n =
      step ∙ ap (λ r. walk_on r (λ (w : Walked). go_down at tip nodes k (down_from at tip nodes (total - (i + 1))) w.node w.tests)) h
      ∙ ap (λ o. go_down at tip nodes k (down_from at tip nodes (total - (i + 1))) o w.tests) n

  pub down_goes : (w : Walked) (c : ℕ) → found ≡ Ok w → w.node ≡ Some c
      → down_from at tip nodes (total - i) k tests ≡ down_from at tip nodes (total - (i + 1)) c w.tests
  down_goes w c h n =
      step ∙ ap (λ r. walk_on r (λ (w : Walked). go_down at tip nodes k (down_from at tip nodes (total - (i + 1))) w.node w.tests)) h
      ∙ ap (λ o. go_down at tip nodes k (down_from at tip nodes (total - (i + 1))) o w.tests) n
