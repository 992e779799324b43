-- The corners of a node, all of them known or not.
use Rattle.std.proofs.Common.{◌≡◌, ℕ, true, List, Some, None, Option, Ok, Err, Result, sym, ap, ◌∙◌}
use Rattle.std.proofs.lemmas.Bool.{cond-true}
use Rattle.std.specs.Option.{ok_or}
use Rattle.std.specs.Result.{result_ok}
use Rattle.plane.specs.declared.Point.{Point}
use Rattle.plane.specs.Points.{Spot}
use Rattle.nodes.specs.declared.node.Node.{Node}
use Rattle.sheet.specs.declared.answer.Answer.{Answer}
use Rattle.walk.specs.declared.view.Places.{Places}
use Rattle.walk.specs.Walks.{found, is_bottom_node, node_at, places_of, told_at, told_node, walk_on}

-- what follows where something is known, and where it is not
pub known : {X Y : Type 0} (o : Option X) (x : X) (e : ℕ) (rest : X → Result Y ℕ) → o ≡ Some x → result_ok (walk_on (ok_or o e) rest) ≡ result_ok (rest x)
known o x e rest h = ap (λ o. result_ok (walk_on (ok_or o e) rest)) h

pub unknown : {X Y : Type 0} (o : Option X) (e : ℕ) (rest : X → Result Y ℕ) → o ≡ None → walk_on (ok_or o e) rest ≡ Err e
unknown o e rest h = ap (λ o. walk_on (ok_or o e) rest) h

pub ok_is : {X : Type 0} (r : Result X ℕ) (x : X) → result_ok r ≡ Some x → r ≡ Ok x
ok_is (Ok y) x h = cc
ok_is (Err e) x h = cc

pub ruleset known_places = (known, unknown)

pub ruleset tested_places = (ok_is)

-- so what a bottom node tells
pub told_is : (at : (node v : ℕ) → Result Point ℕ) (tip : Option Spot) (nodes : List Node) (loops : ℕ) (o : Option ℕ) (k tests : ℕ) (p : Places) (a : Answer)
    → o ≡ Some k → is_bottom_node loops (node_at nodes k) ≡ true → places_of at nodes k ≡ Ok p → a ≡ told_node tip p (node_at nodes k)
    → Ok (found a tests) ≡ told_at at tip nodes loops o tests
told_is at tip nodes loops o k tests p a is right there said =
    sym (ap (λ o. told_at at tip nodes loops o tests) is
    ∙ cond-true _ _ (Err k) right
    ∙ ap (λ r. walk_on r (λ (q : Places). Ok (found (told_node tip q (node_at nodes k)) tests))) there
    ∙ ap (λ a. Ok (found a tests)) (sym said))
