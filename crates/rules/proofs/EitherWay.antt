-- A clash holds either way round.
use Rattle.std.proofs.Common.{◌≡◌, ℕ, eqb, ◌&&◌, sym, ◌∙◌}
use Rattle.std.proofs.lemmas.Bool.{eq-eqb, eqb-true}
use Rattle.plane.specs.Points.{place_of}
use Rattle.rules.specs.EitherWay.{ClashesEitherWay, TouchTells}
use Rattle.rules.proofs.Boxes.{same_tests}
use Rattle.rules.proofs.Listing.{touch_by_box}
use Rattle.rules.proofs.Touching.{touch_swap, touch_touching, touching_touch}

equal_swap : (u v : ℕ) → eqb u v ≡ eqb v u
equal_swap u v = same_tests (eqb u v) (eqb v u) (λ t. eq-eqb v u (sym (eqb-true u v t))) (λ t. eq-eqb u v (sym (eqb-true v u t)))

both_swap : (u v x y : ℕ) → (eqb u v && eqb x y) ≡ (eqb v u && eqb y x)
both_swap u v x y = λ i. equal_swap u v i && equal_swap x y i

pub clashes_either_way : ClashesEitherWay
clashes_either_way =
    record {
      points = λ a b. both_swap a.x b.x a.y b.y;
      edges = λ e f. both_swap e.from f.from e.to f.to;
      drawn = λ at e f. touch_swap at e f;
      strokes = λ ps e f. sym (touch_by_box ps e f) ∙ touch_swap (place_of ps) e f ∙ touch_by_box ps f e;
    }

pub touch_tells : TouchTells
touch_tells at e f = (touch_touching at e f, touching_touch at e f)
