-- The sum of a fan: what its spokes give cancels.
use Rattle.std.proofs.Common.{◌≡◌, ℕ, List, [], ◌∷◌, ◌++◌, map, ℤ, ◌+ℤ◌, refl}
use Rattle.plane.specs.declared.Edge.{Edge}
use Rattle.plane.specs.Edges.{edge, links, sum_of}
use Rattle.plane.proofs.Signs.{lin}
use Rattle.tiling.specs.Lemmas.{FanSum, Odd}
use Rattle.tiling.specs.Triangles.{around, triangle}

-- over a path from u to z, the first spoke and the last are left
path_sum : (f : Edge → ℤ) → Odd f → (v u z : ℕ) (l : List ℕ)
    → sum_of (around f) (map (λ e. triangle v e.from e.to) (links (u ∷ l ++ z ∷ [])))
    ≡ sum_of f (links (u ∷ l ++ z ∷ [])) +ℤ (f (edge v u) +ℤ f (edge z v))
path_sum f odd v u z [] = omega lin
path_sum f odd v u z (w ∷ l) = let h = path_sum f odd v w z l in let k = odd (edge v w) in omega lin

-- in a ring they are one spoke, out and back
pub fan_sum : FanSum
fan_sum f odd v [] = refl
fan_sum f odd v (u ∷ l) = let h = path_sum f odd v u u l in let k = odd (edge v u) in omega lin
