-- Which sides have a point on their right, by their determinants.
use Rattle.std.proofs.Common.{◌≡◌, ℕ, ◌≤◌, Bool, true, false, not, ◌&&◌, List, ℤ, pos, negsuc, zero, suc, int_le, Some, refl, sym, ◌∙◌, arith}
use Rattle.std.proofs.lemmas.Bool.Decides.{nat_tests}
use Rattle.plane.specs.declared.Point.{Point}
use Rattle.plane.specs.Kernels.{is_right, test_of, triangle_said}
use Rattle.plane.specs.Points.{Spot, det, place_of, side_of, vertex_of}
use Rattle.tiling.specs.Triangles.{closed_holds, triangle}

right_by_sign : (d : ℤ) → int_le (pos 0) d ≡ not (is_right (side_of d))
right_by_sign (pos zero) = refl
right_by_sign (pos (suc n)) = grind (arith, nat_tests)
right_by_sign (negsuc n) = refl

holds_where : (r₁ r₂ r₃ : Bool) → (test_of r₁ r₂ r₃).holds ≡ (not r₁ && (not r₂ && not r₃))
holds_where true r₂ r₃ = refl
holds_where false true r₃ = refl
holds_where false false true = refl
holds_where false false false = refl

pub at_most_three : (p q r : Bool) → (test_of p q r).tests ≤ 3
at_most_three true q r = omega arith
at_most_three false true r = omega arith
at_most_three false false true = omega arith
at_most_three false false false = omega arith

-- a triangle holds a point where none of its sides has it on its right
pub held_by_test : (points : List Point) (p : Spot) (a b c : ℕ)
    → (triangle_said (Some p) (vertex_of points a) (vertex_of points b) (vertex_of points c)).holds ≡ closed_holds (place_of points) (triangle a b c) p
held_by_test points p a b c =
    let at = place_of points in
    let ab = sym (right_by_sign (det (at a) (at b) p)) in
    let bc = sym (right_by_sign (det (at b) (at c) p)) in
    let ca = sym (right_by_sign (det (at c) (at a) p)) in
    holds_where (is_right (side_of (det (at a) (at b) p))) (is_right (side_of (det (at b) (at c) p))) (is_right (side_of (det (at c) (at a) p)))
    ∙ (λ i. ab i && (bc i && ca i))
