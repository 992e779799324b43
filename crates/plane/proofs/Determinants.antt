-- The identities of the determinant, each by one computation.
use Rattle.std.proofs.Common.{◌≡◌, ℤ, pos, negsuc, zero, suc, ◌+ℤ◌, ◌-ℤ◌, ◌*ℤ◌, neg_ℤ, int_lt, Some, ap, sym, refl, ◌∙◌, arith}
use Rattle.std.proofs.lemmas.Bool.Decides.{nat_tests}
use Rattle.plane.specs.Kernels.{is_right, test_of, triangle_said}
use Rattle.plane.specs.declared.Point.{Point}
use Rattle.plane.specs.Identities.{Identities, blend, height, width}
use Rattle.plane.specs.Points.{GridPoint, Spot, along, area, det, grid_point, side_of, spot_at}
use Rattle.plane.proofs.Ring.{lit, ◌⊕◌, ◌⊖◌, ◌⊗◌, minus, ring, same?}
use Rattle.plane.proofs.Symbols.{aˢ, alongˢ, areaˢ, bˢ, blendˢ, cˢ, detˢ, gˢ, heightˢ, pˢ, uˢ, vˢ, variables, widthˢ}

module _ (a b c : GridPoint) (p g : Spot) (u v : ℤ) where
  turned : det a b p ≡ neg_ℤ (det b a p)
  unfolding det same?
  turned = ring (variables a b c p g u v) (detˢ aˢ bˢ pˢ) (minus (detˢ bˢ aˢ pˢ)) tt

  sides : det a b p +ℤ det b c p +ℤ det c a p ≡ p.Z *ℤ area a b c
  unfolding det same?
  sides = ring (variables a b c p g u v) (detˢ aˢ bˢ pˢ ⊕ detˢ bˢ cˢ pˢ ⊕ detˢ cˢ aˢ pˢ) (pˢ.Z ⊗ areaˢ aˢ bˢ cˢ) tt

  balance : along u v a p *ℤ det b c p +ℤ along u v b p *ℤ det c a p +ℤ along u v c p *ℤ det a b p ≡ pos 0
  unfolding along det same?
  balance =
      ring (variables a b c p g u v)
      (alongˢ uˢ vˢ aˢ pˢ ⊗ detˢ bˢ cˢ pˢ ⊕ alongˢ uˢ vˢ bˢ pˢ ⊗ detˢ cˢ aˢ pˢ ⊕ alongˢ uˢ vˢ cˢ pˢ ⊗ detˢ aˢ bˢ pˢ) (lit (pos 0)) tt

  pub along_height : along (pos 0) (pos 1) a p ≡ height a p
  unfolding along same?
  along_height = ring (variables a b c p g u v) (alongˢ (lit (pos 0)) (lit (pos 1)) aˢ pˢ) (heightˢ aˢ pˢ) tt

  pub along_width : along (pos 1) (pos 0) a p ≡ width a p
  unfolding along same?
  along_width = ring (variables a b c p g u v) (alongˢ (lit (pos 1)) (lit (pos 0)) aˢ pˢ) (widthˢ aˢ pˢ) tt

  linear : det a b (blend u p g) ≡ u *ℤ det a b p +ℤ det a b g
  unfolding blend det same?
  linear = ring (variables a b c p g u v) (detˢ aˢ bˢ (blendˢ uˢ pˢ gˢ)) (uˢ ⊗ detˢ aˢ bˢ pˢ ⊕ detˢ aˢ bˢ gˢ) tt

  joined : p.Z *ℤ det a b p ≡ height b p *ℤ width a p -ℤ height a p *ℤ width b p
  unfolding det same?
  joined = ring (variables a b c p g u v) (pˢ.Z ⊗ detˢ aˢ bˢ pˢ) (heightˢ bˢ pˢ ⊗ widthˢ aˢ pˢ ⊖ heightˢ aˢ pˢ ⊗ widthˢ bˢ pˢ) tt

from_differences : (a b c : GridPoint) → (a.x -ℤ c.x) *ℤ (b.y -ℤ c.y) -ℤ (a.y -ℤ c.y) *ℤ (b.x -ℤ c.x) ≡ area a b c
unfolding det same?
from_differences a b c =
    let z = pos 0 in
    ring (variables a b c (spot_at c) (spot_at c) z z) ((aˢ.x ⊖ cˢ.x) ⊗ (bˢ.y ⊖ cˢ.y) ⊖ (aˢ.y ⊖ cˢ.y) ⊗ (bˢ.x ⊖ cˢ.x)) (areaˢ aˢ bˢ cˢ) tt

-- so the side is told by how far a and b are from the point
pub whole_sided : (at a b : Point) (d : ℤ) → d ≡ (pos a.x -ℤ pos at.x) *ℤ (pos b.y -ℤ pos at.y) -ℤ (pos a.y -ℤ pos at.y) *ℤ (pos b.x -ℤ pos at.x)
    → side_of d ≡ side_of (area (grid_point a) (grid_point b) (grid_point at))
whole_sided at a b d h = ap side_of (h ∙ from_differences (grid_point a) (grid_point b) (grid_point at))

-- the third side of a triangle by the other two and the area
pub rest_is_det : (a b c : GridPoint) (p : Spot)
    → p.Z *ℤ ((b.x -ℤ a.x) *ℤ (c.y -ℤ a.y) -ℤ (b.y -ℤ a.y) *ℤ (c.x -ℤ a.x)) -ℤ det a b p -ℤ neg_ℤ (det a c p) ≡ det b c p
unfolding det same?
rest_is_det a b c p =
    let z = pos 0 in
    ring (variables a b c p p z z)
    (pˢ.Z ⊗ ((bˢ.x ⊖ aˢ.x) ⊗ (cˢ.y ⊖ aˢ.y) ⊖ (bˢ.y ⊖ aˢ.y) ⊗ (cˢ.x ⊖ aˢ.x)) ⊖ detˢ aˢ bˢ pˢ ⊖ minus (detˢ aˢ cˢ pˢ)) (detˢ bˢ cˢ pˢ) tt

right_of : (d : ℤ) → int_lt d (pos 0) ≡ is_right (side_of d)
right_of (pos zero) = refl
right_of (pos (suc n)) = grind (arith, nat_tests)
right_of (negsuc n) = refl

-- what two determinants and the area tell of the sides of a triangle
pub triangle_sided : (a b c : Point) (p : Spot) (d e f w m : ℤ) → d ≡ det (grid_point a) (grid_point b) p → f ≡ neg_ℤ (det (grid_point a) (grid_point c) p)
    → w ≡ (pos b.x -ℤ pos a.x) *ℤ (pos c.y -ℤ pos a.y) -ℤ (pos b.y -ℤ pos a.y) *ℤ (pos c.x -ℤ pos a.x) → m ≡ p.Z *ℤ w → e ≡ m -ℤ d -ℤ f
    → test_of (int_lt d (pos 0)) (int_lt e (pos 0)) (int_lt f (pos 0)) ≡ triangle_said (Some p) a b c
triangle_sided a b c p d e f w m h k q r l =
    let A = grid_point a in
    let B = grid_point b in
    let C = grid_point c in
    let ab : int_lt d (pos 0) ≡ is_right (side_of (det A B p)) = ap (λ x. int_lt x (pos 0)) h ∙ right_of (det A B p) in
    let e-is : e ≡ det B C p = l ∙ (λ i. (r ∙ ap (λ x. p.Z *ℤ x) q) i -ℤ h i -ℤ k i) ∙ rest_is_det A B C p in
    let bc : int_lt e (pos 0) ≡ is_right (side_of (det B C p)) = ap (λ x. int_lt x (pos 0)) e-is ∙ right_of (det B C p) in
    let ca : int_lt f (pos 0) ≡ is_right (side_of (det C A p)) = ap (λ x. int_lt x (pos 0)) (k ∙ sym (turned C A A p p (pos 0) (pos 0))) ∙ right_of (det C A p) in
    λ i. test_of (ab i) (bc i) (ca i)

-- the same of a whole point, by how far the corners are from it
pub whole_triangle_sided : (at a b c : Point) (d e f : ℤ)
    → d ≡ (pos a.x -ℤ pos at.x) *ℤ (pos b.y -ℤ pos at.y) -ℤ (pos a.y -ℤ pos at.y) *ℤ (pos b.x -ℤ pos at.x)
    → e ≡ (pos b.x -ℤ pos at.x) *ℤ (pos c.y -ℤ pos at.y) -ℤ (pos b.y -ℤ pos at.y) *ℤ (pos c.x -ℤ pos at.x)
    → f ≡ (pos c.x -ℤ pos at.x) *ℤ (pos a.y -ℤ pos at.y) -ℤ (pos c.y -ℤ pos at.y) *ℤ (pos a.x -ℤ pos at.x)
    → test_of (int_lt d (pos 0)) (int_lt e (pos 0)) (int_lt f (pos 0)) ≡ triangle_said (Some (spot_at (grid_point at))) a b c
whole_triangle_sided at a b c d e f h k l =
    let A = grid_point a in
    let B = grid_point b in
    let C = grid_point c in
    let p = spot_at (grid_point at) in
    let ab : int_lt d (pos 0) ≡ is_right (side_of (det A B p)) = ap (λ x. int_lt x (pos 0)) (h ∙ from_differences A B (grid_point at)) ∙ right_of (det A B p) in
    let bc : int_lt e (pos 0) ≡ is_right (side_of (det B C p)) = ap (λ x. int_lt x (pos 0)) (k ∙ from_differences B C (grid_point at)) ∙ right_of (det B C p) in
    let ca : int_lt f (pos 0) ≡ is_right (side_of (det C A p)) = ap (λ x. int_lt x (pos 0)) (l ∙ from_differences C A (grid_point at)) ∙ right_of (det C A p) in
    λ i. test_of (ab i) (bc i) (ca i)

pub identities : Identities
identities =
    record {
      turned = λ a b p. turned a b a p p (pos 0) (pos 0);
      sides = λ a b c p. sides a b c p p (pos 0) (pos 0);
      balance = λ u v a b c p. balance a b c p p u v;
      heights = λ a b c p.
          rw (← along_height a a a p p (pos 0) (pos 0), ← along_height b b b p p (pos 0) (pos 0), ← along_height c c c p p (pos 0) (pos 0))
          (balance a b c p p (pos 0) (pos 1));
      linear = λ a b m p g. linear a b a p g m m;
      joined = λ a b p. joined a b a p p (pos 0) (pos 0);
    }
