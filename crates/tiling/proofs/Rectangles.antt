-- The border of a sheet: what it counts, and on which side of it points and vertices are.
use Rattle.std.proofs.Common.{◌≡◌, ◌⊎◌, List, [], ◌∷◌, ℤ, pos, ◌+ℤ◌, ◌-ℤ◌, ◌*ℤ◌, ◌≤ℤ◌, ◌<ℤ◌, sym, refl, ap, ◌∙◌, subst, inl, inr}
use Rattle.std.proofs.lemmas.Int.{by_lt_z}
use Rattle.plane.specs.Crossings.{crossing, crossing_sum, passing}
use Rattle.plane.specs.Points.{Spot, det}
use Rattle.plane.proofs.Passings.{falls, rises, stays_high, stays_low}
use Rattle.plane.proofs.Ring.{lit, ◌⊖◌, ◌⊗◌, ring, same?}
use Rattle.plane.proofs.Signs.{lin, swapped, times-++, times-+-, times-<>, times->>}
use Rattle.plane.proofs.Symbols.{GridPointˢ, aˢ, detˢ, pˢ, variables}
use Rattle.tiling.specs.Lemmas.{RectangleCounts}
use Rattle.tiling.specs.Order.{grid}

-- ---- the four sides

module _ (width height : ℤ) (p : Spot) where
  values : List ℤ
  values = variables (grid width height) (grid width height) (grid width height) p p (pos 0) (pos 0)

  corner_0ˢ : GridPointˢ
  corner_0ˢ = record { x = lit (pos 0); y = lit (pos 0) }

  corner_1ˢ : GridPointˢ
  corner_1ˢ = record { x = aˢ.x; y = lit (pos 0) }

  corner_3ˢ : GridPointˢ
  corner_3ˢ = record { x = lit (pos 0); y = aˢ.y }

  pub bottom : det (grid (pos 0) (pos 0)) (grid width (pos 0)) p ≡ width *ℤ p.Y
  unfolding det same? values corner_0ˢ corner_1ˢ
  bottom = ring values (detˢ corner_0ˢ corner_1ˢ pˢ) (aˢ.x ⊗ pˢ.Y) tt

  pub right : det (grid width (pos 0)) (grid width height) p ≡ height *ℤ (width *ℤ p.Z -ℤ p.X)
  unfolding det same? values corner_1ˢ
  right = ring values (detˢ corner_1ˢ aˢ pˢ) (aˢ.y ⊗ (aˢ.x ⊗ pˢ.Z ⊖ pˢ.X)) tt

  pub top : det (grid width height) (grid (pos 0) height) p ≡ width *ℤ (height *ℤ p.Z -ℤ p.Y)
  unfolding det same? values corner_3ˢ
  top = ring values (detˢ aˢ corner_3ˢ pˢ) (aˢ.x ⊗ (aˢ.y ⊗ pˢ.Z ⊖ pˢ.Y)) tt

  pub left : det (grid (pos 0) height) (grid (pos 0) (pos 0)) p ≡ height *ℤ p.X
  unfolding det same? values corner_0ˢ corner_3ˢ
  left = ring values (detˢ corner_3ˢ corner_0ˢ pˢ) (aˢ.y ⊗ pˢ.X) tt

-- ---- what the border counts: the right side rises, the left one falls, and the others are level

level_none : (u y d : ℤ) → passing u u y d ≡ pos 0
level_none u y d = grind lin

-- the heights of the sides are 0 and v; d and e are the determinants of the right side and of the left one
module _ (width height x y z v d e : ℤ) (wide : pos 0 <ℤ (width *ℤ z)) (high : pos 0 <ℤ height) (top-is : v ≡ height *ℤ z) (tall : pos 0 <ℤ v)
    (d-is : d ≡ height *ℤ (width *ℤ z -ℤ x)) (e-is : e ≡ height *ℤ x) where
  abbrev counted : ℤ
  counted = passing (pos 0) v y d +ℤ passing v (pos 0) y e

  record Framed : Type 0 where
    bit : (counted ≡ pos 0) ⊎ (counted ≡ pos 1)
    inside : pos 0 <ℤ x → x <ℤ (width *ℤ z) → pos 0 <ℤ y → y <ℤ (height *ℤ z) → counted ≡ pos 1

  none : counted ≡ pos 0 → (pos 0 <ℤ x → x <ℤ (width *ℤ z) → pos 0 <ℤ y → y <ℤ v → ⊥) → Framed
  none q n = record { bit = inl q; inside = λ i j k l. absurd (n i j k (omega lin)) }

  zeros : {a b : ℤ} → a ≡ pos 0 → b ≡ pos 0 → a +ℤ b ≡ pos 0
  zeros i j = omega lin

  beside : pos 0 ≤ℤ y → y <ℤ v → Framed
  beside k l =
      let r = rises (pos 0) v y d k l in
      let f = falls v (pos 0) y e l k in
      by_lt_z x (pos 0)
      (λ (i : x <ℤ pos 0).
      let m = times->> height (width *ℤ z -ℤ x) high (omega lin) in
      let n = times-<> x height i high in
      let s = swapped height x in
      none (grind lin) (λ a _ _ _. omega lin))
      (λ (i : pos 0 ≤ℤ x).
      let n = times-++ height x (omega lin) i in
      by_lt_z x (width *ℤ z)
      (λ (j : x <ℤ (width *ℤ z)).
      let m = times->> height (width *ℤ z -ℤ x) high (omega lin) in
      let q : counted ≡ pos 1 = grind lin in
      record { bit = inr q; inside = λ _ _ _ _. q })
      (λ (j : (width *ℤ z) ≤ℤ x).
      let m = times-+- height (width *ℤ z -ℤ x) (omega lin) (omega lin) in
      none (grind lin) (λ _ a _ _. omega lin)))

  framed : Framed
  framed =
      by_lt_z y (pos 0)
      (λ (k : y <ℤ pos 0). none (zeros (stays_high (pos 0) v y d k (omega lin)) (stays_high v (pos 0) y e (omega lin) k)) (λ _ _ a _. omega lin))
      (λ (k : pos 0 ≤ℤ y). by_lt_z y v
      (λ (l : y <ℤ v). beside k l)
      (λ (l : v ≤ℤ y). none (zeros (stays_low (pos 0) v y d k l) (stays_low v (pos 0) y e l k)) (λ _ _ _ a. omega lin)))

zero_times : (z : ℤ) → pos 0 *ℤ z ≡ pos 0
zero_times z = omega lin

pub rectangle_counts : RectangleCounts
unfolding crossing
rectangle_counts at width height wide high c₀ c₁ c₂ c₃ p scaled =
    record {
      bit = subst (λ (w : ℤ). (w ≡ pos 0) ⊎ (w ≡ pos 1)) (sym value) f.bit;
      inside = λ i j k l. value ∙ f.inside i j k l;
    }
  where
    z : ℤ
    z = p.Z

    d : ℤ
    d = det (grid width (pos 0)) (grid width height) p

    e : ℤ
    e = det (grid (pos 0) height) (grid (pos 0) (pos 0)) p

    f : Framed width height p.X p.Y z (height *ℤ z) d e (times->> width z wide scaled) high refl (times->> height z high scaled) (right width height p) (left width height p)
    f = framed width height p.X p.Y z (height *ℤ z) d e (times->> width z wide scaled) high refl (times->> height z high scaled) (right width height p) (left width height p)

    add : (s t u v : ℤ) {t' v' : ℤ} → s ≡ pos 0 → u ≡ pos 0 → t ≡ t' → v ≡ v' → s +ℤ (t +ℤ (u +ℤ (v +ℤ pos 0))) ≡ t' +ℤ v'
    add s t u v i j k l = omega lin

    value : crossing_sum at (0 ∷ 1 ∷ 2 ∷ 3 ∷ []) p ≡ passing (pos 0) (height *ℤ z) p.Y d +ℤ passing (height *ℤ z) (pos 0) p.Y e
    value =
        rw (c₀, c₁, c₂, c₃)
        (add _ _ _ _ (level_none (pos 0 *ℤ z) p.Y (det (grid (pos 0) (pos 0)) (grid width (pos 0)) p))
        (level_none (height *ℤ z) p.Y (det (grid width height) (grid (pos 0) height) p))
        (ap (λ u. passing u (height *ℤ z) p.Y d) (zero_times z)) (ap (λ u. passing (height *ℤ z) u p.Y e) (zero_times z)))
