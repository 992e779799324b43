-- Of two triangles on both sides of an edge, exactly one counts a point in the open edge: each of the four other sides has
-- the point on its left, so it counts where it rises past the point, and one of the four does.
use Rattle.std.proofs.Common.{◌≡◌, cond, ◌&&◌, ◌⊎◌, ℤ, pos, ◌+ℤ◌, ◌-ℤ◌, ◌*ℤ◌, ◌≤ℤ◌, ◌<ℤ◌, ◌∙◌, inl, inr}
use lib.Signed.{le_z, lt_z}
use Rattle.std.proofs.lemmas.Int.{by_lt_z}
use Rattle.plane.specs.Crossings.{crossing, passing}
use Rattle.plane.specs.Identities.{height}
use Rattle.plane.specs.Points.{GridPoint, Spot, area, det}
use Rattle.plane.proofs.Determinants.{identities}
use Rattle.plane.proofs.Ring.{◌⊖◌, ◌⊗◌, ring, same?}
use Rattle.plane.proofs.Signs.{lin, right_0, swapped, times-++, times-+-, times--+, times-<>, times->>, zero_left, zero_right}
use Rattle.plane.proofs.Symbols.{areaˢ, aˢ, bˢ, cˢ, pˢ, variables}
use Rattle.tiling.proofs.Segments.{Between, between_back, between_bc, between_ca}

-- 1 where an edge rises past the height y
abbrev rise : ℤ → ℤ → ℤ → ℤ
rise y from to = cond (le_z from y && lt_z y to) (pos 1) (pos 0)

left_rises : (from to y d : ℤ) → pos 0 <ℤ d → passing from to y d ≡ rise y from to
left_rises from to y d h = grind lin

on_none : (from to y d : ℤ) → d ≡ pos 0 → passing from to y d ≡ pos 0
on_none from to y d e = grind lin

-- the ring b, c, a, d rises past y once
module _ (a b c d y : ℤ) where
  abbrev rises : ℤ
  rises = rise y b c +ℤ rise y c a +ℤ (rise y a d +ℤ rise y d b)

  sloping : ((y <ℤ a) × (b ≤ℤ y)) ⊎ ((a ≤ℤ y) × (y <ℤ b)) → rises ≡ pos 1
  sloping (inl h) = let i = h.0 in let j = h.1 in grind lin
  sloping (inr h) = let i = h.0 in let j = h.1 in grind lin

  level : a ≡ y → b ≡ y → ((y <ℤ c) × (d ≤ℤ y)) ⊎ ((c ≤ℤ y) × (y <ℤ d)) → rises ≡ pos 1
  level e f (inl h) = let i = h.0 in let j = h.1 in grind lin
  level e f (inr h) = let i = h.0 in let j = h.1 in grind lin

-- the area by heights
area_heights : (a b c : GridPoint) (p : Spot)
    → p.Z *ℤ area a b c ≡ (b.x -ℤ a.x) *ℤ (c.y *ℤ p.Z -ℤ a.y *ℤ p.Z) -ℤ (b.y *ℤ p.Z -ℤ a.y *ℤ p.Z) *ℤ (c.x -ℤ a.x)
unfolding det same?
area_heights a b c p =
    ring (variables a b c p p (pos 0) (pos 0)) (pˢ.Z ⊗ areaˢ aˢ bˢ cˢ)
    ((bˢ.x ⊖ aˢ.x) ⊗ (cˢ.y ⊗ pˢ.Z ⊖ aˢ.y ⊗ pˢ.Z) ⊖ (bˢ.y ⊗ pˢ.Z ⊖ aˢ.y ⊗ pˢ.Z) ⊗ (cˢ.x ⊖ aˢ.x)) tt

-- above a level side of length r there is no corner on the other side, by the sign of r
module _ (r a c y : ℤ) (at_y : a ≡ y) (h : pos 0 <ℤ (r *ℤ (c -ℤ a))) where
  above : pos 0 ≤ℤ r → y <ℤ c
  above k = by_lt_z y c (λ (l : y <ℤ c). l) (λ (l : c ≤ℤ y). let q = times-+- r (c -ℤ a) k (omega lin) in absurd (omega lin))

  below : r ≤ℤ pos 0 → c <ℤ y
  below k = by_lt_z c y (λ (l : c <ℤ y). l) (λ (l : y ≤ℤ c). let q = times--+ r (c -ℤ a) k (omega lin) in absurd (omega lin))

module _ (a b c d : GridPoint) (p : Spot) (scaled : pos 0 <ℤ p.Z) (left : pos 0 <ℤ area a b c) (right : pos 0 <ℤ area b a d) (h : Between a b p) where
  abbrev high : GridPoint → ℤ
  high v = v.y *ℤ p.Z

  -- a level side: what its area says of the third corner's height
  on_level : (u v w : GridPoint) → pos 0 <ℤ area u v w → high u ≡ p.Y → high v ≡ p.Y → pos 0 <ℤ ((v.x -ℤ u.x) *ℤ (high w -ℤ high u))
  on_level u v w k e f =
      go _ _ _ (area_heights u v w p) (times->> p.Z (area u v w) scaled k)
      (zero_left (high v -ℤ high u) (w.x -ℤ u.x) (same (high v) (high u) p.Y f e))
    where
      same : (x y z : ℤ) → x ≡ z → y ≡ z → x -ℤ y ≡ pos 0
      same x y z i j = omega lin

      go : (x y z : ℤ) → x ≡ y -ℤ z → pos 0 <ℤ x → z ≡ pos 0 → pos 0 <ℤ y
      go x y z i j l = omega lin

  level_rises : high a ≡ p.Y → high b ≡ p.Y → rises (high a) (high b) (high c) (high d) p.Y ≡ pos 1
  level_rises e f =
      let i = on_level a b c left e f in
      let j = on_level b a d right f e in
      level (high a) (high b) (high c) (high d) p.Y e f
      (by_lt_z (b.x -ℤ a.x) (pos 0)
      (λ (k : (b.x -ℤ a.x) <ℤ pos 0). inr (weak (below (b.x -ℤ a.x) (high a) (high c) p.Y e i (omega lin)), above (a.x -ℤ b.x) (high b) (high d) p.Y f j (omega lin)))
      (λ (k : pos 0 ≤ℤ (b.x -ℤ a.x)). inl (above (b.x -ℤ a.x) (high a) (high c) p.Y e i k, weak (below (a.x -ℤ b.x) (high b) (high d) p.Y f j (omega lin)))))
    where
      weak : {u v : ℤ} → u <ℤ v → u ≤ℤ v
      weak q = omega lin

  -- p is level with both ends, or between their heights
  one_rises : rises (high a) (high b) (high c) (high d) p.Y ≡ pos 1
  one_rises =
      let i = between_bc a b c p left h in
      let j = between_ca a b c p left h in
      let e = balance (height a p *ℤ det b c p) (height b p *ℤ det c a p) (height c p *ℤ det a b p) (identities.heights a b c p) (zero_right (height c p) (det a b p) h.on) in
      by_lt_z (pos 0) (height a p)
      (λ (k : pos 0 <ℤ height a p). sloping (high a) (high b) (high c) (high d) p.Y (inr (
        omega lin,
        by_lt_z (height b p) (pos 0) (λ (l : height b p <ℤ pos 0). omega lin)
            (λ (l : pos 0 ≤ℤ height b p). let q = times->> (height a p) (det b c p) k i in let r = times-++ (height b p) (det c a p) l (omega lin) in absurd (omega lin)),
      )))
      (λ (k : height a p ≤ℤ pos 0). by_lt_z (height a p) (pos 0)
      (λ (l : height a p <ℤ pos 0). sloping (high a) (high b) (high c) (high d) p.Y (inl (
        omega lin,
        by_lt_z (pos 0) (height b p) (λ (m : pos 0 <ℤ height b p). omega lin)
            (λ (m : height b p ≤ℤ pos 0). let q = times-<> (height a p) (det b c p) l i in let r = times--+ (height b p) (det c a p) m (omega lin) in absurd (omega lin)),
      )))
      (λ (l : pos 0 ≤ℤ height a p).
      let z = zero_left (height a p) (det b c p) (omega lin) in
      let m = right_0 (det c a p) (height b p) j (swapped (det c a p) (height b p) ∙ (omega lin)) in
      level_rises (omega lin) (omega lin)))
    where
      balance : (x y z : ℤ) → x +ℤ y +ℤ z ≡ pos 0 → z ≡ pos 0 → x +ℤ y ≡ pos 0
      balance x y z i j = omega lin

  pub open_side : (crossing a b p +ℤ (crossing b c p +ℤ (crossing c a p +ℤ pos 0))) +ℤ (crossing b a p +ℤ (crossing a d p +ℤ (crossing d b p +ℤ pos 0))) ≡ pos 1
  unfolding crossing
  open_side =
      let h' = between_back h in
      go _ _ _ _ _ _ _ _ _ _
      (on_none (high a) (high b) p.Y (det a b p) h.on) (on_none (high b) (high a) p.Y (det b a p) h'.on)
      (left_rises (high b) (high c) p.Y (det b c p) (between_bc a b c p left h)) (left_rises (high c) (high a) p.Y (det c a p) (between_ca a b c p left h))
      (left_rises (high a) (high d) p.Y (det a d p) (between_bc b a d p right h')) (left_rises (high d) (high b) p.Y (det d b p) (between_ca b a d p right h'))
      one_rises
    where
      go : (ab ba bc ca ad db r s t u : ℤ) → ab ≡ pos 0 → ba ≡ pos 0 → bc ≡ r → ca ≡ s → ad ≡ t → db ≡ u → r +ℤ s +ℤ (t +ℤ u) ≡ pos 1
          → (ab +ℤ (bc +ℤ (ca +ℤ pos 0))) +ℤ (ba +ℤ (ad +ℤ (db +ℤ pos 0))) ≡ pos 1
      go ab ba bc ca ad db r s t u e₁ e₂ e₃ e₄ e₅ e₆ e₇ = omega lin
