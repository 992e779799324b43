-- The crossing number of an edge, by where its ends are; and of its reverse.
use Rattle.std.proofs.Common.{◌≡◌, cond, ℤ, pos, negsuc, ◌*ℤ◌, neg_ℤ, ◌≤ℤ◌, ◌<ℤ◌, ap, ◌∙◌}
use lib.Signed.{lt_z}
use Rattle.plane.specs.Crossings.{crossing, passing}
use Rattle.plane.specs.Points.{GridPoint, Spot, det}
use Rattle.plane.proofs.Determinants.{identities}
use Rattle.plane.proofs.Signs.{lin}

module _ (from to y d : ℤ) where
  pub stays_low : from ≤ℤ y → to ≤ℤ y → passing from to y d ≡ pos 0
  stays_low h k = grind lin

  pub stays_high : y <ℤ from → y <ℤ to → passing from to y d ≡ pos 0
  stays_high h k = grind lin

  pub rises : from ≤ℤ y → y <ℤ to → passing from to y d ≡ cond (lt_z (pos 0) d) (pos 1) (pos 0)
  rises h k = grind lin

  pub falls : y <ℤ from → to ≤ℤ y → passing from to y d ≡ cond (lt_z d (pos 0)) (negsuc 0) (pos 0)
  falls h k = grind lin

  passing_back : passing to from y (neg_ℤ d) ≡ neg_ℤ (passing from to y d)
  passing_back = grind lin

pub crossing_back : (a b : GridPoint) (p : Spot) → crossing b a p ≡ neg_ℤ (crossing a b p)
unfolding crossing
crossing_back a b p =
    ap (passing (b.y *ℤ p.Z) (a.y *ℤ p.Z) p.Y) (identities.turned b a p)
    ∙ passing_back (a.y *ℤ p.Z) (b.y *ℤ p.Z) p.Y (det a b p)
