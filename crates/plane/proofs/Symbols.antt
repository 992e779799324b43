-- The polynomials of the plane as expressions, over the variables of up to three points, two spots and two numbers.
use Rattle.std.proofs.Common.{List, [], ◌∷◌, ℤ, pos}
use Rattle.plane.specs.Points.{GridPoint, Spot}
use Rattle.plane.proofs.Ring.{Expr, var, lit, ◌⊕◌, ◌⊖◌, ◌⊗◌}

pub record GridPointˢ : Type 0 where
  pub x : Expr
  pub y : Expr

pub record Spotˢ : Type 0 where
  pub X : Expr
  pub Y : Expr
  pub Z : Expr

-- what the variables below stand for
abbrev pub variables : GridPoint → GridPoint → GridPoint → Spot → Spot → ℤ → ℤ → List ℤ
variables a b c p g u v =
    a.x ∷ a.y ∷ b.x ∷ b.y ∷ c.x ∷ c.y ∷ p.X ∷ p.Y ∷ p.Z ∷ g.X ∷ g.Y ∷ g.Z ∷ u ∷ v ∷ []

abbrev pub aˢ : GridPointˢ
aˢ = record { x = var 0; y = var 1 }

abbrev pub bˢ : GridPointˢ
bˢ = record { x = var 2; y = var 3 }

abbrev pub cˢ : GridPointˢ
cˢ = record { x = var 4; y = var 5 }

abbrev pub pˢ : Spotˢ
pˢ = record { X = var 6; Y = var 7; Z = var 8 }

abbrev pub gˢ : Spotˢ
gˢ = record { X = var 9; Y = var 10; Z = var 11 }

abbrev pub uˢ : Expr
uˢ = var 12

abbrev pub vˢ : Expr
vˢ = var 13

abbrev pub spot_atˢ : GridPointˢ → Spotˢ
spot_atˢ a = record { X = a.x; Y = a.y; Z = lit (pos 1) }

abbrev pub widthˢ : GridPointˢ → Spotˢ → Expr
widthˢ a p = p.X ⊖ a.x ⊗ p.Z

abbrev pub heightˢ : GridPointˢ → Spotˢ → Expr
heightˢ a p = p.Y ⊖ a.y ⊗ p.Z

abbrev pub detˢ : GridPointˢ → GridPointˢ → Spotˢ → Expr
detˢ a b p = (b.x ⊖ a.x) ⊗ heightˢ a p ⊖ (b.y ⊖ a.y) ⊗ widthˢ a p

abbrev pub areaˢ : GridPointˢ → GridPointˢ → GridPointˢ → Expr
areaˢ a b c = detˢ a b (spot_atˢ c)

abbrev pub alongˢ : Expr → Expr → GridPointˢ → Spotˢ → Expr
alongˢ u v a p = u ⊗ widthˢ a p ⊕ v ⊗ heightˢ a p

abbrev pub aheadˢ : GridPointˢ → GridPointˢ → Spotˢ → Expr
aheadˢ a b p = alongˢ (b.x ⊖ a.x) (b.y ⊖ a.y) a p

abbrev pub blendˢ : Expr → Spotˢ → Spotˢ → Spotˢ
blendˢ m p g = record { X = m ⊗ p.X ⊕ g.X; Y = m ⊗ p.Y ⊕ g.Y; Z = m ⊗ p.Z ⊕ g.Z }
