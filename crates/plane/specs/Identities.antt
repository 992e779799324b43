-- The identities of the determinant on which the geometry stands.
use Rattle.std.specs.Prelude.{◌≡◌, ℤ, pos, ◌+ℤ◌, ◌-ℤ◌, ◌*ℤ◌, neg_ℤ}
use Rattle.plane.specs.Points.{GridPoint, Spot, along, area, det}

-- m times p, and g added: as near to p as m is large
unfoldable pub blend : ℤ → Spot → Spot → Spot
blend m p g = record { X = m *ℤ p.X +ℤ g.X; Y = m *ℤ p.Y +ℤ g.Y; Z = m *ℤ p.Z +ℤ g.Z }

-- how far p is to the right of a, and above a
abbrev pub width : GridPoint → Spot → ℤ
width a p = p.X -ℤ a.x *ℤ p.Z

abbrev pub height : GridPoint → Spot → ℤ
height a p = p.Y -ℤ a.y *ℤ p.Z

pub record Identities : Type 0 where
  -- a line taken the other way
  pub turned : (a b : GridPoint) (p : Spot) → det a b p ≡ neg_ℤ (det b a p)
  -- the three sides of a triangle
  pub sides : (a b c : GridPoint) (p : Spot) → det a b p +ℤ det b c p +ℤ det c a p ≡ p.Z *ℤ area a b c
  -- p weighs the corners of a triangle, each by the side across from it: seen in any direction, their distances from p balance
  pub balance : (u v : ℤ) (a b c : GridPoint) (p : Spot)
      → along u v a p *ℤ det b c p +ℤ along u v b p *ℤ det c a p +ℤ along u v c p *ℤ det a b p ≡ pos 0
  -- so do their heights
  pub heights : (a b c : GridPoint) (p : Spot) → height a p *ℤ det b c p +ℤ height b p *ℤ det c a p +ℤ height c p *ℤ det a b p ≡ pos 0
  -- linear in the point
  pub linear : (a b : GridPoint) (m : ℤ) (p g : Spot) → det a b (blend m p g) ≡ m *ℤ det a b p +ℤ det a b g
  -- from heights and widths
  pub joined : (a b : GridPoint) (p : Spot) → p.Z *ℤ det a b p ≡ height b p *ℤ width a p -ℤ height a p *ℤ width b p
