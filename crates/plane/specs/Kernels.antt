-- What a kernel tells of a tip, by the point that the tip means; a tip that is not fit means none.
use Rattle.std.specs.Prelude.{◌≡◌, ℕ, Bool, true, false, cond, ◌&&◌, pos, ◌*ℤ◌, ◌<ℤ◌, IfSome, Some, None, Option, MatchOption, int_lt, nat_le, nat_lt}
use Rattle.plane.specs.declared.Point.{Point}
use Rattle.plane.specs.declared.Side.{Side}
use Rattle.plane.specs.declared.Side.TheVariants.{Right, On, Left}
use Rattle.plane.specs.declared.Test.{Test}
use Rattle.plane.specs.declared.rational.RationalTip.{RationalTip}
use Rattle.plane.specs.declared.whole.WholeTip.{WholeTip}
use Rattle.plane.specs.Points.{Spot, det, grid_point, is_on_sheet, side_of, spot_at}

-- on which side of the line from a to b the tip is
abbrev pub side_said : Option Spot → Point → Point → Side
side_said None a b = On
side_said (Some p) a b = side_of (det (grid_point a) (grid_point b) p)

abbrev pub is_right : Side → Bool
is_right Right = true
is_right On = false
is_right Left = false

abbrev pub tested : ℕ → Bool → Test
tested tests holds = record { tests = tests; holds = holds }

-- the sides of a triangle in the order ab, bc, ca, up to the first that has the tip on its right
abbrev pub test_of : (ab bc ca : Bool) → Test
test_of ab bc ca = cond ab (tested 1 false) (cond bc (tested 2 false) (cond ca (tested 3 false) (tested 3 true)))

abbrev pub triangle_said : Option Spot → Point → Point → Point → Test
triangle_said p a b c = test_of (is_right (side_said p a b)) (is_right (side_said p b c)) (is_right (side_said p c a))

-- whether the tip is on the sheet
abbrev pub on_sheet_said : Option Spot → ℕ → ℕ → Bool
on_sheet_said None width height = false
on_sheet_said (Some p) width height = is_on_sheet (pos width) (pos height) p

-- ---- what every kernel tells: of points and sizes that a sheet can have, and of no others

-- a point that a sheet can have
abbrev pub is_sheet_point : Point → Bool
is_sheet_point a = nat_le a.x 8191 && nat_le a.y 8191

-- a width or a height that a sheet can have, and both of them
abbrev pub is_extent : ℕ → Bool
is_extent e = nat_le 2 e && nat_le e 8191

abbrev pub is_sheet_size : (width height : ℕ) → Bool
is_sheet_size width height = is_extent width && is_extent height

abbrev pub TellsSide : Option Spot → Point → Point → Side → Type 0
TellsSide p a b side = is_sheet_point a ≡ true → is_sheet_point b ≡ true → side ≡ side_said p a b

abbrev pub TellsTriangle : Option Spot → (a b c : Point) → Test → Type 0
TellsTriangle p a b c test = is_sheet_point a ≡ true → is_sheet_point b ≡ true → is_sheet_point c ≡ true → test ≡ triangle_said p a b c

abbrev pub TellsOnSheet : Option Spot → (width height : ℕ) → Bool → Type 0
TellsOnSheet p width height on = is_sheet_size width height ≡ true → on ≡ on_sheet_said p width height

-- a tip is at the point a, whatever its Z
abbrev pub IsAt : Point → Option Spot → Type 0
IsAt a None = ⊥
IsAt a (Some p) = (p.X ≡ pos a.x *ℤ p.Z) × (p.Y ≡ pos a.y *ℤ p.Z)

-- of each point that a sheet can have a tip is made, at that point
abbrev pub Makes : {Tip : Type 0} → (Tip → Option Spot) → Point → Option Tip → Type 0
Makes means a r = is_sheet_point a ≡ true → MatchOption r ⊥ (λ t. IsAt a (means t))

-- a point that is meant has a Z above 0
abbrev pub Scaled : Option Spot → Type 0
Scaled r = IfSome r (λ p. pos 0 <ℤ p.Z)

-- ---- the two kernels that are supplied

-- they make a tip of no other points, and their Z is 1
abbrev pub MakesOnly : {Tip : Type 0} → (Tip → Option Spot) → Point → Option Tip → Type 0
MakesOnly means a r = MatchOption r (is_sheet_point a ≡ false) (λ t. (is_sheet_point a ≡ true) × (means t ≡ Some (spot_at (grid_point a))))

-- whole tips: every one is fit
abbrev pub whole_point : WholeTip → Option Spot
whole_point t = Some (record { X = pos t.x; Y = pos t.y; Z = pos 1 })

-- rational tips: fit where Z is 1 to 1,048,575, and X and Y are at most 8,589,934,591
abbrev pub rational_fit : RationalTip → Bool
rational_fit t = (nat_lt 0 t.z && nat_le t.z 1048575) && (nat_le t.x 8589934591 && nat_le t.y 8589934591)

abbrev pub rational_point : RationalTip → Option Spot
rational_point t = cond (rational_fit t) (Some (record { X = pos t.x; Y = pos t.y; Z = pos t.z })) None

-- points in small numbers: one whose Z is above 0
abbrev pub small_point : Spot → Option Spot
small_point p = cond (int_lt (pos 0) p.Z) (Some p) None
