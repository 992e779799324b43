-- What is claimed of a polygon that is cut at its ears, and what a call answers that cuts one.
use Rattle.std.specs.Prelude.{◌≡◌, ℕ, ◌+◌, ◌-◌, cond, List, [], ◌∷◌, length, map, take, nat_lt, Some, Option, Err, Result}
use Rattle.std.specs.List.{remove}
use Rattle.std.specs.Option.{ok_or, option_map}
use Rattle.plane.specs.Edges.{In}
use Rattle.plane.specs.Points.{GridPoint}
use Rattle.refusal.specs.declared.Cause.{Cause}
use Rattle.refusal.specs.declared.Cause.TheVariants.{Stuck, TableTooShort}
use Rattle.tiling.specs.Cuts.{Cut}
use Rattle.tiling.specs.Triangles.{AllLeftward, Triangle, triangle}
use Rattle.plane.specs.declared.Corners.{Corners}
use Rattle.ears.specs.Ears.{cut_of, first_ear, last_cut, triangle_at}

-- the triangles are a cut of the polygon, each turns left, there are two fewer than corners, and their corners are its corners
pub record CutInto (at : ℕ → GridPoint) (cs : List ℕ) (ts : List Triangle) : Type 0 where
  pub cut : Cut cs ts
  pub leftward : AllLeftward at ts
  pub count : length ts + 2 ≡ length cs
  pub within : (t : Triangle) → In t ts → In t.a cs × In t.b cs × In t.c cs

-- the theorem: so they are wherever the ears are found
abbrev pub CutIsCut : Type 0
CutIsCut = (at : ℕ → GridPoint) (cs : List ℕ) (ts : List Triangle) → cut_of at cs ≡ Some ts → CutInto at cs ts

-- a triangle as code
abbrev pub triangle_of : Corners → Triangle
triangle_of t = triangle t.a t.b t.c

-- how many triangles there are, with room for so many; the room is asked for first
abbrev pub cut_said : ℕ → List ℕ → Option (List Triangle) → Result ℕ Cause
cut_said room cs cut = cond (nat_lt room (length cs - 2)) (Err TableTooShort) (ok_or (option_map length cut) Stuck)

-- ---- the parts of a cut in place

-- the first n entries of a table, where there is such a number
abbrev pub front_of : List Corners → Option ℕ → Option (List Triangle)
front_of table r = option_map (λ n. map triangle_of (take n table)) r

-- the triangle of the first ear, and the corners that are left when it is cut off
abbrev pub ear_off : (ℕ → GridPoint) → List ℕ → Option (Triangle × List ℕ)
ear_off at cs = option_map (λ i. (triangle_at cs i, remove cs i)) (first_ear at cs)

-- it is cut off a list in place: what is left stands in front
abbrev pub EarCutOff : (ℕ → GridPoint) → List ℕ → List ℕ → Option Corners → Type 0
EarCutOff at old new r = ear_off at old ≡ option_map (λ t. (triangle_of t, take (length old - 1) new)) r

-- the last three corners are one triangle that turns left, or none
abbrev pub LastCut : (ℕ → GridPoint) → List ℕ → Option Corners → Type 0
LastCut at cs r = last_cut at cs ≡ option_map (λ t. triangle_of t ∷ []) r
