-- What it is to cut a polygon into triangles.
use Rattle.std.specs.Prelude.{ℕ, List, [], ◌∷◌, ◌++◌}
use Rattle.tiling.specs.Triangles.{Triangle, triangle}

-- A polygon is a cyclic list of corners. To cut it, take a corner b away with the triangle that it makes with its two
-- neighbours, and cut what is left; three corners make the last triangle. Where the list begins does not matter.
pub data Cut : List ℕ → List Triangle → Type 0 where
  last : (a b c : ℕ) → Cut (a ∷ b ∷ c ∷ []) (triangle a b c ∷ [])
  ear : (a b c : ℕ) (l : List ℕ) (ts : List Triangle) → Cut (a ∷ c ∷ l) ts → Cut (a ∷ b ∷ c ∷ l) (triangle a b c ∷ ts)
  turn : (v : ℕ) (l : List ℕ) (ts : List Triangle) → Cut (l ++ v ∷ []) ts → Cut (v ∷ l) ts
