-- Triangles, by the numbers of their corners and the place of each number.
use Rattle.std.specs.Prelude.{ℕ, Bool, ◌&&◌, List, [], ◌∷◌, map, ℤ, pos, ◌<ℤ◌, int_le}
use Rattle.plane.specs.declared.Edge.{Edge}
use Rattle.plane.specs.Crossings.{edge_crossing}
use Rattle.plane.specs.Edges.{In, edge, ring_edges, sum_of}
use Rattle.plane.specs.Points.{GridPoint, Spot, area, det}

pub record Triangle : Type 0 where
  pub a : ℕ
  pub b : ℕ
  pub c : ℕ

abbrev pub triangle : ℕ → ℕ → ℕ → Triangle
triangle a b c = record { a = a; b = b; c = c }

abbrev pub corners : Triangle → List ℕ
corners t = t.a ∷ t.b ∷ t.c ∷ []

-- from a to b, from b to c, from c to a
abbrev pub sides : Triangle → List Edge
sides t = ring_edges (corners t)

-- the sum of a number for each side
abbrev pub around : (Edge → ℤ) → Triangle → ℤ
around f t = sum_of f (sides t)

module _ (at : ℕ → GridPoint) where
  -- on which side of an edge p is
  abbrev pub side_at : Spot → Edge → ℤ
  side_at p e = det (at e.from) (at e.to) p

  -- the crossing number of the triangle about p
  abbrev pub turns : Spot → Triangle → ℤ
  turns p t = around (edge_crossing at p) t

  -- its corners turn to the left
  abbrev pub Leftward : Triangle → Type 0
  Leftward t = pos 0 <ℤ area (at t.a) (at t.b) (at t.c)

  abbrev pub AllLeftward : List Triangle → Type 0
  AllLeftward ts = (t : Triangle) → In t ts → Leftward t

  -- the closed triangle holds p: no side has p on its right
  abbrev pub closed_holds : Triangle → Spot → Bool
  closed_holds t p =
      int_le (pos 0) (side_at p (edge t.a t.b))
      && (int_le (pos 0) (side_at p (edge t.b t.c)) && int_le (pos 0) (side_at p (edge t.c t.a)))

-- the triangles that v makes with each edge of a ring of corners
abbrev pub fan : ℕ → List ℕ → List Triangle
fan v ring = map (λ e. triangle v e.from e.to) (ring_edges ring)
