-- What rule 19 is for: vertices and edges of a sheet that keeps the rules lie apart.
use Rattle.std.specs.Prelude.{◌≡◌, ℕ, ◌+◌, ◌<◌, ◌⊎◌, length, true, None, pos, ◌<ℤ◌}
use Rattle.plane.specs.declared.Edge.{Edge}
use Rattle.plane.specs.Edges.{In, back}
use Rattle.plane.specs.Points.{Spot, between, place_of, spot_at}
use Rattle.sheet.specs.Legal.{LegalSheet}
use Rattle.sheet.specs.Sheets.{Sheet, edges_of, points_of}
use Rattle.rules.specs.Rules.{first_broken}

-- p is in the edge, and at neither end
abbrev pub inside_edge : Sheet → Edge → Spot → Type 0
inside_edge s e p = between (place_of (points_of s) e.from) (place_of (points_of s) e.to) p ≡ true

pub record LiesApart (s : Sheet) : Type 0 where
  -- every vertex is an end of an edge
  pub ends : (v : ℕ) → v < length s.inner + 4 → (e : Edge) × In e (edges_of s) × (e.from ≡ v)
  -- no vertex is inside an edge
  pub no_vertex : (e : Edge) → In e (edges_of s) → (v : ℕ) → v < length s.inner + 4 → inside_edge s e (spot_at (place_of (points_of s) v)) → ⊥
  -- no point is inside two edges, but for the two directions of one
  pub no_two : (e f : Edge) → In e (edges_of s) → In f (edges_of s) → (p : Spot) → pos 0 <ℤ p.Z → inside_edge s e p → inside_edge s f p → (e ≡ f) ⊎ (e ≡ back f)

-- the theorem: so they lie where a sheet within its limits breaks no rule
abbrev pub CheckedLiesApart : Type 0
CheckedLiesApart = (s : Sheet) → LegalSheet s → first_broken s ≡ None → LiesApart s
