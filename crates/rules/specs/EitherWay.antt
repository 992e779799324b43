-- A clash holds either way round, of each kind of elements; the search does not use it. And what touches by determinants of sheet points does
-- so in the words of rule 19.
use Rattle.std.specs.Prelude.{◌≡◌, ◌↔◌, ℕ, Bool, true, List}
use Rattle.plane.specs.declared.Edge.{Edge}
use Rattle.plane.specs.declared.Point.{Point}
use Rattle.plane.specs.Edges.{same_edge}
use Rattle.plane.specs.Points.{GridPoint, same_point}
use Rattle.rules.specs.Rules.{touch}
use Rattle.rules.specs.Sound.{Touching}
use Rattle.rules.specs.Strokes.{stroke_of, strokes_touch}

abbrev pub EitherWay : {X : Type 0} → (X → X → Bool) → Type 0
EitherWay {X} clashes = (a b : X) → clashes a b ≡ clashes b a

-- points, directed edges, and edges of the sheet
pub record ClashesEitherWay : Type 0 where
  pub points : EitherWay same_point
  pub edges : EitherWay same_edge
  -- by where the vertices are
  pub drawn : (at : ℕ → GridPoint) → EitherWay (touch at)
  -- as strokes, which have the places of their ends from one table
  pub strokes : (ps : List Point) → EitherWay (λ e f. strokes_touch (stroke_of ps e) (stroke_of ps f))

-- two edges touch exactly where, without a common vertex, they share a point, or with one the other end of one lies on the other
abbrev pub TouchTells : Type 0
TouchTells = (at : ℕ → GridPoint) (e f : Edge) → (touch at e f ≡ true) ↔ Touching at e f
