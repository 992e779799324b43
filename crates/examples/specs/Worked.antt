-- The worked examples from a file to an answer, computed from the definitions.
use Rattle.std.specs.Prelude.{◌≡◌, ℕ, [], ◌∷◌, Some, None, Option, Ok, Err, Result}
use Rattle.plane.specs.Kernels.{rational_point, whole_point}
use Rattle.plane.specs.Points.{Spot}
use Rattle.refusal.specs.declared.Cause.TheVariants.{EdgeTwice, OffSheet}
use Rattle.refusal.specs.declared.Layer.TheVariants.{Check, Place}
use Rattle.refusal.specs.declared.Refusal.{Refusal}
use Rattle.refusal.specs.Numbers.{refused}
use Rattle.sheet.specs.declared.answer.Answer.TheVariants.{Vertex, OpenEdge, Face}
use Rattle.sheet.specs.Sheets.{points_of, size_of}
use Rattle.rules.specs.Broken as broken
use Rattle.rules.specs.Rules.{first_broken}
use Rattle.hierarchy.specs.Examples.{LayerExamples, spring_sheet, third}
use Rattle.walk.specs.declared.Found.{Found}
use Rattle.walk.specs.Walks.{found}
use Rattle.placing.specs.Placings.{place_said}
use Rattle.examples.specs.Spring.{Examples, spring}
use Rattle.examples.specs.Turns.{TurnExamples}

-- the sheet of the file keeps the rules; with its first loop the other way round, an edge is listed twice, the later at position 6
pub record Checked : Type 0 where
  pub one : spring_sheet ≡ spring
  pub passes : first_broken spring ≡ None
  pub turned : first_broken (broken.spring (7 ∷ 6 ∷ 5 ∷ 4 ∷ [])) ≡ Some (refused EdgeTwice Check 6)

-- what is answered to a tip of the spring sheet after its third round
abbrev pub answered : Option Spot → Result Found Refusal
answered tip = place_said (size_of spring) tip 0 (points_of spring) third.nodes third.live

abbrev pub whole : (x y : ℕ) → Option Spot
whole x y = whole_point (record { x = x; y = y })

abbrev pub rational : (x y z : ℕ) → Option Spot
rational x y z = rational_point (record { x = x; y = y; z = z })

pub record Tips : Type 0 where
  pub face : answered (whole 6 5) ≡ Ok (found (Face 0) 20)
  pub vertex : answered (whole 9 7) ≡ Ok (found (Vertex 6) 22)
  pub seam : answered (whole 1 1) ≡ Ok (found (OpenEdge 0 4) 13)
  pub off : answered (whole 13 5) ≡ Err (refused OffSheet Place 0)
  pub third_part : (tests : ℕ) × (answered (rational 9 14 3) ≡ Ok (found (OpenEdge 4 7) tests))

-- all of them, from reading to answers
pub record WorkedExamples : Type 0 where
  pub reading : Examples
  pub check : Checked
  pub layers : LayerExamples
  pub tips : Tips
  pub turns : TurnExamples
