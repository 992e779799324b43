-- The worked examples of reading, computed from the definitions.
use Rattle.std.specs.Prelude.{◌≡◌, ℕ, List, [], ◌∷◌, Some, None, Ok, Err}
use Rattle.plane.specs.declared.Point.{Point}
use Rattle.refusal.specs.declared.Cause.TheVariants.{BadNumber}
use Rattle.reader.specs.Number.{number}
use Rattle.reader.specs.Reading.{fault}
use Rattle.sheet.specs.declared.answer.Answer.TheVariants.{Vertex, OpenEdge, Face}
use Rattle.plane.specs.declared.Edge.{Edge}
use Rattle.sheet.specs.declared.tables.Loop.{Loop}
use Rattle.sheet.specs.Files.{contents}
use Rattle.plane.specs.Edges.{edge}
use Rattle.sheet.specs.Sheets.{Ring, Sheet, edges_of, loop_at, loops_of, point, points_of}
use Rattle.sheet.specs.Wordings.{wording_said}

-- a spring in the middle of a sheet of 12 by 10, with its file
abbrev pub spring_file : List ℕ
spring_file =
    1 ∷ 12 ∷ 10 ∷ 4 ∷ 3 ∷ 3 ∷ 9 ∷ 3 ∷ 9 ∷ 7 ∷ 3 ∷ 7 ∷ 5
    ∷ 14 ∷ 4 ∷ 4 ∷ 5 ∷ 6 ∷ 7
    ∷ 0 ∷ 4 ∷ 0 ∷ 1 ∷ 5 ∷ 4
    ∷ 0 ∷ 4 ∷ 1 ∷ 2 ∷ 6 ∷ 5
    ∷ 0 ∷ 4 ∷ 2 ∷ 3 ∷ 7 ∷ 6
    ∷ 0 ∷ 4 ∷ 3 ∷ 0 ∷ 4 ∷ 7
    ∷ 1 ∷ 14 ∷ 6 ∷ 115 ∷ 112 ∷ 114 ∷ 105 ∷ 110 ∷ 103 ∷ []

abbrev ring : ℕ → List ℕ → Ring
ring m cs = record { numeral = m; corners = cs }

abbrev pub spring : Sheet
spring =
    record {
      width = 12;
      height = 10;
      inner = point 3 3 ∷ point 9 3 ∷ point 9 7 ∷ point 3 7 ∷ [];
      rings =
          ring 14 (4 ∷ 5 ∷ 6 ∷ 7 ∷ []) ∷ ring 0 (0 ∷ 1 ∷ 5 ∷ 4 ∷ []) ∷ ring 0 (1 ∷ 2 ∷ 6 ∷ 5 ∷ [])
          ∷ ring 0 (2 ∷ 3 ∷ 7 ∷ 6 ∷ []) ∷ ring 0 (3 ∷ 0 ∷ 4 ∷ 7 ∷ []) ∷ [];
    }

abbrev pub spring_points : List Point
spring_points = point 0 0 ∷ point 12 0 ∷ point 12 10 ∷ point 0 10 ∷ point 3 3 ∷ point 9 3 ∷ point 9 7 ∷ point 3 7 ∷ []

abbrev pub spring_edges : List Edge
spring_edges =
    edge 4 5 ∷ edge 5 6 ∷ edge 6 7 ∷ edge 7 4 ∷ edge 0 1 ∷ edge 1 5 ∷ edge 5 4 ∷ edge 4 0
    ∷ edge 1 2 ∷ edge 2 6 ∷ edge 6 5 ∷ edge 5 1 ∷ edge 2 3 ∷ edge 3 7 ∷ edge 7 6 ∷ edge 6 2
    ∷ edge 3 0 ∷ edge 0 4 ∷ edge 4 7 ∷ edge 7 3 ∷ edge 1 0 ∷ edge 2 1 ∷ edge 3 2 ∷ edge 0 3 ∷ []

abbrev pub spring_loops : List Loop
spring_loops = loop_at 14 0 4 ∷ loop_at 0 4 4 ∷ loop_at 0 8 4 ∷ loop_at 0 12 4 ∷ loop_at 0 16 4 ∷ []

-- the file of the spring sheet is taken, and the tables hold it
pub record Taken : Type 0 where
  pub whole : contents spring_file ≡ Ok (record { sheet = spring; labels = record { numeral = 14; place = 46; length = 6 } ∷ [] })
  pub points : points_of spring ≡ spring_points
  pub edges : edges_of spring ≡ spring_edges
  pub loops : loops_of spring ≡ spring_loops

-- only its first face has a wording
pub record Worded : Type 0 where
  pub face : wording_said spring_file (Face 0) ≡ Ok (Some (46, 115 ∷ 112 ∷ 114 ∷ 105 ∷ 110 ∷ 103 ∷ []))
  pub plain : wording_said spring_file (Face 1) ≡ Ok None
  pub past : wording_said spring_file (Face 5) ≡ Ok None
  pub vertex : wording_said spring_file (Vertex 4) ≡ Ok None
  pub edge : wording_said spring_file (OpenEdge 4 5) ≡ Ok None

-- a last group of 0 is refused where there are several
abbrev pub Refused : Type 0
Refused = (number (128 ∷ 0 ∷ []) 0 ≡ Err (fault BadNumber 0)) × (contents (128 ∷ 0 ∷ []) ≡ Err (fault BadNumber 0))

abbrev pub Examples : Type 0
Examples = Refused × Taken × Worded
