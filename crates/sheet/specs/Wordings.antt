-- The wording of an answer: that of the label whose numeral the answer's loop has.
use Rattle.std.specs.Prelude.{ℕ, zero, suc, cond, List, [], ◌∷◌, Some, None, Ok, Option, Result, ◌==◌}
use Rattle.std.specs.Option.{option_map}
use Rattle.std.specs.List.{slice_get}
use Rattle.refusal.specs.declared.Refusal.{Refusal}
use Rattle.sheet.specs.declared.answer.Answer.{Answer}
use Rattle.sheet.specs.declared.answer.Answer.TheVariants.{Vertex, OpenEdge, Face}
use Rattle.sheet.specs.declared.tables.Label.{Label}
use Rattle.sheet.specs.declared.tables.Loop.{Loop}
use Rattle.sheet.specs.Files.{contents, label_with}
use Rattle.reader.specs.Kinds.{part}
use Rattle.reader.specs.Reading.{and_then}
use Rattle.sheet.specs.Numerals.{some_numeral}
use Rattle.sheet.specs.Sheets.{Ring}

-- the numeral of a loop by its number, and 0 past the last loop
abbrev pub numeral_at : List Ring → ℕ → ℕ
numeral_at [] l = 0
numeral_at (r ∷ rs) zero = r.numeral
numeral_at (r ∷ rs) (suc l) = numeral_at rs l

-- the loop whose face an answer is: a vertex and an edge have none
abbrev pub face_of_answer : Answer → Option ℕ
face_of_answer (Vertex v) = None
face_of_answer (OpenEdge u v) = None
face_of_answer (Face l) = Some l

-- the numeral of that loop, or 0
abbrev pub numeral_of : List Ring → Option ℕ → ℕ
numeral_of rs None = 0
numeral_of rs (Some l) = numeral_at rs l

-- the label of a numeral; 0 means that there is none
abbrev pub label_of : ℕ → List Label → Option Label
label_of m ls = cond (m == 0) None (label_with m ls)

-- the numeral of a table's entry, where it has one
abbrev pub numeral_of_entry : Option Loop → Option ℕ
numeral_of_entry None = None
numeral_of_entry (Some e) = some_numeral e.numeral

-- the numeral of a loop in the table of loops, where it has one
abbrev pub numeral_in : List Loop → Option ℕ → Option ℕ
numeral_in loops None = None
numeral_in loops (Some l) = numeral_of_entry (slice_get loops l)

-- the place of a wording, and that part of the file itself
abbrev pub spoken : List ℕ → Label → ℕ × List ℕ
spoken file l = (l.place, part file l.place l.length)

-- a file that is no good is refused as load refuses it
unfoldable pub wording_said : List ℕ → Answer → Result (Option (ℕ × List ℕ)) Refusal
wording_said file answer =
    and_then (contents file) (λ f. Ok (option_map (spoken file) (label_of (numeral_of f.sheet.rings (face_of_answer answer)) f.labels)))
