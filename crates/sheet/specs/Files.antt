-- The sheet file, from its first byte to its last: a sheet with its labels, or the first fault.
use Rattle.std.specs.Prelude.{◌≡◌, ℕ, ◌+◌, ◌<◌, ◌≤◌, Bool, true, false, cond, List, [], ◌∷◌, length, Some, None, Ok, Err, Option, Result, ◌==◌, slice_index_or}
use Rattle.refusal.specs.declared.Cause.TheVariants.{BadNumeral}
use Rattle.refusal.specs.declared.Refusal.{Refusal}
use Rattle.sheet.specs.declared.tables.Head.{Head}
use Rattle.sheet.specs.declared.tables.Label.{Label}
use Rattle.reader.specs.Kinds as kind
use Rattle.reader.specs.Reading.{Read, and_then, fault, several}
use Rattle.sheet.specs.Sheets.{Ring, Sheet, corners_in}

-- a loop on a sheet of so many vertices, behind so many corners of earlier loops
unfoldable pub ring : ℕ → ℕ → List ℕ → ℕ → Read Ring
ring vertices before file at =
    and_then (kind.numeral file at) (λ m.
    and_then (kind.corner_count_of vertices before file m.1) (λ k.
    and_then (several (λ _. kind.corner vertices file) [] k.0 k.1) (λ cs.
    Ok (record { numeral = m.0; corners = cs.0 }, cs.1))))

-- edition, width, height, how many inner vertices
unfoldable pub head : List ℕ → ℕ → Read Head
head file at =
    and_then (kind.edition file at) (λ e.
    and_then (kind.extent file e.1) (λ w.
    and_then (kind.extent file w.1) (λ h.
    and_then (kind.count 1024 file h.1) (λ n.
    Ok (record { width = w.0; height = h.0; inner = n.0 }, n.1)))))

-- the inner vertices, how many loops, and they
unfoldable pub sheet : List ℕ → ℕ → Read Sheet
sheet file at =
    and_then (head file at) (λ h.
    and_then (several (λ _. kind.vertex h.0.width h.0.height file) [] h.0.inner h.1) (λ vs.
    and_then (kind.count 2050 file vs.1) (λ m.
    and_then (several (λ before. ring (h.0.inner + 4) (corners_in before) file) [] m.0 m.1) (λ rs.
    Ok (record { width = h.0.width; height = h.0.height; inner = vs.0; rings = rs.0 }, rs.1)))))

-- some label has the numeral
abbrev pub labelled : ℕ → List Label → Bool
labelled m [] = false
labelled m (l ∷ ls) = cond (m == l.numeral) true (labelled m ls)

-- the label of a numeral, if there is one
abbrev pub label_with : ℕ → List Label → Option Label
label_with m [] = None
label_with m (l ∷ ls) = cond (m == l.numeral) (Some l) (label_with m ls)

-- the label that is wanted, if one is and if there is one
abbrev pub find_wanted : Option ℕ → List Label → Option Label
find_wanted None ls = None
find_wanted (Some m) ls = label_with m ls

-- a label, behind other labels: a numeral that none of them has, the length of the wording, and it
unfoldable pub label : List ℕ → List Label → ℕ → Read Label
label file before at =
    and_then (kind.label_numeral_of file at) (λ m.
    cond (labelled m.0 before) (Err (fault BadNumeral at))
    (and_then (kind.wording_length_of file m.1) (λ n.
    and_then (kind.wording file n.0 n.1) (λ next.
    Ok (record { numeral = m.0; place = n.1; length = n.0 }, next)))))

-- all the labels, and then nothing more
unfoldable pub labels : List ℕ → ℕ → Result (List Label) Refusal
labels file at =
    and_then (kind.count 255 file at) (λ n.
    and_then (several (label file) [] n.0 n.1) (λ ls.
    and_then (kind.finish file ls.1) (λ _. Ok ls.0)))

pub record SheetFile : Type 0 where
  pub sheet : Sheet
  pub labels : List Label

unfoldable pub contents : List ℕ → Result SheetFile Refusal
contents file =
    and_then (sheet file 0) (λ s.
    and_then (labels file s.1) (λ ls.
    Ok (record { sheet = s.0; labels = ls })))

-- flags that mark the numerals of labels
abbrev pub Marked : List Bool → List Label → Type 0
Marked flags ls = (m : ℕ) → m < 256 → slice_index_or flags m false ≡ labelled m ls

-- a wording lies in the file
abbrev pub Within : List ℕ → Option Label → Type 0
Within file None = Unit {0}
Within file (Some l) = l.place + l.length ≤ length file
