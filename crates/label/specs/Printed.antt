-- What is printed of a cell, a numeral and a tip.
use Rattle.std.specs.Prelude.{ℕ, List, ◌++◌, Option, Some, None, codes, decimal}
use Rattle.plane.specs.Printed.{rational_words, whole_words}
use Rattle.sheet.specs.declared.answer.Answer.{Answer}
use Rattle.sheet.specs.declared.answer.Answer.TheVariants.{Face, OpenEdge, Vertex}
use Rattle.label.specs.declared.tip.Tip.{Tip}
use Rattle.label.specs.declared.tip.Tip.TheVariants.{Rational, Whole}

abbrev pub cell_words : Answer → List ℕ
cell_words (Vertex v) = codes "vertex " ++ decimal v
cell_words (OpenEdge u v) = codes "edge " ++ decimal u ++ codes "-" ++ decimal v
cell_words (Face l) = codes "face of loop " ++ decimal l

abbrev pub numeral_words : Option ℕ → List ℕ
numeral_words None = codes "-"
numeral_words (Some n) = decimal n

abbrev pub tip_words : Tip → List ℕ
tip_words (Whole t) = whole_words t
tip_words (Rational t) = rational_words t
