-- The three numbers of each answer: its kind, and what it names.
use Rattle.std.specs.Prelude.{ℕ}
use Rattle.sheet.specs.declared.answer.Answer.{Answer}
use Rattle.sheet.specs.declared.answer.Answer.TheVariants.{Vertex, OpenEdge, Face}

abbrev pub values : Answer → ℕ × ℕ × ℕ
values (Vertex v) = (1, v, 0)
values (OpenEdge u v) = (2, u, v)
values (Face l) = (3, l, 0)
