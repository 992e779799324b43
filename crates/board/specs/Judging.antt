-- What the check of a Draft tells, in the words of the rules.
use Rattle.std.specs.Prelude.{◌≡◌, ℕ, List, true, Result}
use Rattle.plane.specs.declared.Point.{Point}
use Rattle.plane.specs.declared.Edge.{Edge}
use Rattle.refusal.specs.declared.Refusal.{Refusal}
use Rattle.sheet.specs.declared.tables.Loop.{Loop}
use Rattle.checking.specs.Judging.{SheetJudged}
use Rattle.board.specs.declared.stage.Board.{Board}
use Rattle.board.specs.Turns.{is_loaded}

-- the theorem: the check of a Draft whose sheet the tables hold passes exactly where the sheet keeps all eight rules, and is refused exactly
-- with the least rule that is broken, at the least place where it is
unfoldable pub DraftJudged : Board → List Point → List Edge → List Loop → ℕ → Result (Unit {0}) Refusal → Type 0
DraftJudged b points edges loops strokes said = is_loaded b ≡ true → SheetJudged b.size points edges loops strokes said
