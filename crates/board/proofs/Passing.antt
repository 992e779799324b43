-- What a check tells of the sheet that the tables hold.
use Rattle.std.proofs.Common.{◌≡◌, ℕ, false, List, Result, length, ◌∙◌}
use Rattle.std.proofs.lemmas.Bool.{false≢true}
use Rattle.plane.specs.declared.Edge.{Edge}
use Rattle.plane.specs.declared.Point.{Point}
use Rattle.refusal.specs.declared.Refusal.{Refusal}
use Rattle.sheet.specs.declared.tables.Loop.{Loop}
use Rattle.checking.specs.Checks.{SheetChecked, check_room}
use Rattle.board.specs.declared.stage.Board.{Board}
use Rattle.board.specs.Turns.{SheetPasses, is_loaded}

pub loaded_passes : (b : Board) (ps : List Point) (es : List Edge) (ls : List Loop) (room : ℕ) (said : Result (Unit {0}) Refusal)
    → SheetChecked b.size ps es ls room said → SheetPasses b ps es ls room said
unfolding SheetPasses SheetChecked
loaded_passes b ps es ls room said h s holds loaded long = h s holds long

-- nothing is told of a board that is not loaded, or of tables that are too short
pub none_passes : (b : Board) (ps : List Point) (es : List Edge) (ls : List Loop) (room : ℕ) (said : Result (Unit {0}) Refusal)
    → false ≡ is_loaded b → SheetPasses b ps es ls room said
unfolding SheetPasses
none_passes b ps es ls room said h s holds loaded long = absurd (false≢true (h ∙ loaded))

pub short_passes : (b : Board) (ps : List Point) (es : List Edge) (ls : List Loop) (room : ℕ) (said : Result (Unit {0}) Refusal)
    → false ≡ check_room (length ps) (length es) (length ls) room → SheetPasses b ps es ls room said
unfolding SheetPasses
short_passes b ps es ls room said h s holds loaded long = absurd (false≢true (h ∙ long))
