-- What a check tells of the sheet that the tables hold, in the words of the rules.
use Rattle.std.proofs.Common.{◌≡◌, ℕ, false, List, Result, length, ◌∙◌}
use Rattle.std.proofs.lemmas.Bool.{false≢true}
use Rattle.plane.specs.declared.Edge.{Edge}
use Rattle.plane.specs.declared.Point.{Point}
use Rattle.refusal.specs.declared.Refusal.{Refusal}
use Rattle.sheet.specs.declared.tables.Loop.{Loop}
use Rattle.checking.specs.Checks.{check_room}
use Rattle.checking.specs.Judging.{SheetJudged}
use Rattle.checking.proofs.Judged.{short_judged}
use Rattle.board.specs.declared.stage.Board.{Board}
use Rattle.board.specs.Judging.{DraftJudged}
use Rattle.board.specs.Turns.{is_loaded}

pub loaded_judged : (b : Board) (ps : List Point) (es : List Edge) (ls : List Loop) (room : ℕ) (said : Result (Unit {0}) Refusal)
    → SheetJudged b.size ps es ls room said → DraftJudged b ps es ls room said
unfolding DraftJudged
loaded_judged b ps es ls room said h loaded = h

-- nothing is told of a board that is not loaded, or of tables that are too short
pub none_judged : (b : Board) (ps : List Point) (es : List Edge) (ls : List Loop) (room : ℕ) (said : Result (Unit {0}) Refusal)
    → false ≡ is_loaded b → DraftJudged b ps es ls room said
unfolding DraftJudged
none_judged b ps es ls room said h loaded = absurd (false≢true (h ∙ loaded))

pub short_drafts : (b : Board) (ps : List Point) (es : List Edge) (ls : List Loop) (room : ℕ) (said : Result (Unit {0}) Refusal)
    → false ≡ check_room (length ps) (length es) (length ls) room → DraftJudged b ps es ls room said
unfolding DraftJudged
short_drafts b ps es ls room said h loaded = short_judged b.size ps es ls room said h
