-- Sheets whose stage is their type, as boards at that stage.
use Rattle.std.specs.Prelude.{Ok, Err, Result}
use Rattle.refusal.specs.declared.Refusal.{Refusal}
use Rattle.board.specs.declared.stage.Board.{Board}
use Rattle.board.specs.declared.stage.Stage.TheVariants.{Draft as AtDraft, Checked as AtChecked, Layered as AtLayered, Sealed as AtSealed}
use Rattle.board.specs.declared.typed.Checked.{Checked}
use Rattle.board.specs.declared.typed.Draft.{Draft}
use Rattle.board.specs.declared.typed.Layered.{Layered}
use Rattle.board.specs.declared.typed.Refused.{Refused}
use Rattle.board.specs.declared.typed.Sealed.{Sealed}
use Rattle.board.specs.Turns.{board}

abbrev pub draft_board : Draft → Board
draft_board s = board AtDraft s.size 0 0

abbrev pub checked_board : Checked → Board
checked_board s = board AtChecked s.size 0 0

abbrev pub layered_board : Layered → Board
layered_board s = board AtLayered s.size s.live s.rounds

abbrev pub sealed_board : Sealed → Board
sealed_board s = board AtSealed s.size s.live s.rounds

-- whether a turn was granted, or its refusal
abbrev pub said_of : {X Y : Type 0} → Result X (Refused Y) → Result (Unit {0}) Refusal
said_of (Ok x) = Ok tt
said_of (Err r) = Err r.refusal

-- the board after a turn: of the new sheet, or of the one that is given back
abbrev pub board_of : {X Y : Type 0} → (X → Board) → (Y → Board) → Result X (Refused Y) → Board
board_of new old (Ok x) = new x
board_of new old (Err r) = old r.sheet
