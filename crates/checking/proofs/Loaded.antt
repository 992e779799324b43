-- What a load leaves in tables is held there.
use Rattle.std.proofs.Common.{◌≡◌, List, length, drop, refl}
use Rattle.lent.specs.Kept.{over}
use Rattle.sheet.specs.Sheets.{edges_of, loops_of, points_of}
use Rattle.sheet.proofs.Legals.{sheet_taken}
use Rattle.checking.specs.Held.{LoadedIsHeld}
use Rattle.checking.proofs.Fronts.{over_front}

twice : {X : Type 0} (xs items : List X) → over xs (over xs items) ≡ over xs items
twice xs items = over_front xs (drop (length xs) items) (over xs items) refl

pub loaded_is_held : LoadedIsHeld
loaded_is_held file s ps es ls h =
    record { legal = sheet_taken file s h; size = refl; points = twice (points_of s) ps; edges = twice (edges_of s) es; loops = twice (loops_of s) ls }
