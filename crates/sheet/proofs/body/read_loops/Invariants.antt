use Rattle.std.proofs.Common.{◌≡◌, ◌≤◌, []}
use Rattle.lent.specs.Kept.{kept}
use Rattle.sheet.specs.Files.{ring}
use Rattle.sheet.specs.Sheets.{corners_in}
use Rattle.sheet.proofs.Looped.{Looped}
use Rattle.sheet.proofs.Several.{Sofar}
use Rattle.sheet.proofs.body.read_loops.Given as goal

abbrev pub invariant-loop-done : goal.invariant-loop-done
invariant-loop-done l =
    Sofar (λ file before. ring l.vertices (corners_in before) file) l.initial.reader.file.now [] l.count l.initial.reader.at l._done l.reader.file.now l.reader.at
    (Looped l.start (kept l.initial.edges.items.now l.initial.edges.count) (kept l.edges.items.now l.edges.count)
    (kept l.initial.loops.items.now l.initial.loops.count) (kept l.loops.items.now l.loops.count))
    × (l.edges.items.ghost_name ≡ l.initial.edges.items.ghost_name)
    × (l.loops.items.ghost_name ≡ l.initial.loops.items.ghost_name)
    × (l.start ≤ 6150)
