use Rattle.std.proofs.Common.{◌≡◌, []}
use Rattle.lent.specs.Kept.{kept, puts}
use Rattle.reader.specs.Kinds.{vertex}
use Rattle.sheet.proofs.Several.{Sofar}
use Rattle.sheet.proofs.body.read_vertices.Given as goal

abbrev pub invariant-loop-done : goal.invariant-loop-done
invariant-loop-done l =
    Sofar (λ file _. vertex l.width l.height file) l.initial.reader.file.now [] l.count l.initial.reader.at l._done l.reader.file.now l.reader.at
    (λ done. kept l.points.items.now l.points.count ≡ puts (kept l.initial.points.items.now l.initial.points.count) done)
    × (l.points.items.ghost_name ≡ l.initial.points.items.ghost_name)
