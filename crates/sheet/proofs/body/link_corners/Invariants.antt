use Rattle.std.proofs.Common.{◌≡◌, [], ◌∷◌}
use Rattle.lent.specs.Kept.{kept}
use Rattle.reader.specs.Kinds.{corner}
use Rattle.sheet.proofs.Links.{Linked}
use Rattle.sheet.proofs.Several.{Sofar}
use Rattle.sheet.proofs.body.link_corners.Given as goal

abbrev pub invariant-loop-done : goal.invariant-loop-done
invariant-loop-done l =
    Sofar (λ file _. corner l.vertices file) l.initial.reader.file.now (l.first ∷ []) l.more l.initial.reader.at l._done l.reader.file.now l.reader.at
    (Linked l.first l.last (kept l.initial.edges.items.now l.initial.edges.count) (kept l.edges.items.now l.edges.count))
    × (l.edges.items.ghost_name ≡ l.initial.edges.items.ghost_name)
