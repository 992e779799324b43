use Rattle.std.proofs.Common.{[]}
use Rattle.sheet.specs.Files.{label, Within}
use Rattle.sheet.proofs.Labelling.{Found}
use Rattle.sheet.proofs.Several.{Sofar}
use Rattle.sheet.proofs.labels.read_labels.Given as goal

abbrev pub invariant-loop-done : goal.invariant-loop-done
invariant-loop-done l =
    Sofar label l.initial.reader.file.now [] l.count l.initial.reader.at l._done l.reader.file.now l.reader.at (Found l.wanted l.seen l.found)
    × Within l.initial.reader.file.now l.found
