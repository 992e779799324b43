use Rattle.rules.proofs.Listing.{Drawn}
use Rattle.rules.proofs.strokes.draw.Given as goal

-- the front of the slice has the strokes of the edges up to here
abbrev pub invariant-loop-i : goal.invariant-loop-i
invariant-loop-i l = Drawn l.points l.edges l.strokes l.count l.i
