use Rattle.std.proofs.Common.{◌≡◌, ◌+◌, ◌*◌, drop}
use Rattle.rules.specs.Held.{triangles_at}
use Rattle.rules.proofs.counts.sum_broken.Given as goal

-- the loops from here on are short of what is missing by as much as all of them are of what tiles the sheet
abbrev pub invariant-loop-item : goal.invariant-loop-item
invariant-loop-item l = triangles_at l.loops + l.missing ≡ (2 * l.inner + 2) + triangles_at (drop l.item-index l.loops)
