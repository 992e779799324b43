use Rattle.std.proofs.Common.{◌≡◌, length, map, take}
use Rattle.bottom.proofs.loops.fill.Given as goal

-- the vertices up to here are in place
abbrev pub invariant-loop-i : goal.invariant-loop-i
invariant-loop-i l = (take l.i l.ring ≡ map (λ e. e.from) (take l.i l.row)) × (length l.ring ≡ length l.initial.ring)
