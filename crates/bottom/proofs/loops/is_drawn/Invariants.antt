use Rattle.std.proofs.Common.{◌≡◌, drop}
use Rattle.bottom.specs.Bottom.{is_drawn}
use Rattle.bottom.proofs.loops.is_drawn.Given as goal

-- what the edges up to here leave to those that follow
abbrev pub invariant-loop-edge : goal.invariant-loop-edge
invariant-loop-edge l = is_drawn l.edges l.u l.v ≡ is_drawn (drop l.edge-index l.edges) l.u l.v
