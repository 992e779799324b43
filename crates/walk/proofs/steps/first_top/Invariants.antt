use Rattle.std.proofs.Common.{◌≡◌, ◌*◌, ◌≤◌, drop}
use Rattle.walk.specs.Walks.{first_top, vertex_read}
use Rattle.walk.proofs.steps.first_top.Given as goal

-- what the entries up to here leave to those that follow
abbrev pub invariant-loop-i : goal.invariant-loop-i
invariant-loop-i g l =
    (first_top (vertex_read l.size l.points) (g.K.Kernel.means l.tip) (g.S.ReadStore.nodes l.store) 0 0 l.tops 0
    ≡ first_top (vertex_read l.size l.points) (g.K.Kernel.means l.tip) (g.S.ReadStore.nodes l.store) l.i l.least (drop l.i l.tops) l.tests)
    × (l.tests ≤ 3 * l.i) × (l.i ≤ l.least) × (l.least ≤ 65536)
