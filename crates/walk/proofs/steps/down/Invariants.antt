use Rattle.std.proofs.Common.{◌≡◌, ◌+◌, ◌*◌, ◌-◌, ◌≤◌, length, Some}
use Rattle.walk.specs.Walks.{down_from, vertex_read, walked}
use Rattle.walk.proofs.steps.down.Given as goal

-- what the steps up to here leave to those that follow
abbrev pub invariant-loop-step : goal.invariant-loop-step
invariant-loop-step g l =
    (down_from (vertex_read l.size l.points) (g.K.Kernel.means l.tip) (g.S.ReadStore.nodes l.store) (length (g.S.ReadStore.nodes l.store)) l.k l.tests
    ≡ down_from (vertex_read l.size l.points) (g.K.Kernel.means l.tip) (g.S.ReadStore.nodes l.store) (length (g.S.ReadStore.nodes l.store) - l._step) l.node l.at.tests)
    × (l.at ≡ walked (Some l.node) l.at.tests) × (l.at.tests + 24 * l.node ≤ 4294967295 - 24)
