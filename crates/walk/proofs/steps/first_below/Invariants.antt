use Rattle.std.proofs.Common.{◌≡◌, ◌+◌, ◌*◌, ◌≤◌, drop, length}
use Rattle.walk.specs.Walks.{first_child, vertex_read}
use Rattle.walk.proofs.steps.first_below.Given as goal

-- what the numbers up to here leave to those that follow
abbrev pub invariant-loop-k : goal.invariant-loop-k
invariant-loop-k g l =
    (first_child (vertex_read l.size l.points) (g.K.Kernel.means l.tip) (g.S.ReadStore.nodes l.store) l.node l.numbers l.initial.tests
    ≡ first_child (vertex_read l.size l.points) (g.K.Kernel.means l.tip) (g.S.ReadStore.nodes l.store) l.node (drop l.k-index l.numbers) l.tests)
    × (l.tests ≤ l.initial.tests + 3 * l.k-index)
