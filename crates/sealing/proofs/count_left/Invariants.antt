use Rattle.std.proofs.Common.{◌≡◌, ◌+◌, ◌-◌, ◌≤◌}
use Rattle.fans.specs.Around.{left_from}
use Rattle.sealing.proofs.count_left.Given as goal

-- those that are counted, and those from here on, are all
abbrev pub invariant-loop-v : goal.invariant-loop-v
invariant-loop-v g l =
    (l.left + left_from (g.S.ReadStore.nodes l.store) l.live (l.inner - l.v) (l.v + 4) ≡ left_from (g.S.ReadStore.nodes l.store) l.live l.inner 4) × (l.left ≤ l.v)
