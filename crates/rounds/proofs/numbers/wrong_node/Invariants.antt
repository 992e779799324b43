use Rattle.std.proofs.Common.{◌≡◌, drop}
use Rattle.rounds.specs.Rounds.{wrong_node}
use Rattle.rounds.proofs.numbers.wrong_node.Given as goal

-- what the nodes up to here leave to those that follow
abbrev pub invariant-loop-k : goal.invariant-loop-k
invariant-loop-k g l =
    wrong_node l.vertices (g.S.ReadStore.nodes l.store) l.live
    ≡ wrong_node l.vertices (g.S.ReadStore.nodes l.store) (drop l.k-index l.live)
