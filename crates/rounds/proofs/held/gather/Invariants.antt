use Rattle.std.proofs.Common.{◌≡◌, ◌≤◌, length, take}
use Rattle.rounds.specs.Near.{near}
use Rattle.rounds.proofs.held.gather.Given as goal

-- the front of the table has those among the nodes up to here
abbrev pub invariant-loop-item : goal.invariant-loop-item
invariant-loop-item l =
    (take l.count l.found ≡ near (take l.item-index l.held) l.vertex) × (l.count ≤ l.item-index) × (length l.found ≡ length l.initial.found)
