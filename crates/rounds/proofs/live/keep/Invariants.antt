use Rattle.std.proofs.Common.{◌≡◌, take}
use Rattle.lent.specs.Kept.{kept, puts}
use Rattle.rounds.specs.Near.{kept_near}
use Rattle.rounds.proofs.live.keep.Given as goal

-- those up to here are in the list
abbrev pub invariant-loop-item : goal.invariant-loop-item
invariant-loop-item l =
    (kept l.live.items.now l.live.count ≡ puts (kept l.initial.live.items.now l.initial.live.count) (kept_near l.marks (take l.item-index l.held)))
    × (l.live.items.ghost_name ≡ l.initial.live.items.ghost_name)
