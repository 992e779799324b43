use Rattle.std.proofs.Common.{◌≡◌, take}
use Rattle.lent.specs.Kept.{kept, puts}
use Rattle.sheet.proofs.body.append_all.Given as goal

abbrev pub invariant-loop-item : goal.invariant-loop-item
invariant-loop-item g l =
    (kept l.list.items.now l.list.count ≡ puts (kept l.initial.list.items.now l.initial.list.count) (take l.item-index l.items))
    × (l.list.items.ghost_name ≡ l.initial.list.items.ghost_name)
