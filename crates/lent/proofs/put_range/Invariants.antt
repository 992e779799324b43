use Rattle.std.proofs.Common.{◌≡◌, ◌-◌, ◌≤◌}
use Rattle.std.specs.List.{range_with_len}
use Rattle.lent.specs.Kept.{kept, puts}
use Rattle.lent.proofs.put_range.Given as goal

-- those up to here were put
abbrev pub invariant-loop-number : goal.invariant-loop-number
invariant-loop-number l =
    (kept l.list.items.now l.list.count ≡ puts (kept l.initial.list.items.now l.initial.list.count) (range_with_len l.first (l.number - l.first)))
    × (l.list.items.ghost_name ≡ l.initial.list.items.ghost_name)
    × (l.first ≤ l.number)
    × (l.number - l.first ≤ l.end - l.first)
