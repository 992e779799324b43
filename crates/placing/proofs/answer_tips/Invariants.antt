use Rattle.std.proofs.Common.{◌≡◌, length, map, take}
use Rattle.lent.specs.Kept.{over}
use Rattle.placing.specs.Placings.{list_said}
use Rattle.placing.proofs.answer_tips.Given as goal

-- the tips up to here have their entries
abbrev pub invariant-loop-i : goal.invariant-loop-i
invariant-loop-i g l =
    (l.answers ≡ over (list_said l.size 0 l.points (g.S.ReadStore.nodes l.store) l.tops (take l.i (map g.K.Kernel.means l.tips))) l.initial.answers)
    × (length l.answers ≡ length l.initial.answers)
