use Rattle.std.proofs.Common.{◌≡◌, ◌≤◌, drop, length, take}
use Rattle.board.specs.Histories.{Runs}
use Rattle.runs.specs.Plays.{all_filled, history, state_of}
use Rattle.runs.proofs.go_on.Given as goal

-- the turns up to here are a run, and have filled so many entries of the table of answers; those behind are as they were
abbrev pub invariant-loop-i : goal.invariant-loop-i
invariant-loop-i g l =
    Runs (state_of l.fn.desk (g.S.ReadStore.nodes l.fn.store) (g.S.WriteStore.room l.fn.store)) (history g.K.Kernel.means (take l.i l.turns) (take l.i l.outcomes) l.answers)
    (state_of l.desk (g.S.ReadStore.nodes l.store) (g.S.WriteStore.room l.store))
    × (l.used ≡ all_filled (take l.i l.turns) (take l.i l.outcomes)) × (l.used ≤ length l.answers)
    × (drop l.used l.answers ≡ drop l.used l.fn.answers) × (drop l.i l.outcomes ≡ drop l.i l.fn.outcomes)
