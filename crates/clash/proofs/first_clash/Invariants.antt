use Rattle.std.proofs.Common.{◌≡◌, take, drop}
use Rattle.clash.specs.Clashes.{first_clash_in, first_clash_from}
use Rattle.clash.proofs.first_clash.Given as goal

-- what the elements up to here leave to those that follow
abbrev pub invariant-loop-later : goal.invariant-loop-later
invariant-loop-later g l = first_clash_in g.T.Clash.clashes l.items ≡ first_clash_from g.T.Clash.clashes (take l.later l.items) (drop l.later l.items)
