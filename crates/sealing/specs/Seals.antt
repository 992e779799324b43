-- What a seal answers.
use Rattle.std.specs.Prelude.{ℕ, ◌==◌, cond, List, length, nat_le, Some, None, Option, Ok, Err, Result}
use Rattle.refusal.specs.declared.Cause.TheVariants.{OutOfRange, VerticesLeft}
use Rattle.refusal.specs.declared.Layer.TheVariants.{Build}
use Rattle.refusal.specs.declared.Refusal.{Refusal}
use Rattle.refusal.specs.Numbers.{refused}
use Rattle.fans.specs.Around.{left_from}
use Rattle.nodes.specs.declared.node.Node.{Node}
use Rattle.rounds.specs.Rounds.{wrong_nodes}

-- vertices that are left are told; where none is, two nodes are live, unless something was altered
abbrev pub left_said : (left live : ℕ) → Result (Unit {0}) Refusal
left_said left live =
    cond (left == 0) (cond (live == 2) (Ok tt) (Err (refused OutOfRange Build live))) (Err (refused VerticesLeft Build left))

abbrev pub seal_next : Option ℕ → Result (Unit {0}) Refusal → Result (Unit {0}) Refusal
seal_next None said = said
seal_next (Some i) said = Err (refused OutOfRange Build i)

-- a seal of a sheet with n inner vertices, over these nodes, of which some are live: first a number of them outside its range; no sheet
-- has more than 1,024 inner vertices
unfoldable pub seal_said : ℕ → List Node → List ℕ → Result (Unit {0}) Refusal
seal_said n nodes live =
    cond (nat_le n 1024) (seal_next (wrong_nodes n nodes live) (left_said (left_from nodes live n 4) (length live))) (Err (refused OutOfRange Build 0))
