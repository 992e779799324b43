-- A desk at the start, and what a load takes of it.
use Rattle.std.specs.Prelude.{◌≡◌, ℕ, List, length, replicate, Option, Result, vec_len}
use Rattle.nodes.specs.declared.node.Node.{Node}
use Rattle.refusal.specs.declared.Refusal.{Refusal}
use Rattle.plane.specs.Points.{Spot}
use Rattle.sheet.specs.Sheets.{Sheet}
use Rattle.walk.specs.declared.Found.{Found}
use Rattle.rounds.specs.Rounds.{Rounded}
use Rattle.board.specs.Turns.{bare, checks, cuts, lists, loads, rounds}
use Rattle.desk.specs.declared.Desk.{Desk}
use Rattle.desk.specs.declared.Lengths.{Lengths}

-- an empty Draft, over tables of these lengths, of which each entry is zeros
pub record IsFresh (l : Lengths) (d : Desk) : Type 0 where
  pub board : d.board ≡ bare
  pub points : d.points.items ≡ replicate l.points (record { x = 0; y = 0 })
  pub edges : d.edges.items ≡ replicate l.edges (record { from = 0; to = 0 })
  pub strokes : d.strokes.items ≡ replicate l.strokes (record { edge = record { from = 0; to = 0 }; start = record { x = 0; y = 0 }; end = record { x = 0; y = 0 } })
  pub loops : d.loops.items ≡ replicate l.loops (record { numeral = 0; start = 0; corners = 0 })
  pub live : d.live.items ≡ replicate l.live 0

-- the tables of a sheet that was taken are as they were
pub record TablesStay (old new : Desk) : Type 0 where
  pub points : new.points.items ≡ old.points.items
  pub edges : new.edges.items ≡ old.edges.items
  pub loops : new.loops.items ≡ old.loops.items
  pub strokes : new.strokes.items ≡ old.strokes.items

-- what a check of the desk's tables answers
abbrev pub desk_checks : Desk → Result (Unit {0}) Refusal
desk_checks d = checks d.board d.points.items d.edges.items d.loops.items (vec_len d.strokes)

-- what a cut of the desk's tables makes
abbrev pub desk_cuts : Desk → ℕ → Result (List Node) Refusal
desk_cuts d room = cuts d.board d.points.items d.edges.items d.loops.items (length d.live.items) room

-- what a round over the desk's tables makes
abbrev pub desk_rounds : Desk → List Node → ℕ → Result Rounded Refusal
desk_rounds d nodes room = rounds d.board d.points.items d.live.items nodes room

-- what a list over the desk's tables writes
abbrev pub desk_lists : Desk → List Node → List (Option Spot) → (room : ℕ) → Result (List (Result Found Refusal)) Refusal
desk_lists d nodes tips room = lists d.board d.points.items d.live.items nodes tips room

-- what a load takes over the desk's tables
abbrev pub desk_loads : Desk → List ℕ → Result Sheet Refusal
desk_loads d file = loads d.board d.points.items d.edges.items d.loops.items d.live.items file
