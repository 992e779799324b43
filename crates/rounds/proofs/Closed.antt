-- The holes of a round, closed one after another.
use Rattle.std.proofs.Common.{◌≡◌, ℕ, suc, ◌+◌, ◌-◌, ◌<◌, ◌≤◌, Bool, true, false, cond, List, [], ◌++◌, length, map, nat_le, get_or, Option, Some, None, refl, sym, ap, ◌∙◌, append_assoc, arith}
use Rattle.std.proofs.lemmas.Bool.Decides.{nat_tests}
use Rattle.std.proofs.lemmas.List.{append-nil, length-append, length-map, take_at}
use Rattle.plane.specs.Points.{GridPoint}
use Rattle.tiling.specs.Triangles.{Triangle}
use Rattle.ears.specs.Ears.{cut_of}
use Rattle.fans.specs.declared.around.Turned.{Turned}
use Rattle.fans.specs.Around.{nodes_of}
use Rattle.fans.specs.Fans.{fan_of, fan_said, ring_of}
use Rattle.nodes.specs.declared.node.Node.{Node}
use Rattle.rounds.specs.declared.held.Held.{Held}
use Rattle.rounds.specs.Choices.{closed}
use Rattle.rounds.specs.Near.{closing_near, closings_near, filled, filling, hole_of, node_over, padded}

-- ---- the fan of a vertex, where there is room

pub fan_told : (ts : List Turned) (room : ℕ) → length ts ≤ room → fan_said ts room ≡ fan_of ts
fan_told ts room h = let fits : nat_le (length ts) room ≡ true = grind (arith, nat_tests) in ap (λ b. cond b (fan_of ts) None) fits

pub ruleset fans = (fan_told)

-- ---- one hole

pub hole_filled : (at : ℕ → GridPoint) (es : List Turned) → filling at (hole_of es) ≡ closed at [] [] es (cut_of at (ring_of es))
hole_filled at es =
    ap (λ ring. filled (hole_of es) (cut_of at ring)) (take_at (ring_of es) _ (length es) (length-map es (λ (t : Turned). t.next)))
    ∙ go (cut_of at (ring_of es))
  where
    go : (o : Option (List Triangle)) → filled (hole_of es) o ≡ closed at [] [] es o
    go None = refl
    go (Some ts) = ap (λ n. map (node_over n (padded (nodes_of es))) ts) (sym (length-map es (λ (t : Turned). t.node)))

pub ruleset holes = (hole_filled)

-- ---- all of them

module _ (at : ℕ → GridPoint) (held : List Held) (marks : List Bool) (old nodes : List Node) (v : ℕ)
    (same : old ++ closings_near at held marks (length marks - 4) 4 ≡ nodes ++ closings_near at held marks (length marks - v) v) where
  ahead : v < length marks → (b : Bool) → get_or marks v false ≡ b
      → old ++ closings_near at held marks (length marks - 4) 4
      ≡ nodes ++ (cond b (closing_near at held v) [] ++ closings_near at held marks (length marks - (v + 1)) (v + 1))
  unfolding closings_near
  ahead more b h =
      let steps : length marks - v ≡ suc (length marks - (v + 1)) = omega arith in
      same ∙ ap (λ k. nodes ++ closings_near at held marks k v) steps
      ∙ ap (λ b. nodes ++ (cond b (closing_near at held v) [] ++ closings_near at held marks (length marks - (v + 1)) (v + 1))) h

  pub closing_skip : v < length marks → get_or marks v false ≡ false
      → old ++ closings_near at held marks (length marks - 4) 4 ≡ nodes ++ closings_near at held marks (length marks - (v + 1)) (v + 1)
  closing_skip more h = ahead more false h

  pub closing_more : (new : List Node) → v < length marks → get_or marks v false ≡ true → new ≡ nodes ++ closing_near at held v
      → old ++ closings_near at held marks (length marks - 4) 4 ≡ new ++ closings_near at held marks (length marks - (v + 1)) (v + 1)
  closing_more new more h e =
      ahead more true h ∙ sym (append_assoc nodes (closing_near at held v) _)
      ∙ ap (λ ns. ns ++ closings_near at held marks (length marks - (v + 1)) (v + 1)) (sym e)

  pub closing_room : (room : ℕ) → v < length marks → get_or marks v false ≡ true
      → length old + length (closings_near at held marks (length marks - 4) 4) ≤ room → length nodes + length (closing_near at held v) ≤ room
  closing_room room more h fits =
      let all = ap length (ahead more true h) in
      let left = length-append old (closings_near at held marks (length marks - 4) 4) in
      let right = length-append nodes (closing_near at held v ++ closings_near at held marks (length marks - (v + 1)) (v + 1)) in
      let here = length-append (closing_near at held v) (closings_near at held marks (length marks - (v + 1)) (v + 1)) in
      omega arith

  pub closing_all : length marks ≤ v → nodes ≡ old ++ closings_near at held marks (length marks - 4) 4
  unfolding closings_near
  closing_all past =
      let none : length marks - v ≡ 0 = omega arith in
      sym (same ∙ ap (λ k. nodes ++ closings_near at held marks k v) none ∙ append-nil nodes)

pub ruleset closing = (closing_skip, closing_more, closing_room, closing_all)
