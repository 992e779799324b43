-- The cut over the fronts of tables that hold a sheet.
use Rattle.std.proofs.Common.{◌≡◌, ℕ, ◌+◌, ◌*◌, ◌≤◌, ◌==◌, true, false, cond, List, None, Some, Ok, Err, Result, is_some, length, map, nat_lt, refl, sym, ap, ◌∙◌, arith}
use Rattle.std.specs.List.{range_with_len}
use Rattle.std.proofs.lemmas.Bool.{cond-false, cond-true}
use Rattle.std.proofs.lemmas.Bool.Decides.{nat_tests}
use Rattle.lent.specs.Kept.{over}
use Rattle.plane.specs.declared.Edge.{Edge}
use Rattle.plane.specs.declared.Point.{Point}
use Rattle.plane.specs.Points.{place_of}
use Rattle.nodes.specs.declared.node.Node.{Node}
use Rattle.rules.specs.Held.{sum_broken_at, triangles_at}
use Rattle.rules.specs.Rules.{triangles_in}
use Rattle.sheet.specs.declared.tables.Loop.{Loop}
use Rattle.checking.specs.Held.{ring_at}
use Rattle.bottom.specs.Bottom.{cut_loops}
use Rattle.bottom.specs.Cuts.{answered, cut_live, filled_said, fronts_cut, or_stuck}
use Rattle.bottom.proofs.Filling.{counted}

-- where rule 13 is kept, the loops are cut into as many triangles as it says
pub sum_kept : (n : ℕ) (ls : List Loop) → is_some (sum_broken_at n ls) ≡ false → triangles_at ls ≡ 2 * n + 2
sum_kept n ls h = right (triangles_at ls) (2 * n + 2) h
  where
    right : (a b : ℕ) → is_some {T = ℕ} (cond (a == b) None (Some 0)) ≡ false → a ≡ b
    right a b h = grind (arith, nat_tests)

fits : (room needed : ℕ) → needed ≤ room → nat_lt room needed ≡ false
fits room needed h = grind (arith, nat_tests)

same : (a b : ℕ) → a ≡ b → (a == b) ≡ true
same a b h = grind (arith, nat_tests)

live_all : (n : ℕ) (live : List ℕ) (r : Result (List Node) ℕ) → Ok tt ≡ filled_said r → ((ns : List Node) → r ≡ Ok ns → length ns ≡ n)
    → over (range_with_len 0 n) live ≡ cut_live (or_stuck r) live
live_all n live (Ok ns) h count = ap (λ k. over (range_with_len 0 k) live) (sym (count ns refl))
live_all n live (Err l) h count = cc

said_all : (n : ℕ) (r : Result (List Node) ℕ) → Ok tt ≡ filled_said r → ((ns : List Node) → r ≡ Ok ns → length ns ≡ n) → Ok n ≡ answered (or_stuck r)
said_all n (Ok ns) h count = ap Ok (sym (count ns refl))
said_all n (Err l) h count = cc

module _ (room n : ℕ) (ps : List Point) (listed es : List Edge) (ls : List Loop) (sum : triangles_at ls ≡ 2 * n + 2) (long : 2 * n + 2 ≤ room)
    (rows : triangles_in (map (ring_at es) ls) ≡ triangles_at ls) (said : Ok tt ≡ filled_said (cut_loops (place_of ps) listed 0 (map (ring_at es) ls))) where
  cut : Result (List Node) ℕ
  cut = cut_loops (place_of ps) listed 0 (map (ring_at es) ls)

  count : (ns : List Node) → cut ≡ Ok ns → length ns ≡ 2 * n + 2
  unfolding cut
  count ns h = counted (place_of ps) listed room 0 (map (ring_at es) ls) ns h ∙ rows ∙ sum

  is_cut : fronts_cut room n ps listed es ls ≡ or_stuck cut
  unfolding cut
  is_cut = cond-true _ _ _ (same _ _ sum) ∙ cond-false _ _ _ (fits room (2 * n + 2) long)

  -- so many nodes are told, and all of them are live then
  pub said_told : Ok (2 * n + 2) ≡ answered (fronts_cut room n ps listed es ls)
  unfolding cut
  said_told = said_all (2 * n + 2) cut said count ∙ ap answered (sym is_cut)

  pub live_told : (live : List ℕ) → over (range_with_len 0 (2 * n + 2)) live ≡ cut_live (fronts_cut room n ps listed es ls) live
  unfolding cut
  live_told live = live_all (2 * n + 2) live cut said count ∙ ap (λ said. cut_live said live) (sym is_cut)
