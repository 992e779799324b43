-- What is known where no number is outside its range.
use Rattle.std.proofs.Common.{◌≡◌, ℕ, ◌+◌, ◌*◌, ◌-◌, ◌<◌, ◌≤◌, Bool, true, false, cond, ◌&&◌, List, [], ◌∷◌, length, nat_le, nat_lt, Option, Some, None, Ok, Err, refl, ap, ◌∙◌, arith}
use Rattle.std.proofs.lemmas.Bool.{and_parts}
use Rattle.std.proofs.lemmas.Bool.Decides.{nat_tests}
use Rattle.plane.specs.declared.Point.{Point}
use Rattle.refusal.specs.declared.Cause.TheVariants.{OutOfRange}
use Rattle.refusal.specs.declared.Layer.TheVariants.{Store}
use Rattle.refusal.specs.Numbers.{refused}
use Rattle.nodes.specs.declared.node.Node.{Node}
use Rattle.sheet.specs.declared.tables.Size.{Size}
use Rattle.checking.specs.Entries.{is_size, is_within, wrong_point, wrong_vertex}
use Rattle.fans.specs.Around.{live_said}
use Rattle.rounds.specs.Rounds.{is_live, most_nodes, or_next, wrong_live, wrong_nodes, wrong_number}

-- ---- no wrong number among two, and none behind a test

neither : (p q : Option ℕ) → or_next p q ≡ None → (p ≡ None) × (q ≡ None)
neither None q h = (refl, h)
neither (Some i) q h = cc

passed : (b : Bool) (p : Option ℕ) (i : ℕ) → cond b p (Some i) ≡ None → (b ≡ true) × (p ≡ None)
passed true p i h = (refl, h)
passed false p i h = cc

-- ---- the live numbers

record Rightly (nodes : List Node) (least : ℕ) (live : List ℕ) : Type 0 where
  pub told : live_said nodes live ≡ Ok tt
  pub few : length live ≤ length nodes - least

rightly : (nodes : List Node) (least at : ℕ) (live : List ℕ) → wrong_live (length nodes) least at live ≡ None → Rightly nodes least live
unfolding live_said
rightly nodes least at [] h = record { told = refl; few = omega arith }
rightly nodes least at (k ∷ live) h =
    let p = passed (is_live (length nodes) least k) _ _ h in
    let q = and_parts (nat_le least k) (nat_lt k (length nodes)) p.0 in
    let above = q.0 in
    let below = q.1 in
    let r = rightly nodes (k + 1) (at + 1) live p.1 in
    let rest = r.few in
    let from : least ≤ k = grind (arith, nat_tests) in
    let to : k < length nodes = grind (arith, nat_tests) in
    record {
      told = ap (λ b. cond b (live_said nodes live) (Err (refused OutOfRange Store k))) below ∙ r.told;
      few = omega arith;
    }

pub nodes_told : (n : ℕ) (nodes : List Node) (live : List ℕ) → wrong_nodes n nodes live ≡ None → live_said nodes live ≡ Ok tt
nodes_told n nodes live h =
    let q = passed (nat_le (length nodes) (most_nodes n)) _ _ h in
    (rightly nodes 0 0 live (neither (wrong_live (length nodes) 0 0 live) _ q.1).0).told

-- ---- all of them

module _ (z : Size) (ps : List Point) (nodes : List Node) (live : List ℕ) (h : wrong_number z ps nodes live ≡ None) where
  parts : (wrong_vertex z ps ≡ None) × (nat_le (length nodes) (most_nodes z.inner) ≡ true) × (wrong_live (length nodes) 0 0 live ≡ None)
  parts =
      let p = neither (wrong_vertex z ps) _ h in
      let q = passed (nat_le (length nodes) (most_nodes z.inner)) _ _ p.1 in
      (p.0, q.0, (neither (wrong_live (length nodes) 0 0 live) _ q.1).0)

  pub right_size : z.inner ≤ 1024
  right_size =
      let size = (passed (is_size z) (wrong_point z ps) 0 parts.0).0 in
      let inner = (and_parts (nat_le z.inner 1024) _ (and_parts (is_within 2 8191 z.width && is_within 2 8191 z.height) _ size).1).0 in
      grind (arith, nat_tests)

  pub right_nodes : length nodes ≤ 8194
  right_nodes =
      let few = parts.1 in
      let size = right_size in
      let most : length nodes ≤ 8 * z.inner + 2 = grind (arith, nat_tests) in
      omega arith

  pub right_told : live_said nodes live ≡ Ok tt
  right_told = (rightly nodes 0 0 live parts.2).told

  pub right_few : length live ≤ 8194
  right_few =
      let few = (rightly nodes 0 0 live parts.2).few in
      let nodes = right_nodes in
      omega arith

pub ruleset right = (right_size)
