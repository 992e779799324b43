-- What a granted round found: vertices were left, and it took out no fewer than an eighteenth of them.
use Rattle.std.proofs.Common.{◌≡◌, ℕ, zero, suc, ◌+◌, ◌*◌, ◌<◌, ◌≤◌, ◌==◌, Bool, true, false, cond, List, Some, None, Option, Ok, Err, Result, length, nat_lt, refl, arith}
use Rattle.std.proofs.lemmas.Bool.Decides.{nat_tests}
use Rattle.plane.specs.declared.Point.{Point}
use Rattle.plane.specs.Points.{place_of}
use Rattle.refusal.specs.declared.Cause.TheVariants.{NoneLeft, OutOfRange, StoreFull, Stuck}
use Rattle.refusal.specs.declared.Layer.TheVariants.{Build}
use Rattle.refusal.specs.declared.Refusal.{Refusal}
use Rattle.refusal.specs.Numbers.{refused}
use Rattle.fans.specs.Around.{degree, left_from}
use Rattle.nodes.specs.declared.node.Node.{Node}
use Rattle.sheet.specs.declared.tables.Size.{Size}
use Rattle.rounds.specs.Choices.{Found, look_all, rounded_live, rounded_nodes}
use Rattle.rounds.specs.Rounds.{Rounded, look_said, round_next, round_said, unless, wrong_number}

-- no more are left than there are
pub left_most : (nodes : List Node) (live : List ℕ) (n v : ℕ) → left_from nodes live n v ≤ n
left_most nodes live zero v = omega arith
left_most nodes live (suc n) v =
    let rest = left_most nodes live n (v + 1) in
    let one = at_most_one (nat_lt 0 (degree nodes live v)) in
    omega (arith, rest, one)
  where
    at_most_one : (b : Bool) → cond b 1 0 ≤ 1
    at_most_one true = omega arith
    at_most_one false = omega arith

none_of : (p q r s : Bool) (a b c d : Refusal) (x y : Rounded)
    → unless (cond p (Some a) (cond q (Some b) (cond r (Some c) (cond s (Some d) None)))) x ≡ Ok y → (p ≡ false) × (q ≡ false) × (x ≡ y)
none_of true q r s a b c d x y h = cc
none_of false true r s a b c d x y h = cc
none_of false false true s a b c d x y h = cc
none_of false false false true a b c d x y h = cc
none_of false false false false a b c d x y h = (refl, refl, cc)

module _ (z : Size) (ps : List Point) (nodes : List Node) (live : List ℕ) (rounds room table : ℕ) (r : Rounded) where
  -- what it found, and what it made of it
  abbrev pub Finds : Result Found ℕ → Type 0
  Finds o =
      (f : Found) × (o ≡ Ok f) × (0 < f.left) × (f.left ≤ 18 * f.chosen)
      × (◌≡◌ {A = Rounded} (record { nodes = rounded_nodes (place_of ps) nodes live z.inner f.marks; live = rounded_live (place_of ps) nodes live f }) r)

  found : (o : Result Found ℕ) → look_said z ps nodes live rounds room table o ≡ Ok r → Finds o
  found (Err v) h = cc
  found (Ok f) h =
      let n =
      none_of (f.left == 0) (nat_lt (18 * f.chosen) f.left) (nat_lt room (length nodes + f.fresh)) (nat_lt table (length (rounded_live (place_of ps) nodes live f)))
      (refused NoneLeft Build 0) (refused Stuck Build (rounds + 1)) (refused StoreFull Build (length nodes + f.fresh)) (refused OutOfRange Build table) _ r h in
      (f, refl, some f.left n.0, enough f.left f.chosen n.1, n.2)
    where
      some : (k : ℕ) → (k == 0) ≡ false → 0 < k
      some k e = grind (arith, nat_tests)

      enough : (k c : ℕ) → nat_lt (18 * c) k ≡ false → k ≤ 18 * c
      enough k c e = grind (arith, nat_tests)

  right : (o : Option ℕ) (said : Result Rounded Refusal) → round_next o said ≡ Ok r → (o ≡ None) × (said ≡ Ok r)
  right None said h = (refl, h)
  right (Some i) said h = cc

  pub round_finds : round_said z ps nodes live rounds room table ≡ Ok r → (wrong_number z ps nodes live ≡ None) × Finds (look_all (place_of ps) nodes live z.inner)
  unfolding round_said
  round_finds h = let p = right (wrong_number z ps nodes live) _ h in (p.0, found (look_all (place_of ps) nodes live z.inner) p.1)
