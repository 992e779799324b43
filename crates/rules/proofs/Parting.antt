-- Two edges that do not touch are parted, whichever vertices they share.
use Rattle.std.proofs.Common.{◌≡◌, ℕ, Bool, true, false, cond, ◌||◌, ◌⊎◌, eqb, ℤ, pos, neg_ℤ, refl, subst, inl, inr}
use Rattle.std.proofs.lemmas.Bool.{and_from, and_parts, both_ways, eqb-true, or_parts}
use Rattle.plane.specs.declared.Edge.{Edge}
use Rattle.plane.specs.Points.{GridPoint, between, det, is_at, spot_at}
use Rattle.plane.proofs.Determinants.{identities}
use Rattle.plane.proofs.Signs.{lin}
use Rattle.tiling.proofs.Holding.{true_between}
use Rattle.tiling.proofs.Segments.{Between, between_back, start_not_between}
use Rattle.tiling.proofs.Uniqueness.{at_spot}
use Rattle.rules.specs.Rules.{cross, lies_on, meet, opposite, overlap, touch}
use Rattle.rules.proofs.Lines.{start_beside}
use Rattle.rules.proofs.Sharing.{Parted}

-- ---- either of the two in the other direction

opposite_swap : (u v : ℤ) → opposite u v ≡ true → opposite v u ≡ true
opposite_swap u v h = grind lin

opposite_neg : (u v x y : ℤ) → x ≡ neg_ℤ u → y ≡ neg_ℤ v → opposite u v ≡ true → opposite x y ≡ true
opposite_neg u v x y e f h = grind lin

pub cross_swap : (a b c d : GridPoint) → cross a b c d ≡ true → cross c d a b ≡ true
cross_swap a b c d h =
    let r = and_parts (opposite (det a b (spot_at c)) (det a b (spot_at d))) (opposite (det c d (spot_at a)) (det c d (spot_at b))) h in
    and_from (opposite (det c d (spot_at a)) (det c d (spot_at b))) (opposite (det a b (spot_at c)) (det a b (spot_at d))) r.1 r.0

pub cross_turn : (a b c d : GridPoint) → cross a b d c ≡ true → cross a b c d ≡ true
cross_turn a b c d h =
    let r = and_parts _ _ h in
    and_from _ _ (opposite_swap (det a b (spot_at d)) (det a b (spot_at c)) r.0)
    (opposite_neg (det d c (spot_at a)) (det d c (spot_at b)) (det c d (spot_at a)) (det c d (spot_at b)) (identities.turned c d (spot_at a)) (identities.turned c d (spot_at b)) r.1)

turn_second : {a b c d : GridPoint} → Parted a b c d → Parted a b d c
turn_second {a} {b} {c} {d} o =
    record {
      no-c = o.no-d;
      no-d = o.no-c;
      no-a = λ h. o.no-a (between_back h);
      no-b = λ h. o.no-b (between_back h);
      uncrossed = λ h. o.uncrossed (cross_turn a b c d h);
    }

swap : {a b c d : GridPoint} → Parted a b c d → Parted c d a b
swap {a} {b} {c} {d} o = record { no-c = o.no-a; no-d = o.no-b; no-a = o.no-c; no-b = o.no-d; uncrossed = λ h. o.uncrossed (cross_swap c d a b h) }

turn_first : {a b c d : GridPoint} → Parted a b c d → Parted b a c d
turn_first o = swap (turn_second (swap o))

-- ---- from the tests

-- what does not lie on a segment is not inside it
not_inside : (a b q : GridPoint) → lies_on a b q ≡ false → ¬ (Between a b (spot_at q))
not_inside a b q h k = both_ways (between a b (spot_at q)) (or_parts (is_at b (spot_at q)) _ (or_parts (is_at a (spot_at q)) _ h).1).1 (true_between a b (spot_at q) k)

pub not_start : (a b : GridPoint) → ¬ (Between a b (spot_at a))
not_start a b = start_not_between a b (spot_at a) (at_spot a)

pub from_meet : (a b c d : GridPoint) → meet a b c d ≡ false → Parted a b c d
from_meet a b c d h =
    let l = or_parts (lies_on a b c || lies_on a b d) _ h in
    let r = or_parts (lies_on c d a || lies_on c d b) (cross a b c d) l.1 in
    let i = or_parts (lies_on a b c) (lies_on a b d) l.0 in
    let j = or_parts (lies_on c d a) (lies_on c d b) r.0 in
    record {
      no-c = not_inside a b c i.0;
      no-d = not_inside a b d i.1;
      no-a = not_inside c d a j.0;
      no-b = not_inside c d b j.1;
      uncrossed = both_ways (cross a b c d) r.1;
    }

-- two edges from one vertex
from_overlap : (at : ℕ → GridPoint) (u v w : ℕ) → overlap at u v w ≡ false → Parted (at u) (at v) (at u) (at w)
from_overlap at u v w h =
    let i = or_parts (lies_on (at u) (at w) (at v)) (lies_on (at u) (at v) (at w)) h in
    record {
      no-c = not_start (at u) (at v);
      no-d = not_inside (at u) (at v) (at w) i.1;
      no-a = not_start (at u) (at w);
      no-b = not_inside (at u) (at w) (at v) i.0;
      uncrossed = λ t. not_opposite (det (at u) (at v) (spot_at (at u))) (det (at u) (at v) (spot_at (at w))) (start_beside (at u) (at v)) (and_parts _ _ t).0;
    }
  where
    not_opposite : (x y : ℤ) → x ≡ pos 0 → opposite x y ≡ true → ⊥
    not_opposite x y e h = grind lin

either : (b x y : Bool) → cond b x y ≡ false → ((b ≡ true) × (x ≡ false)) ⊎ (y ≡ false)
either true x y h = inl (refl, h)
either false x y h = inr h

module _ (at : ℕ → GridPoint) (e f : Edge) where
  abbrev pub PartedEdges : Type 0
  PartedEdges = Parted (at e.from) (at e.to) (at f.from) (at f.to)

  pub parted : touch at e f ≡ false → PartedEdges
  parted h =
      elim (either (eqb e.from f.from) _ _ h) [
        | inl r ↦ subst (λ u. Parted (at e.from) (at e.to) (at u) (at f.to)) (eqb-true e.from f.from r.0) (from_overlap at e.from e.to f.to r.1)
        | inr h₁ ↦ elim (either (eqb e.from f.to) _ _ h₁) [
          | inl r ↦ subst (λ u. Parted (at e.from) (at e.to) (at f.from) (at u)) (eqb-true e.from f.to r.0) (turn_second (from_overlap at e.from e.to f.from r.1))
          | inr h₂ ↦ elim (either (eqb e.to f.from) _ _ h₂) [
            | inl r ↦ subst (λ u. Parted (at e.from) (at e.to) (at u) (at f.to)) (eqb-true e.to f.from r.0) (turn_first (from_overlap at e.to e.from f.to r.1))
            | inr h₃ ↦ elim (either (eqb e.to f.to) _ _ h₃) [
              | inl r ↦ subst (λ u. Parted (at e.from) (at e.to) (at f.from) (at u)) (eqb-true e.to f.to r.0) (turn_first (turn_second (from_overlap at e.to e.from f.from r.1)))
              | inr h₄ ↦ from_meet (at e.from) (at e.to) (at f.from) (at f.to) h₄
            ]
          ]
        ]
      ]
