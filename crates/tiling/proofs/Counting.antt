-- A triangle whose corners turn to the left counts a point once or not at all.
use Rattle.std.proofs.Common.{◌≡◌, cond, ◌⊎◌, ℤ, pos, negsuc, ◌+ℤ◌, ◌-ℤ◌, ◌*ℤ◌, neg_ℤ, ◌≤ℤ◌, ◌<ℤ◌, refl, ◌∙◌, subst, inl, inr}
use lib.Signed.{lt_z}
use Rattle.std.proofs.lemmas.Int.{by_lt_z}
use Rattle.plane.specs.declared.Edge.{Edge}
use Rattle.plane.specs.Crossings.{crossing, passing}
use Rattle.plane.specs.Edges.{In, edge}
use Rattle.plane.specs.Identities.{height, width}
use Rattle.plane.specs.Points.{GridPoint, Spot, area, det}
use Rattle.plane.proofs.Determinants.{identities}
use Rattle.plane.proofs.Passings.{falls, rises, stays_high, stays_low}
use Rattle.plane.proofs.Signs.{lin, neg_times, right_0, swapped, times-++, times-+-, times--+, times---, times-<<, times-<>, times->>, zero_left}
use Rattle.tiling.specs.Lemmas.{TriangleCounts}
use Rattle.tiling.specs.Triangles.{side_at, sides, turns}

-- what a count w tells of a point whose sides of the three edges are d, e and f
record Told (w d e f : ℤ) : Type 0 where
  bit : (w ≡ pos 0) ⊎ (w ≡ pos 1)
  inside : pos 0 <ℤ d → pos 0 <ℤ e → pos 0 <ℤ f → w ≡ pos 1
  out_d : d <ℤ pos 0 → w ≡ pos 0
  out_e : e <ℤ pos 0 → w ≡ pos 0
  out_f : f <ℤ pos 0 → w ≡ pos 0

told_turn : {w v d e f : ℤ} → w ≡ v → Told w d e f → Told v f d e
told_turn {w} {v} {d} {e} {f} q t =
    subst (λ (x : ℤ). Told x f d e) q
    (record { bit = t.bit; inside = λ i j k. t.inside j k i; out_d = t.out_f; out_e = t.out_d; out_f = t.out_e })

told_swap : {w d e f : ℤ} → Told w d e f → Told w d f e
told_swap t = record { bit = t.bit; inside = λ i j k. t.inside i k j; out_d = t.out_d; out_e = t.out_f; out_f = t.out_e }

-- nothing is counted, and the point is not inside
none_told : {w d e f : ℤ} → w ≡ pos 0 → (pos 0 <ℤ d → pos 0 <ℤ e → pos 0 <ℤ f → ⊥) → Told w d e f
none_told q n = record { bit = inl q; inside = λ i j k. absurd (n i j k); out_d = λ _. q; out_e = λ _. q; out_f = λ _. q }

-- ---- one edge rises past the point and one falls

-- d, e, f: the sides of the rising, the falling and the third edge; h, i, j: how far the corners across from them are below
-- the point, by one sign; they balance
module _ (h i j d e f : ℤ) (balance : h *ℤ d +ℤ i *ℤ e +ℤ j *ℤ f ≡ pos 0) (wide : pos 0 <ℤ (d +ℤ e +ℤ f))
    (h⁻ : h ≤ℤ pos 0) (i⁻ : i ≤ℤ pos 0) (j⁺ : pos 0 ≤ℤ j) (strict : ((h <ℤ pos 0) × (i <ℤ pos 0)) ⊎ (pos 0 <ℤ j)) where
  -- the point is not to the right of both
  not_less : d ≤ℤ pos 0 → e <ℤ pos 0 → ⊥
  not_less x y =
      let p = times--- h d h⁻ x in
      elim strict [
        | inl s ↦ (let q = times-<< i e s.1 y in let r = times-++ j f j⁺ (omega lin) in omega lin)
        | inr s ↦ (let q = times--- i e i⁻ (omega lin) in let r = times->> j f s (omega lin) in omega lin)
      ]

  -- to the left of both, it is not to the right of the third
  not_beyond : pos 0 <ℤ d → pos 0 ≤ℤ e → f <ℤ pos 0 → ⊥
  not_beyond x y z =
      let q = times--+ i e i⁻ y in
      elim strict [
        | inl s ↦ (let p = times-<> h d s.0 x in let r = times-+- j f j⁺ (omega lin) in omega lin)
        | inr s ↦ (let p = times--+ h d h⁻ (omega lin) in let r = times-<> f j z s in let c = swapped f j in omega lin)
      ]

  abbrev count : ℤ
  count = cond (lt_z (pos 0) d) (pos 1) (pos 0) +ℤ cond (lt_z e (pos 0)) (negsuc 0) (pos 0)

  passes : Told count d e f
  passes = by_lt_z (pos 0) d
      (λ (x : pos 0 <ℤ d). by_lt_z e (pos 0)
      (λ (y : e <ℤ pos 0). none_told (grind lin) (λ _ k _. omega lin))
      (λ (y : pos 0 ≤ℤ e).
      let q : count ≡ pos 1 = grind lin in
      record { bit = inr q; inside = λ _ _ _. q; out_d = λ z. absurd (omega lin); out_e = λ z. absurd (omega lin); out_f = λ z. absurd (not_beyond x y z) }))
      (λ (x : d ≤ℤ pos 0). by_lt_z e (pos 0)
      (λ (y : e <ℤ pos 0). absurd (not_less x y))
      (λ (y : pos 0 ≤ℤ e). none_told (grind lin) (λ k _ _. omega lin)))

-- ---- by which corners are at most as high as the point: a, b, c their heights, y the point's, and the sides ab, bc, ca

abbrev Balance : (a b c y ab bc ca : ℤ) → Type 0
Balance a b c y ab bc ca = (y -ℤ a) *ℤ bc +ℤ (y -ℤ b) *ℤ ca +ℤ (y -ℤ c) *ℤ ab ≡ pos 0

abbrev Wide : (ab bc ca : ℤ) → Type 0
Wide ab bc ca = pos 0 <ℤ (ab +ℤ bc +ℤ ca)

abbrev counted : (a b c y ab bc ca : ℤ) → ℤ
counted a b c y ab bc ca = passing a b y ab +ℤ (passing b c y bc +ℤ (passing c a y ca +ℤ pos 0))

module _ (a b c y ab bc ca : ℤ) (balance : Balance a b c y ab bc ca) (wide : Wide ab bc ca) where
  -- a alone is low: ab rises and ca falls
  one_low : a ≤ℤ y → y <ℤ b → y <ℤ c → Told (counted a b c y ab bc ca) ab bc ca
  one_low l m n =
      subst (λ (w : ℤ). Told w ab bc ca) (value _ _ _ _ _ (rises a b y ab l m) (stays_high b c y bc m n) (falls c a y ca n l))
      (told_swap (passes (y -ℤ c) (y -ℤ b) (y -ℤ a) ab ca bc (order ((y -ℤ a) *ℤ bc) ((y -ℤ b) *ℤ ca) ((y -ℤ c) *ℤ ab) balance) (omega lin) (omega lin) (omega lin) (omega lin) (inl (omega lin))))
    where
      value : (u v p q r : ℤ) → p ≡ u → q ≡ pos 0 → r ≡ v → u +ℤ v ≡ p +ℤ (q +ℤ (r +ℤ pos 0))
      value u v p q r i j k = omega lin

      order : (u v w : ℤ) → u +ℤ v +ℤ w ≡ pos 0 → w +ℤ v +ℤ u ≡ pos 0
      order u v w e = omega lin

  -- c alone is high: bc rises and ca falls
  one_high : a ≤ℤ y → b ≤ℤ y → y <ℤ c → Told (counted a b c y ab bc ca) ab bc ca
  one_high l m n =
      subst (λ (w : ℤ). Told w ab bc ca) (value _ _ _ _ _ (stays_low a b y ab l m) (rises b c y bc m n) (falls c a y ca n l))
      (told_turn refl (passes (neg_ℤ (y -ℤ a)) (neg_ℤ (y -ℤ b)) (neg_ℤ (y -ℤ c)) bc ca ab
      (negated ((y -ℤ a) *ℤ bc) ((y -ℤ b) *ℤ ca) ((y -ℤ c) *ℤ ab) _ _ _ balance (neg_times (y -ℤ a) bc) (neg_times (y -ℤ b) ca) (neg_times (y -ℤ c) ab))
      (omega lin) (omega lin) (omega lin) (omega lin) (inr (omega lin))))
    where
      value : (u v p q r : ℤ) → p ≡ pos 0 → q ≡ u → r ≡ v → u +ℤ v ≡ p +ℤ (q +ℤ (r +ℤ pos 0))
      value u v p q r i j k = omega lin

      negated : (u v w u' v' w' : ℤ) → u +ℤ v +ℤ w ≡ pos 0 → u' ≡ neg_ℤ u → v' ≡ neg_ℤ v → w' ≡ neg_ℤ w → u' +ℤ v' +ℤ w' ≡ pos 0
      negated u v w u' v' w' e i j k = omega lin

  zeros : (p q r : ℤ) → p ≡ pos 0 → q ≡ pos 0 → r ≡ pos 0 → p +ℤ (q +ℤ (r +ℤ pos 0)) ≡ pos 0
  zeros p q r i j k = omega lin

  all_high : y <ℤ a → y <ℤ b → y <ℤ c → Told (counted a b c y ab bc ca) ab bc ca
  all_high l m n =
      none_told (zeros _ _ _ (stays_high a b y ab l m) (stays_high b c y bc m n) (stays_high c a y ca n l))
      (λ x y' z.
      let p = times-<> (y -ℤ a) bc (omega lin) y' in
      let q = times-<> (y -ℤ b) ca (omega lin) z in
      let r = times-<> (y -ℤ c) ab (omega lin) x in
      omega lin)

  -- at most as high as the point are all three only where they are level with it, if it is to be inside
  all_low : (a ≡ y → b ≡ y → ab ≡ pos 0) → a ≤ℤ y → b ≤ℤ y → c ≤ℤ y → Told (counted a b c y ab bc ca) ab bc ca
  all_low level l m n =
      none_told (zeros _ _ _ (stays_low a b y ab l m) (stays_low b c y bc m n) (stays_low c a y ca n l))
      (λ x y' z.
      let p = times-++ (y -ℤ a) bc (omega lin) (omega lin) in
      let q = times-++ (y -ℤ b) ca (omega lin) (omega lin) in
      let r = times-++ (y -ℤ c) ab (omega lin) (omega lin) in
      let e = level (flat a bc y' l (omega lin)) (flat b ca z m (omega lin)) in
      omega lin)
    where
      flat : (u d : ℤ) → pos 0 <ℤ d → u ≤ℤ y → ((y -ℤ u) *ℤ d) ≤ℤ pos 0 → u ≡ y
      flat u d g h k = by_lt_z u y
          (λ (o : u <ℤ y). let p = times->> (y -ℤ u) d (omega lin) g in absurd (omega lin))
          (λ (o : y ≤ℤ u). omega lin)

three_turn : (u v w : ℤ) → u +ℤ (v +ℤ (w +ℤ pos 0)) ≡ w +ℤ (u +ℤ (v +ℤ pos 0))
three_turn u v w = omega lin

-- the corners turned, so that another one is a
module _ (a b c y ab bc ca : ℤ) (balance : Balance a b c y ab bc ca) (wide : Wide ab bc ca) (level : a ≡ y → b ≡ y → ab ≡ pos 0) where
  told : Told (counted a b c y ab bc ca) ab bc ca
  told =
      by_lt_z y a
      (λ (i : y <ℤ a). by_lt_z y b
      (λ (j : y <ℤ b). by_lt_z y c
      (λ (k : y <ℤ c). all_high a b c y ab bc ca balance wide i j k)
      (λ (k : c ≤ℤ y). twice (one_low c a b y ca ab bc balance'' wide'' k i j)))
      (λ (j : b ≤ℤ y). by_lt_z y c
      (λ (k : y <ℤ c). once (one_low b c a y bc ca ab balance' wide' j k i))
      (λ (k : c ≤ℤ y). once (one_high b c a y bc ca ab balance' wide' j k i))))
      (λ (i : a ≤ℤ y). by_lt_z y b
      (λ (j : y <ℤ b). by_lt_z y c
      (λ (k : y <ℤ c). one_low a b c y ab bc ca balance wide i j k)
      (λ (k : c ≤ℤ y). twice (one_high c a b y ca ab bc balance'' wide'' k i j)))
      (λ (j : b ≤ℤ y). by_lt_z y c
      (λ (k : y <ℤ c). one_high a b c y ab bc ca balance wide i j k)
      (λ (k : c ≤ℤ y). all_low a b c y ab bc ca balance wide level i j k)))
    where
      cycle : (u v w : ℤ) → u +ℤ v +ℤ w ≡ pos 0 → v +ℤ w +ℤ u ≡ pos 0
      cycle u v w e = omega lin

      balance' : Balance b c a y bc ca ab
      balance' = cycle ((y -ℤ a) *ℤ bc) ((y -ℤ b) *ℤ ca) ((y -ℤ c) *ℤ ab) balance

      balance'' : Balance c a b y ca ab bc
      balance'' = cycle ((y -ℤ b) *ℤ ca) ((y -ℤ c) *ℤ ab) ((y -ℤ a) *ℤ bc) balance'

      wide' : Wide bc ca ab
      wide' = omega lin

      wide'' : Wide ca ab bc
      wide'' = omega lin

      once : Told (counted b c a y bc ca ab) bc ca ab → Told (counted a b c y ab bc ca) ab bc ca
      once = told_turn (three_turn (passing b c y bc) (passing c a y ca) (passing a b y ab))

      twice : Told (counted c a b y ca ab bc) ca ab bc → Told (counted a b c y ab bc ca) ab bc ca
      twice t = once (told_turn (three_turn (passing c a y ca) (passing a b y ab) (passing b c y bc)) t)

-- ---- the triangle lemma

module _ (a b c : GridPoint) (p : Spot) (scaled : pos 0 <ℤ p.Z) (leftward : pos 0 <ℤ area a b c) where
  points_told : Told (crossing a b p +ℤ (crossing b c p +ℤ (crossing c a p +ℤ pos 0))) (det a b p) (det b c p) (det c a p)
  unfolding crossing
  points_told =
      told (a.y *ℤ p.Z) (b.y *ℤ p.Z) (c.y *ℤ p.Z) p.Y (det a b p) (det b c p) (det c a p)
      (identities.heights a b c p)
      (rw (identities.sides a b c p) (times->> p.Z (area a b c) scaled leftward))
      (λ e f. right_0 p.Z (det a b p) scaled
      (identities.joined a b p ∙ gone (height b p) (width a p) (height a p) (width b p) (omega lin) (omega lin)))
    where
      gone : (u v s t : ℤ) → u ≡ pos 0 → s ≡ pos 0 → u *ℤ v -ℤ s *ℤ t ≡ pos 0
      gone u v s t e f = let i = zero_left u v e in let j = zero_left s t f in omega lin

pub triangle_counts : TriangleCounts
triangle_counts at t leftward p scaled =
    record {
      bit = w.bit;
      inside = λ h. w.inside (h (edge t.a t.b) (inl refl)) (h (edge t.b t.c) (inr (inl refl))) (h (edge t.c t.a) (inr (inr (inl refl))));
      outside = out;
    }
  where
    w : Told (turns at p t) (side_at at p (edge t.a t.b)) (side_at at p (edge t.b t.c)) (side_at at p (edge t.c t.a))
    w = points_told (at t.a) (at t.b) (at t.c) p scaled leftward

    out : (e : Edge) → In e (sides t) → side_at at p e <ℤ pos 0 → turns at p t ≡ pos 0
    out e (inl q) h = w.out_d (subst (λ (x : Edge). side_at at p x <ℤ pos 0) q h)
    out e (inr (inl q)) h = w.out_e (subst (λ (x : Edge). side_at at p x <ℤ pos 0) q h)
    out e (inr (inr (inl q))) h = w.out_f (subst (λ (x : Edge). side_at at p x <ℤ pos 0) q h)
    out e (inr (inr (inr n))) h = absurd n
