-- Triangles that together have the sum of the border: no side is one of two of them, and the reverse of a side is a side of another, or the side
-- is on the border.
use Rattle.std.proofs.Common.{◌≡◌, ℕ, Bool, true, false, cond, ◌⊎◌, List, [], ◌∷◌, ◌++◌, ℤ, pos, ◌+ℤ◌, ◌-ℤ◌, ◌*ℤ◌, neg_ℤ, ◌≤ℤ◌, ◌<ℤ◌, sym, refl, ap, ◌∙◌, subst, inl, inr, eq-eqb, eqb-true}
use Rattle.std.proofs.lemmas.Bool.{and_from, and_parts, cond-true}
use Rattle.std.proofs.lemmas.Int.{by_lt_z}
use Rattle.plane.specs.declared.Edge.{Edge}
use Rattle.plane.specs.Crossings.{crossing_sum, edge_crossing}
use Rattle.plane.specs.Edges.{In, back, edge, same_edge, sum_of}
use Rattle.plane.specs.Identities.{blend}
use Rattle.plane.specs.Points.{GridPoint, Spot, area, det, spot_at}
use Rattle.plane.proofs.Determinants.{identities}
use Rattle.plane.proofs.Signs.{lin}
use Rattle.tiling.specs.Cells.{Subdivision}
use Rattle.tiling.specs.Lemmas.{Near, Odd}
use Rattle.tiling.specs.Order.{InOrder}
use Rattle.tiling.specs.Triangles.{Leftward, Triangle, around, side_at, sides, turns}
use Rattle.tiling.proofs.Borders.{frame}
use Rattle.tiling.proofs.Covering.{NotRight, crossing_odd, inside_counts, turns_low}
use Rattle.tiling.proofs.Lists.{in_left, in_right, sum_has, sum_low, sum_some, sum_two}
use Rattle.tiling.proofs.Nudging.{has_middle, nears_left, nudge}
use Rattle.tiling.proofs.Overlaps.{side_held}
use Rattle.tiling.proofs.Rectangles.{rectangle_counts}
use Rattle.tiling.proofs.Segments.{At, Between, area_turn, between_bc, between_ca, end_on, in_side, start_on}
use Rattle.tiling.proofs.Turning.{Seen, every, seen}

-- ---- one directed edge counted

hit : Edge → Edge → ℤ
hit e x = cond (same_edge e x) (pos 1) (pos 0)

hit_low : (e x : Edge) → pos 0 ≤ℤ hit e x
unfolding hit
hit_low e x = go (same_edge e x)
  where
    go : (b : Bool) → pos 0 ≤ℤ cond b (pos 1) (pos 0)
    go true = omega lin
    go false = omega lin

hit_own : (e : Edge) → hit e e ≡ pos 1
unfolding hit
hit_own e = cond-true (same_edge e e) (pos 1) (pos 0) (and_from _ _ (eq-eqb e.from e.from refl) (eq-eqb e.to e.to refl))

hit_is : (e x : Edge) → pos 0 <ℤ hit e x → e ≡ x
unfolding hit
hit_is e x h = go (same_edge e x) refl h
  where
    go : (b : Bool) → same_edge e x ≡ b → pos 0 <ℤ cond b (pos 1) (pos 0) → e ≡ x
    go true q k = let r = and_parts _ _ q in let a = eqb-true _ _ r.0 in let b = eqb-true _ _ r.1 in λ i. record { from = a i; to = b i }
    go false q k = absurd (omega lin)

-- and its reverse counted off
flow : Edge → Edge → ℤ
flow e x = hit e x -ℤ hit e (back x)

flow_odd : (e : Edge) → Odd (flow e)
unfolding flow
flow_odd e x = go (hit e x) (hit e (back x))
  where
    go : (u v : ℤ) → v -ℤ u ≡ neg_ℤ (u -ℤ v)
    go u v = omega lin

sum_minus : {X : Type 0} (f g : X → ℤ) (l : List X) → sum_of (λ x. f x -ℤ g x) l ≡ sum_of f l -ℤ sum_of g l
sum_minus f g [] = refl
sum_minus f g (x ∷ l) = let h = sum_minus f g l in omega lin

sum_as : {X : Type 0} (f g : X → ℤ) (l : List X) → ((x : X) → f x ≡ g x) → sum_of f l ≡ sum_of g l
sum_as f g [] h = refl
sum_as f g (x ∷ l) h = let a = h x in let b = sum_as f g l h in omega lin

-- ---- the middle of a side

tip_same : (u : GridPoint) → At u (spot_at u)
tip_same u = record { level_x = omega lin; level_y = omega lin }

middle_of : (a b c : GridPoint) → pos 0 <ℤ area a b c → (p : Spot) × (pos 0 <ℤ p.Z) × Between a b p
unfolding blend
middle_of a b c k = (
  p,
  omega lin,
  in_side a b c p k
      (identities.linear a b (pos 1) (spot_at a) (spot_at b) ∙ both (det a b (spot_at a)) (det a b (spot_at b)) (start_on a b (spot_at a) (tip_same a)) (end_on b a (spot_at b) (tip_same b)))
      (subst (λ (w : ℤ). pos 0 <ℤ w) (sym (identities.linear b c (pos 1) (spot_at a) (spot_at b)))
      (second (det b c (spot_at a)) (det b c (spot_at b)) (start_on b c (spot_at b) (tip_same b)) (subst (λ (w : ℤ). pos 0 <ℤ w) (area_turn a b c) k)))
      (subst (λ (w : ℤ). pos 0 <ℤ w) (sym (identities.linear c a (pos 1) (spot_at a) (spot_at b)))
      (first (det c a (spot_at a)) (det c a (spot_at b)) (end_on a c (spot_at a) (tip_same a)) (subst (λ (w : ℤ). pos 0 <ℤ w) (area_turn a b c ∙ area_turn b c a) k))),
)
  where
    p : Spot
    p = blend (pos 1) (spot_at a) (spot_at b)

    both : (u v : ℤ) → u ≡ pos 0 → v ≡ pos 0 → pos 1 *ℤ u +ℤ v ≡ pos 0
    both u v e f = omega lin

    second : (u v : ℤ) → v ≡ pos 0 → pos 0 <ℤ u → pos 0 <ℤ (pos 1 *ℤ u +ℤ v)
    second u v e h = omega lin

    first : (u v : ℤ) → u ≡ pos 0 → pos 0 <ℤ v → pos 0 <ℤ (pos 1 *ℤ u +ℤ v)
    first u v e h = omega lin

-- ---- webs

-- the triangles of some numbers turn left, have the sum of the border, and name vertices
pub record Web (s : Subdivision) (tri : ℕ → Triangle) (live : List ℕ) : Type 0 where
  pub leftward : (k : ℕ) → In k live → Leftward s.at (tri k)
  pub total : (f : Edge → ℤ) → Odd f → sum_of (λ k. around f (tri k)) live ≡ sum_of f frame

module _ (s : Subdivision) (o : InOrder s) (tri : ℕ → Triangle) (live : List ℕ) (W : Web s tri live) where
  -- e is a side of a live triangle
  abbrev pub LiveSide : Edge → Type 0
  LiveSide e = (k : ℕ) × In k live × In e (sides (tri k))

  border_low : (p : Spot) → pos 0 <ℤ p.Z → crossing_sum s.at (0 ∷ 1 ∷ 2 ∷ 3 ∷ []) p ≤ℤ pos 1
  border_low p z = elim (rectangle_counts s.at s.width s.height o.wide o.high o.corner_0 o.corner_1 o.corner_2 o.corner_3 p z).bit [ inl h ↦ omega lin | inr h ↦ omega lin ]

  counts_low : (p : Spot) → pos 0 <ℤ p.Z → (k : ℕ) → In k live → pos 0 ≤ℤ turns s.at p (tri k)
  counts_low p z k i = turns_low s.at (tri k) (W.leftward k i) p z

  counts_one : (p : Spot) → pos 0 <ℤ p.Z → sum_of (λ k. turns s.at p (tri k)) live ≤ℤ pos 1
  counts_one p z = let h = W.total (edge_crossing s.at p) (crossing_odd s.at p) in let i = border_low p z in omega lin

  -- two that count one point are one
  one_count : (p : Spot) → pos 0 <ℤ p.Z → (k l : ℕ) → In k live → In l live → turns s.at p (tri k) ≡ pos 1 → turns s.at p (tri l) ≡ pos 1 → k ≡ l
  one_count p z k l i j e f =
      elim (sum_two (λ k. turns s.at p (tri k)) live (counts_low p z) k l i j) [ inl q ↦ q | inr q ↦ (let h = counts_one p z in absurd (omega lin)) ]

  -- no side is one of two: its middle, nudged into the one, is in the other as well
  pub one_side : (e : Edge) → (k l : ℕ) → In k live → In l live → In e (sides (tri k)) → In e (sides (tri l)) → k ≡ l
  one_side e k l i j m n =
      one_count q near.scaled k l i j
      (inside_counts s.at (tri k) (W.leftward k i) q near.scaled (λ x c. nears_left near x (in_left x (sides (tri k)) (sides (tri l)) c) (held x c) (g.2 x c)))
      (inside_counts s.at (tri l) (W.leftward l j) q near.scaled (every s.at (λ x. pos 0 <ℤ side_at s.at q x) (tri l) e v
      (subst (λ (w : ℤ). pos 0 <ℤ w) (sym (near.level e (in_right e (sides (tri k)) (sides (tri l)) n) p.2.on)) (g.2 e m))
      (near.left (edge e.to v.c) (in_right _ (sides (tri k)) (sides (tri l)) v.second) (between_bc (s.at e.from) (s.at e.to) (s.at v.c) p.0 (v.leftward (W.leftward l j)) p.2))
      (near.left (edge v.c e.from) (in_right _ (sides (tri k)) (sides (tri l)) v.third) (between_ca (s.at e.from) (s.at e.to) (s.at v.c) p.0 (v.leftward (W.leftward l j)) p.2))))
    where
      v : Seen s.at (tri l) e
      v = seen s.at (tri l) e n

      p : (p : Spot) × (pos 0 <ℤ p.Z) × Between (s.at e.from) (s.at e.to) p
      p = middle_of (s.at e.from) (s.at e.to) (s.at v.c) (v.leftward (W.leftward l j))

      held : NotRight s.at (sides (tri k)) p.0
      held = side_held s.at (tri k) (W.leftward k i) e m p.0 p.1 (inr (inr p.2))

      g : (g : Spot) × (pos 0 <ℤ g.Z) × ((x : Edge) → In x (sides (tri k)) → pos 0 <ℤ side_at s.at g x)
      g = has_middle s.at (tri k) (W.leftward k i)

      nudged : (q : Spot) × Near s.at (sides (tri k) ++ sides (tri l)) p.0 g.0 q
      nudged = nudge s.at (sides (tri k) ++ sides (tri l)) p.0 g.0 p.1 g.1

      q : Spot
      q = nudged.0

      near : Near s.at (sides (tri k) ++ sides (tri l)) p.0 g.0 nudged.0
      near = nudged.1

  -- ---- the reverse of a side is one too, unless the side is on the border

  hits : (e : Edge) → LiveSide e → pos 0 <ℤ sum_of (λ k. around (hit e) (tri k)) live
  hits e w =
      go (sum_of (hit e) (sides (tri w.0))) (sum_of (λ k. around (hit e) (tri k)) live) (hit_own e)
      (sum_has (hit e) (sides (tri w.0)) (λ x i. hit_low e x) e w.2)
      (sum_has (λ k. around (hit e) (tri k)) live (λ k i. sum_low (hit e) (sides (tri k)) (λ x j. hit_low e x)) w.0 w.1)
    where
      go : (u v : ℤ) {h : ℤ} → h ≡ pos 1 → h ≤ℤ u → u ≤ℤ v → pos 0 <ℤ v
      go u v a b c = omega lin

  abbrev backs : Edge → ℤ
  backs e = sum_of (λ k. around (λ x. hit e (back x)) (tri k)) live

  flow_split : (e : Edge) → sum_of (λ k. around (flow e) (tri k)) live ≡ sum_of (λ k. around (hit e) (tri k)) live -ℤ backs e
  unfolding flow
  flow_split e =
      sum_as (λ k. around (flow e) (tri k)) (λ k. around (hit e) (tri k) -ℤ around (λ x. hit e (back x)) (tri k)) live (λ k. sum_minus (hit e) (λ x. hit e (back x)) (sides (tri k)))
      ∙ sum_minus (λ k. around (hit e) (tri k)) (λ k. around (λ x. hit e (back x)) (tri k)) live

  above_less : (u v : ℤ) → pos 0 ≤ℤ v → pos 0 <ℤ (u -ℤ v) → pos 0 <ℤ u
  above_less u v h k = omega lin

  pub side_twin : (e : Edge) → LiveSide e → LiveSide (back e) ⊎ In e frame
  unfolding flow
  side_twin e w =
      by_lt_z (pos 0) (backs e)
      (λ (h : pos 0 <ℤ backs e).
      let k = sum_some (λ k. around (λ x. hit e (back x)) (tri k)) live h in
      let x = sum_some (λ x. hit e (back x)) (sides (tri k.0)) k.2 in
      inl (k.0, k.1, subst (λ (y : Edge). In y (sides (tri k.0))) (sym (ap back (hit_is e (back x.0) x.2))) x.1))
      (λ (h : backs e ≤ℤ pos 0).
      let a = W.total (flow e) (flow_odd e) in
      let b = flow_split e in
      let c = hits e w in
      let x = sum_some (flow e) frame (omega lin) in
      inr (subst (λ (y : Edge). In y frame) (sym (hit_is e x.0 (above_less (hit e x.0) (hit e (back x.0)) (hit_low e (back x.0)) x.2))) x.1))

  -- a side has two ends
  pub side_proper : (e : Edge) → LiveSide e → e.from ≡ e.to → ⊥
  side_proper e w q =
      let v = seen s.at (tri w.0) e w.2 in
      flat (area (s.at e.from) (s.at e.to) (s.at v.c)) (thin (s.at e.from) (s.at e.to) (s.at v.c) (ap s.at q)) (v.leftward (W.leftward w.0 w.1))
    where
      flat : (u : ℤ) → u ≡ pos 0 → pos 0 <ℤ u → ⊥
      flat u e h = omega lin

      half : (u : ℤ) → u ≡ neg_ℤ u → u ≡ pos 0
      half u e = omega lin

      thin : (a b c : GridPoint) → a ≡ b → area a b c ≡ pos 0
      thin a b c q = subst (λ (w : GridPoint). area a w c ≡ pos 0) q (half (area a a c) (identities.turned a a (spot_at c)))
