-- A point on a segment is in its box, and on its line; segments that share a point have boxes that do.
use Rattle.std.proofs.Common.{◌≡◌, ℕ, suc, ◌≤◌, Bool, true, false, ◌&&◌, ◌⊎◌, List, [], ◌∷◌, ℤ, pos, ◌+ℤ◌, ◌-ℤ◌, ◌*ℤ◌, ◌≤ℤ◌, ◌<ℤ◌, int_lt, max, min, nat_le, sym, refl, subst, inl, inr, arith}
use Rattle.std.proofs.lemmas.Bool.{and_from, and_parts, or_cases, or_left, or_right}
use Rattle.std.proofs.lemmas.Bool.Decides.{nat_tests}
use Rattle.std.proofs.lemmas.Int.{by_lt_z}
use Rattle.plane.specs.declared.Point.{Point}
use Rattle.plane.specs.Points.{GridPoint, Spot, ahead, along, det, grid_point, int_same, is_at, on_segment, spot_at}
use Rattle.plane.proofs.Ring.{Expr, var, ◌⊕◌, ◌⊖◌, ◌⊗◌, lit, ring, same?}
use Rattle.plane.proofs.Signs.{lin, times-++, times--+, times->>, times-<>, times-<<, zero_right}
use Rattle.plane.proofs.Symbols.{GridPointˢ, Spotˢ, aheadˢ, detˢ, spot_atˢ}
use Rattle.tiling.proofs.Holding.{at_true, between_true, int_same_of_same, same_of_int_same, true_at, true_between}
use Rattle.tiling.proofs.Segments.{At, Between, end_on, start_on}
use Rattle.rules.specs.Rules.{cross, lies_on, opposite}
use Rattle.rules.specs.Segments.{boxes_meet, in_box, in_range, meet_at, ranges_meet}

-- ---- over the integers: (U, V) from a to b, (X, Y) from a to q

-- X is from 0 to U
pub record Ranged (U X : ℤ) : Type 0 where
  pub up_low : pos 0 ≤ℤ U → pos 0 ≤ℤ X
  pub up_high : pos 0 ≤ℤ U → X ≤ℤ U
  pub down_low : U ≤ℤ pos 0 → U ≤ℤ X
  pub down_high : U ≤ℤ pos 0 → X ≤ℤ pos 0

not_below : (x n : ℤ) → pos 0 <ℤ n → pos 0 ≤ℤ (x *ℤ n) → pos 0 ≤ℤ x
not_below x n h k = by_lt_z x (pos 0) (λ (l : x <ℤ pos 0). let q = times-<> x n l h in absurd (omega lin)) (λ (l : pos 0 ≤ℤ x). l)

not_above : (x n : ℤ) → pos 0 <ℤ n → (x *ℤ n) ≤ℤ pos 0 → x ≤ℤ pos 0
not_above x n h k = by_lt_z (pos 0) x (λ (l : pos 0 <ℤ x). let q = times->> x n l h in absurd (omega lin)) (λ (l : x ≤ℤ pos 0). l)

-- X parts U as A parts A + B
ranged_by : (U X A B : ℤ) → pos 0 <ℤ A → pos 0 <ℤ B → X *ℤ (A +ℤ B) ≡ U *ℤ A → (U -ℤ X) *ℤ (A +ℤ B) ≡ U *ℤ B → Ranged U X
ranged_by U X A B a b e f =
    let n : pos 0 <ℤ (A +ℤ B) = omega lin in
    record {
      up_low = λ h. let q = times-++ U A h (omega lin) in not_below X (A +ℤ B) n (omega lin);
      up_high = λ h. let q = times-++ U B h (omega lin) in let r = not_below (U -ℤ X) (A +ℤ B) n (omega lin) in omega lin;
      down_low = λ h. let q = times--+ U B h (omega lin) in let r = not_above (U -ℤ X) (A +ℤ B) n (omega lin) in omega lin;
      down_high = λ h. let q = times--+ U A h (omega lin) in not_above X (A +ℤ B) n (omega lin);
    }

module _ (a b q : GridPoint) where
  abbrev vars : List ℤ
  vars = a.x ∷ a.y ∷ b.x ∷ b.y ∷ q.x ∷ q.y ∷ []

  abbrev aˢ : GridPointˢ
  aˢ = record { x = var 0; y = var 1 }

  abbrev bˢ : GridPointˢ
  bˢ = record { x = var 2; y = var 3 }

  abbrev qˢ : GridPointˢ
  qˢ = record { x = var 4; y = var 5 }

  abbrev p : Spot
  p = spot_at q

  abbrev pˢ : Spotˢ
  pˢ = spot_atˢ qˢ

  -- with the determinant D: X (A + B) = U A - V D, and so on
  parted_x : (q.x -ℤ a.x) *ℤ (ahead a b p +ℤ ahead b a p) ≡ (b.x -ℤ a.x) *ℤ ahead a b p -ℤ (b.y -ℤ a.y) *ℤ det a b p
  unfolding along det same?
  parted_x = ring vars ((qˢ.x ⊖ aˢ.x) ⊗ (aheadˢ aˢ bˢ pˢ ⊕ aheadˢ bˢ aˢ pˢ)) ((bˢ.x ⊖ aˢ.x) ⊗ aheadˢ aˢ bˢ pˢ ⊖ (bˢ.y ⊖ aˢ.y) ⊗ detˢ aˢ bˢ pˢ) tt

  left_x : ((b.x -ℤ a.x) -ℤ (q.x -ℤ a.x)) *ℤ (ahead a b p +ℤ ahead b a p) ≡ (b.x -ℤ a.x) *ℤ ahead b a p +ℤ (b.y -ℤ a.y) *ℤ det a b p
  unfolding along det same?
  left_x = ring vars (((bˢ.x ⊖ aˢ.x) ⊖ (qˢ.x ⊖ aˢ.x)) ⊗ (aheadˢ aˢ bˢ pˢ ⊕ aheadˢ bˢ aˢ pˢ)) ((bˢ.x ⊖ aˢ.x) ⊗ aheadˢ bˢ aˢ pˢ ⊕ (bˢ.y ⊖ aˢ.y) ⊗ detˢ aˢ bˢ pˢ) tt

  parted_y : (q.y -ℤ a.y) *ℤ (ahead a b p +ℤ ahead b a p) ≡ (b.y -ℤ a.y) *ℤ ahead a b p +ℤ (b.x -ℤ a.x) *ℤ det a b p
  unfolding along det same?
  parted_y = ring vars ((qˢ.y ⊖ aˢ.y) ⊗ (aheadˢ aˢ bˢ pˢ ⊕ aheadˢ bˢ aˢ pˢ)) ((bˢ.y ⊖ aˢ.y) ⊗ aheadˢ aˢ bˢ pˢ ⊕ (bˢ.x ⊖ aˢ.x) ⊗ detˢ aˢ bˢ pˢ) tt

  left_y : ((b.y -ℤ a.y) -ℤ (q.y -ℤ a.y)) *ℤ (ahead a b p +ℤ ahead b a p) ≡ (b.y -ℤ a.y) *ℤ ahead b a p -ℤ (b.x -ℤ a.x) *ℤ det a b p
  unfolding along det same?
  left_y = ring vars (((bˢ.y ⊖ aˢ.y) ⊖ (qˢ.y ⊖ aˢ.y)) ⊗ (aheadˢ aˢ bˢ pˢ ⊕ aheadˢ bˢ aˢ pˢ)) ((bˢ.y ⊖ aˢ.y) ⊗ aheadˢ bˢ aˢ pˢ ⊖ (bˢ.x ⊖ aˢ.x) ⊗ detˢ aˢ bˢ pˢ) tt

  pub ahead_parts : ahead a b p ≡ (b.x -ℤ a.x) *ℤ (q.x -ℤ a.x) +ℤ (b.y -ℤ a.y) *ℤ (q.y -ℤ a.y)
  unfolding along same?
  ahead_parts = ring vars (aheadˢ aˢ bˢ pˢ) ((bˢ.x ⊖ aˢ.x) ⊗ (qˢ.x ⊖ aˢ.x) ⊕ (bˢ.y ⊖ aˢ.y) ⊗ (qˢ.y ⊖ aˢ.y)) tt

  back_parts : ahead b a p ≡ (b.x -ℤ a.x) *ℤ (b.x -ℤ q.x) +ℤ (b.y -ℤ a.y) *ℤ (b.y -ℤ q.y)
  unfolding along same?
  back_parts = ring vars (aheadˢ bˢ aˢ pˢ) ((bˢ.x ⊖ aˢ.x) ⊗ (bˢ.x ⊖ qˢ.x) ⊕ (bˢ.y ⊖ aˢ.y) ⊗ (bˢ.y ⊖ qˢ.y)) tt

-- in range, a product is above 0 or its part is 0
product_sign : (U X : ℤ) → Ranged U X → (pos 0 <ℤ (U *ℤ X)) ⊎ ((X ≡ pos 0) × (U *ℤ X ≡ pos 0))
product_sign U X r =
    by_lt_z (pos 0) X
    (λ (l : pos 0 <ℤ X). inl (times->> U X (by_lt_z (pos 0) U (λ (m : pos 0 <ℤ U). m) (λ (m : U ≤ℤ pos 0). let k = r.down_high m in absurd (omega lin))) l))
    (λ (l : X ≤ℤ pos 0). by_lt_z X (pos 0)
    (λ (m : X <ℤ pos 0). inl (times-<< U X (by_lt_z U (pos 0) (λ (n : U <ℤ pos 0). n) (λ (n : pos 0 ≤ℤ U). let k = r.up_low n in absurd (omega lin))) m))
    (λ (m : pos 0 ≤ℤ X). let e : X ≡ pos 0 = omega lin in inr (e, zero_right U X e)))

pub sum_sign : (U V X Y : ℤ) → Ranged U X → Ranged V Y → (pos 0 <ℤ (U *ℤ X +ℤ V *ℤ Y)) ⊎ ((X ≡ pos 0) × (Y ≡ pos 0))
sum_sign U V X Y r s =
    let go : (m n : ℤ) → pos 0 <ℤ m → pos 0 <ℤ n → pos 0 <ℤ (m +ℤ n) = λ m n h k. omega lin in
    let go_left : (m n : ℤ) → pos 0 <ℤ m → n ≡ pos 0 → pos 0 <ℤ (m +ℤ n) = λ m n h k. omega lin in
    let go_right : (m n : ℤ) → m ≡ pos 0 → pos 0 <ℤ n → pos 0 <ℤ (m +ℤ n) = λ m n h k. omega lin in
    elim (product_sign U X r) [
      | inl h ↦ elim (product_sign V Y s) [ inl k ↦ inl (go (U *ℤ X) (V *ℤ Y) h k) | inr k ↦ inl (go_left (U *ℤ X) (V *ℤ Y) h k.1) ]
      | inr h ↦ elim (product_sign V Y s) [ inl k ↦ inl (go_right (U *ℤ X) (V *ℤ Y) h.1 k) | inr k ↦ inr (h.0, k.0) ]
    ]

-- ---- over the points

int_lt_less : (u v : ℤ) → int_lt u v ≡ true → u <ℤ v
int_lt_less u v h = grind lin

le_test : (m n : ℕ) → m ≤ n → nat_le m n ≡ true
le_test m n h = grind (arith, nat_tests)

test_le : (m n : ℕ) → nat_le m n ≡ true → m ≤ n
test_le m n h = grind (arith, nat_tests)

ranged_true : (u v x : ℕ) → Ranged (pos v -ℤ pos u) (pos x -ℤ pos u) → in_range u v x ≡ true
ranged_true u v x r =
    by_lt_z (pos v) (pos u)
    (λ (l : pos v <ℤ pos u).
    let low = r.down_low (omega lin) in
    let high = r.down_high (omega lin) in
    and_from _ _ (le_test (min u v) x (omega lin)) (le_test x (max u v) (omega lin)))
    (λ (l : pos u ≤ℤ pos v).
    let low = r.up_low (omega lin) in
    let high = r.up_high (omega lin) in
    and_from _ _ (le_test (min u v) x (omega lin)) (le_test x (max u v) (omega lin)))

true_ranged : (u v x : ℕ) → in_range u v x ≡ true → Ranged (pos v -ℤ pos u) (pos x -ℤ pos u)
true_ranged u v x h =
    let p = and_parts (nat_le (min u v) x) (nat_le x (max u v)) h in
    let low = test_le (min u v) x p.0 in
    let high = test_le x (max u v) p.1 in
    record { up_low = λ k. omega lin; up_high = λ k. omega lin; down_low = λ k. omega lin; down_high = λ k. omega lin }

module _ (a b q : Point) where
  abbrev A : GridPoint
  A = grid_point a

  abbrev B : GridPoint
  B = grid_point b

  abbrev P : Spot
  P = spot_at (grid_point q)

  boxed : in_range a.x b.x q.x ≡ true → in_range a.y b.y q.y ≡ true → in_box a b q ≡ true
  boxed h k = and_from _ _ h k

  -- a point that is an end
  start_boxed : At A P → in_box a b q ≡ true
  start_boxed h =
      let x : q.x ≡ a.x = grind lin in
      let y : q.y ≡ a.y = grind lin in
      boxed (ranged_true a.x b.x q.x (record { up_low = λ k. omega lin; up_high = λ k. omega lin; down_low = λ k. omega lin; down_high = λ k. omega lin }))
      (ranged_true a.y b.y q.y (record { up_low = λ k. omega lin; up_high = λ k. omega lin; down_low = λ k. omega lin; down_high = λ k. omega lin }))

  end_boxed : At B P → in_box a b q ≡ true
  end_boxed h =
      let x : q.x ≡ b.x = grind lin in
      let y : q.y ≡ b.y = grind lin in
      boxed (ranged_true a.x b.x q.x (record { up_low = λ k. omega lin; up_high = λ k. omega lin; down_low = λ k. omega lin; down_high = λ k. omega lin }))
      (ranged_true a.y b.y q.y (record { up_low = λ k. omega lin; up_high = λ k. omega lin; down_low = λ k. omega lin; down_high = λ k. omega lin }))

  between_boxed : Between A B P → in_box a b q ≡ true
  between_boxed h =
      let zx = zero_right (B.x -ℤ A.x) (det A B P) h.on in
      let zy = zero_right (B.y -ℤ A.y) (det A B P) h.on in
      let less : (m n z : ℤ) → m ≡ n -ℤ z → z ≡ pos 0 → m ≡ n = λ m n z e f. omega lin in
      let more : (m n z : ℤ) → m ≡ n +ℤ z → z ≡ pos 0 → m ≡ n = λ m n z e f. omega lin in
      boxed
      (ranged_true a.x b.x q.x (ranged_by (B.x -ℤ A.x) (pos q.x -ℤ A.x) (ahead A B P) (ahead B A P) h.after h.before (less _ _ _ (parted_x A B (grid_point q)) zy) (more _ _ _ (left_x A B (grid_point q)) zy)))
      (ranged_true a.y b.y q.y (ranged_by (B.y -ℤ A.y) (pos q.y -ℤ A.y) (ahead A B P) (ahead B A P) h.after h.before (more _ _ _ (parted_y A B (grid_point q)) zx) (less _ _ _ (left_y A B (grid_point q)) zx)))

  to_box : on_segment A B P ≡ true → (in_box a b q && int_same (det A B P) (pos 0)) ≡ true
  to_box h = elim (or_cases _ _ h) [
    | inl t ↦ (let e = at_true A P t in and_from _ _ (start_boxed e) (int_same_of_same _ _ (start_on A B P e)))
    | inr t ↦ elim (or_cases _ _ t) [
      | inl u ↦ (let e = at_true B P u in and_from _ _ (end_boxed e) (int_same_of_same _ _ (end_on B A P e)))
      | inr u ↦ (let e = between_true A B P u in and_from _ _ (between_boxed e) (int_same_of_same _ _ e.on))
    ]
  ]

  to_segment : (in_box a b q && int_same (det A B P) (pos 0)) ≡ true → on_segment A B P ≡ true
  to_segment h =
      let p = and_parts _ _ h in
      let r = and_parts _ _ p.0 in
      let x = true_ranged a.x b.x q.x r.0 in
      let y = true_ranged a.y b.y q.y r.1 in
      let on = same_of_int_same _ _ p.1 in
      let x' : Ranged (B.x -ℤ A.x) (B.x -ℤ pos q.x) = turned (pos a.x) (pos b.x) (pos q.x) x in
      let y' : Ranged (B.y -ℤ A.y) (B.y -ℤ pos q.y) = turned (pos a.y) (pos b.y) (pos q.y) y in
      elim (sum_sign (B.x -ℤ A.x) (B.y -ℤ A.y) (pos q.x -ℤ A.x) (pos q.y -ℤ A.y) x y) [
        | inr z ↦ or_left _ _ (true_at A P (let zx = z.0 in let zy = z.1 in record { level_x = omega lin; level_y = omega lin }))
        | inl n ↦ elim (sum_sign (B.x -ℤ A.x) (B.y -ℤ A.y) (B.x -ℤ pos q.x) (B.y -ℤ pos q.y) x' y') [
          | inr z ↦ or_right (is_at A P) _ (or_left _ _ (true_at B P (let zx = z.0 in let zy = z.1 in record { level_x = omega lin; level_y = omega lin })))
          | inl m ↦ or_right (is_at A P) _ (or_right (is_at B P) _ (true_between A B P (record {
            on = on;
            after = above (ahead_parts A B (grid_point q)) n;
            before = above (back_parts A B (grid_point q)) m;
          })))
        ]
      ]
    where
      above : {m n : ℤ} → m ≡ n → pos 0 <ℤ n → pos 0 <ℤ m
      above e h = subst (λ z. pos 0 <ℤ z) (sym e) h

      turned : (u v w : ℤ) → Ranged (v -ℤ u) (w -ℤ u) → Ranged (v -ℤ u) (v -ℤ w)
      turned u v w r =
          record {
            up_low = λ k. let h = r.up_high k in omega lin;
            up_high = λ k. let h = r.up_low k in omega lin;
            down_low = λ k. let h = r.down_high k in omega lin;
            down_high = λ k. let h = r.down_low k in omega lin;
          }

pub same_tests : (u v : Bool) → (u ≡ true → v ≡ true) → (v ≡ true → u ≡ true) → u ≡ v
same_tests true v to from = sym (to refl)
same_tests false true to from = from refl
same_tests false false to from = refl

pub lies_on_by_box : (a b q : Point) → lies_on (grid_point a) (grid_point b) (grid_point q) ≡ (in_box a b q && int_same (det (grid_point a) (grid_point b) (spot_at (grid_point q))) (pos 0))
lies_on_by_box a b q = same_tests _ _ (to_box a b q) (to_segment a b q)

-- ---- segments that cross

abbrev a₄ : GridPointˢ
a₄ = record { x = var 0; y = var 1 }

abbrev b₄ : GridPointˢ
b₄ = record { x = var 2; y = var 3 }

abbrev c₄ : GridPointˢ
c₄ = record { x = var 4; y = var 5 }

abbrev d₄ : GridPointˢ
d₄ = record { x = var 6; y = var 7 }

-- two that weigh each other's ends, one up to m and the other beyond
apart : (α β γ δ u v w z m : ℤ) → opposite α β ≡ true → opposite γ δ ≡ true → (α -ℤ β) +ℤ (γ -ℤ δ) ≡ pos 0 → (α *ℤ v -ℤ β *ℤ u) +ℤ (γ *ℤ z -ℤ δ *ℤ w) ≡ pos 0
    → u ≤ℤ m → v ≤ℤ m → m <ℤ w → m <ℤ z → ⊥
unfolding same?
apart α β γ δ u v w z m ab cd balance weighed hu hv hw hz =
    let whole =
    ring (α ∷ β ∷ γ ∷ δ ∷ u ∷ v ∷ w ∷ z ∷ m ∷ [])
    ((var 0 ⊗ var 5 ⊖ var 1 ⊗ var 4) ⊕ (var 2 ⊗ var 7 ⊖ var 3 ⊗ var 6))
    ((var 8 ⊗ ((var 0 ⊖ var 1) ⊕ (var 2 ⊖ var 3)) ⊖ var 0 ⊗ (var 8 ⊖ var 5) ⊕ var 1 ⊗ (var 8 ⊖ var 4)) ⊕ (var 2 ⊗ (var 7 ⊖ var 8) ⊖ var 3 ⊗ (var 6 ⊖ var 8))) tt in
    let none = zero_right m ((α -ℤ β) +ℤ (γ -ℤ δ)) balance in
    elim (opposite_cases α β ab) [
      | inl s ↦ elim (opposite_cases γ δ cd) [
        | inl t ↦ (let a = s.0 in let b = s.1 in let c = t.0 in let d = t.1 in absurd (omega lin))
        | inr t ↦ (
            let a = times-++ α (m -ℤ v) (let k = s.0 in omega lin) (omega lin) in
            let b = times--+ β (m -ℤ u) (let k = s.1 in omega lin) (omega lin) in
            let c = times-<> γ (z -ℤ m) t.0 (omega lin) in
            let d = times->> δ (w -ℤ m) t.1 (omega lin) in
            below _ _ _ _ _ _ weighed whole none a b c d)
      ]
      | inr s ↦ elim (opposite_cases γ δ cd) [
        | inr t ↦ (let a = s.0 in let b = s.1 in let c = t.0 in let d = t.1 in absurd (omega lin))
        | inl t ↦ (
            let a = times--+ α (m -ℤ v) (let k = s.0 in omega lin) (omega lin) in
            let b = times-++ β (m -ℤ u) (let k = s.1 in omega lin) (omega lin) in
            let c = times->> γ (z -ℤ m) t.0 (omega lin) in
            let d = times-<> δ (w -ℤ m) t.1 (omega lin) in
            above _ _ _ _ _ _ weighed whole none a b c d)
      ]
    ]
  where
    opposite_cases : (d e : ℤ) → opposite d e ≡ true → ((pos 0 <ℤ d) × (e <ℤ pos 0)) ⊎ ((d <ℤ pos 0) × (pos 0 <ℤ e))
    opposite_cases d e h = elim (or_cases _ _ h) [
      | inl t ↦ (let p = and_parts _ _ t in inl (int_lt_less _ _ p.0, int_lt_less _ _ p.1))
      | inr t ↦ (let p = and_parts _ _ t in inr (int_lt_less _ _ p.0, int_lt_less _ _ p.1))
    ]

    below : (s n a b c d : ℤ) → s ≡ pos 0 → s ≡ ((n -ℤ a) +ℤ b) +ℤ (c -ℤ d) → n ≡ pos 0 → pos 0 ≤ℤ a → b ≤ℤ pos 0 → c <ℤ pos 0 → pos 0 <ℤ d → ⊥
    below s n a b c d e f g ha hb hc hd = omega lin

    above : (s n a b c d : ℤ) → s ≡ pos 0 → s ≡ ((n -ℤ a) +ℤ b) +ℤ (c -ℤ d) → n ≡ pos 0 → a ≤ℤ pos 0 → pos 0 ≤ℤ b → pos 0 <ℤ c → d <ℤ pos 0 → ⊥
    above s n a b c d e f g ha hb hc hd = omega lin

module _ (a b c d : GridPoint) where
  abbrev four : List ℤ
  four = a.x ∷ a.y ∷ b.x ∷ b.y ∷ c.x ∷ c.y ∷ d.x ∷ d.y ∷ []

  abbrev of_a : Expr
  of_a = detˢ c₄ d₄ (spot_atˢ a₄)

  abbrev of_b : Expr
  of_b = detˢ c₄ d₄ (spot_atˢ b₄)

  abbrev of_c : Expr
  of_c = detˢ a₄ b₄ (spot_atˢ c₄)

  abbrev of_d : Expr
  of_d = detˢ a₄ b₄ (spot_atˢ d₄)

  pub sides_balance : (det c d (spot_at a) -ℤ det c d (spot_at b)) +ℤ (det a b (spot_at c) -ℤ det a b (spot_at d)) ≡ pos 0
  unfolding det same?
  sides_balance = ring four ((of_a ⊖ of_b) ⊕ (of_c ⊖ of_d)) (lit (pos 0)) tt

  pub sides_weigh_x : (det c d (spot_at a) *ℤ b.x -ℤ det c d (spot_at b) *ℤ a.x) +ℤ (det a b (spot_at c) *ℤ d.x -ℤ det a b (spot_at d) *ℤ c.x) ≡ pos 0
  unfolding det same?
  sides_weigh_x = ring four ((of_a ⊗ b₄.x ⊖ of_b ⊗ a₄.x) ⊕ (of_c ⊗ d₄.x ⊖ of_d ⊗ c₄.x)) (lit (pos 0)) tt

  pub sides_weigh_y : (det c d (spot_at a) *ℤ b.y -ℤ det c d (spot_at b) *ℤ a.y) +ℤ (det a b (spot_at c) *ℤ d.y -ℤ det a b (spot_at d) *ℤ c.y) ≡ pos 0
  unfolding det same?
  sides_weigh_y = ring four ((of_a ⊗ b₄.y ⊖ of_b ⊗ a₄.y) ⊕ (of_c ⊗ d₄.y ⊖ of_d ⊗ c₄.y)) (lit (pos 0)) tt

-- on one axis: the weights of the ends, and where they are
ranges_of_cross : (α β γ δ : ℤ) (u v w z : ℕ) → opposite α β ≡ true → opposite γ δ ≡ true → (α -ℤ β) +ℤ (γ -ℤ δ) ≡ pos 0
    → (α *ℤ pos v -ℤ β *ℤ pos u) +ℤ (γ *ℤ pos z -ℤ δ *ℤ pos w) ≡ pos 0 → ranges_meet u v w z ≡ true
ranges_of_cross α β γ δ u v w z ab cd balance weighed =
    let balance' = swap (α -ℤ β) (γ -ℤ δ) balance in
    let weighed' = swap (α *ℤ pos v -ℤ β *ℤ pos u) (γ *ℤ pos z -ℤ δ *ℤ pos w) weighed in
    let not_beyond : suc (max w z) ≤ min u v → ⊥ =
    λ h. apart γ δ α β (pos w) (pos z) (pos u) (pos v) (pos (max w z)) cd ab balance' weighed' (omega lin) (omega lin) (omega lin) (omega lin) in
    let not_before : suc (max u v) ≤ min w z → ⊥ =
    λ h. apart α β γ δ (pos u) (pos v) (pos w) (pos z) (pos (max u v)) ab cd balance weighed (omega lin) (omega lin) (omega lin) (omega lin) in
    and_from _ _ (le_test (min u v) (max w z) (omega (arith, not_beyond))) (le_test (min w z) (max u v) (omega (arith, not_before)))
  where
    swap : (m n : ℤ) → m +ℤ n ≡ pos 0 → n +ℤ m ≡ pos 0
    swap m n e = omega lin

in_range_meets : (u v x w z : ℕ) → in_range u v x ≡ true → min w z ≤ x → x ≤ max w z → (min u v ≤ max w z) × (min w z ≤ max u v)
in_range_meets u v x w z h low high =
    let p = and_parts _ _ h in
    let k = test_le (min u v) x p.0 in
    let l = test_le x (max u v) p.1 in
    (omega arith, omega arith)

meets_first : (u v x w z : ℕ) → in_range u v x ≡ true → min w z ≤ x → x ≤ max w z → ranges_meet u v w z ≡ true
meets_first u v x w z h low high = let r = in_range_meets u v x w z h low high in and_from _ _ (le_test _ _ r.0) (le_test _ _ r.1)

meets_second : (u v x w z : ℕ) → in_range u v x ≡ true → min w z ≤ x → x ≤ max w z → ranges_meet w z u v ≡ true
meets_second u v x w z h low high = let r = in_range_meets u v x w z h low high in and_from _ _ (le_test _ _ r.1) (le_test _ _ r.0)

lies_boxed : (a b q : Point) → lies_on (grid_point a) (grid_point b) (grid_point q) ≡ true → (in_range a.x b.x q.x ≡ true) × (in_range a.y b.y q.y ≡ true)
lies_boxed a b q h = and_parts _ _ (and_parts _ _ (to_box a b q h)).0

module _ (a b c d : Point) where
  by_c : lies_on (grid_point a) (grid_point b) (grid_point c) ≡ true → boxes_meet a b c d ≡ true
  by_c h = let p = lies_boxed a b c h in and_from _ _ (meets_first a.x b.x c.x c.x d.x p.0 (omega arith) (omega arith)) (meets_first a.y b.y c.y c.y d.y p.1 (omega arith) (omega arith))

  by_d : lies_on (grid_point a) (grid_point b) (grid_point d) ≡ true → boxes_meet a b c d ≡ true
  by_d h = let p = lies_boxed a b d h in and_from _ _ (meets_first a.x b.x d.x c.x d.x p.0 (omega arith) (omega arith)) (meets_first a.y b.y d.y c.y d.y p.1 (omega arith) (omega arith))

  by_a : lies_on (grid_point c) (grid_point d) (grid_point a) ≡ true → boxes_meet a b c d ≡ true
  by_a h = let p = lies_boxed c d a h in and_from _ _ (meets_second c.x d.x a.x a.x b.x p.0 (omega arith) (omega arith)) (meets_second c.y d.y a.y a.y b.y p.1 (omega arith) (omega arith))

  by_b : lies_on (grid_point c) (grid_point d) (grid_point b) ≡ true → boxes_meet a b c d ≡ true
  by_b h = let p = lies_boxed c d b h in and_from _ _ (meets_second c.x d.x b.x a.x b.x p.0 (omega arith) (omega arith)) (meets_second c.y d.y b.y a.y b.y p.1 (omega arith) (omega arith))

  by_cross : cross (grid_point a) (grid_point b) (grid_point c) (grid_point d) ≡ true → boxes_meet a b c d ≡ true
  by_cross h =
      let p = and_parts _ _ h in
      let A = grid_point a in
      let B = grid_point b in
      let C = grid_point c in
      let D = grid_point d in
      and_from _ _
      (ranges_of_cross (det C D (spot_at A)) (det C D (spot_at B)) (det A B (spot_at C)) (det A B (spot_at D)) a.x b.x c.x d.x p.1 p.0 (sides_balance A B C D) (sides_weigh_x A B C D))
      (ranges_of_cross (det C D (spot_at A)) (det C D (spot_at B)) (det A B (spot_at C)) (det A B (spot_at D)) a.y b.y c.y d.y p.1 p.0 (sides_balance A B C D) (sides_weigh_y A B C D))

  meet_is_near : meet_at a b c d ≡ true → boxes_meet a b c d ≡ true
  meet_is_near h = elim (or_cases _ _ h) [
    | inl t ↦ elim (or_cases _ _ t) [ inl u ↦ by_c u | inr u ↦ by_d u ]
    | inr t ↦ elim (or_cases _ _ t) [
      | inl u ↦ elim (or_cases _ _ u) [ inl v ↦ by_a v | inr v ↦ by_b v ]
      | inr u ↦ by_cross u
    ]
  ]

only_near : (m n : Bool) → (m ≡ true → n ≡ true) → m ≡ (n && m)
only_near true n h = sym (and_from n true (h refl) refl)
only_near false true h = refl
only_near false false h = refl

-- boxes that are apart tell it alone
pub apart_never_meet : (a b c d : Point) → meet_at a b c d ≡ (boxes_meet a b c d && meet_at a b c d)
apart_never_meet a b c d = only_near (meet_at a b c d) (boxes_meet a b c d) (meet_is_near a b c d)

-- and they are never apart where an end is shared
range_of : (u v : ℕ) → in_range u v u ≡ true
range_of u v = and_from _ _ (le_test (min u v) u (omega arith)) (le_test u (max u v) (omega arith))

range_to : (u v : ℕ) → in_range u v v ≡ true
range_to u v = and_from _ _ (le_test (min u v) v (omega arith)) (le_test v (max u v) (omega arith))

pub starts_shared : (a b d : Point) → boxes_meet a b a d ≡ true
starts_shared a b d = and_from _ _ (meets_first a.x b.x a.x a.x d.x (range_of a.x b.x) (omega arith) (omega arith)) (meets_first a.y b.y a.y a.y d.y (range_of a.y b.y) (omega arith) (omega arith))

pub start_is_end : (a b c : Point) → boxes_meet a b c a ≡ true
start_is_end a b c = and_from _ _ (meets_first a.x b.x a.x c.x a.x (range_of a.x b.x) (omega arith) (omega arith)) (meets_first a.y b.y a.y c.y a.y (range_of a.y b.y) (omega arith) (omega arith))

pub end_is_start : (a b d : Point) → boxes_meet a b b d ≡ true
end_is_start a b d = and_from _ _ (meets_first a.x b.x b.x b.x d.x (range_to a.x b.x) (omega arith) (omega arith)) (meets_first a.y b.y b.y b.y d.y (range_to a.y b.y) (omega arith) (omega arith))

pub ends_shared : (a b c : Point) → boxes_meet a b c b ≡ true
ends_shared a b c = and_from _ _ (meets_first a.x b.x b.x c.x b.x (range_to a.x b.x) (omega arith) (omega arith)) (meets_first a.y b.y b.y c.y b.y (range_to a.y b.y) (omega arith) (omega arith))
