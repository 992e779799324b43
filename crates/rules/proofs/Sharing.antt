-- Two segments with a point inside both: they cross, or an end of one is inside the other, or they have the same ends.
use Rattle.std.proofs.Common.{◌≡◌, ◌⊎◌, true, [], ◌∷◌, ℤ, pos, ◌+ℤ◌, ◌-ℤ◌, ◌*ℤ◌, ◌≤ℤ◌, ◌<ℤ◌, sym, inl, inr}
use Rattle.std.proofs.lemmas.Bool.{and_from}
use Rattle.std.proofs.lemmas.Int.{by_lt_z}
use Rattle.plane.specs.Points.{GridPoint, Spot, ahead, along, det, spot_at}
use Rattle.plane.proofs.Signs.{lin, right_0, right->, swapped, times-++, times-<>, times->>, zero_left, zero_right}
use Rattle.plane.proofs.Ring.{var, ◌⊖◌, ◌⊗◌, ring, same?}
use Rattle.tiling.proofs.Segments.{Between, between_back}
use Rattle.rules.specs.Rules.{cross, opposite}
use Rattle.rules.proofs.Lines.{end_beside, scaled_after, scaled_before, scaled_beside, scaled_x, scaled_y, start_ahead, start_beside, whole}
use Rattle.tiling.proofs.Borders.{weak}
use Rattle.tiling.proofs.Uniqueness.{det_between}

-- equations with a part that is 0
sum_0 : (u v w : ℤ) → u ≡ v +ℤ w → w ≡ pos 0 → u ≡ v
sum_0 u v w e f = omega lin

minus_0 : (u v w : ℤ) → u ≡ v -ℤ w → v ≡ pos 0 → w ≡ pos 0 → u ≡ pos 0
minus_0 u v w e f g = omega lin

plus_0 : (u v w : ℤ) → u ≡ v +ℤ w → v ≡ pos 0 → w ≡ pos 0 → u ≡ pos 0
plus_0 u v w e f g = omega lin

less_0 : (u v : ℤ) → u ≡ pos 0 → v ≡ pos 0 → u -ℤ v ≡ pos 0
less_0 u v e f = omega lin

-- ---- the ends of one segment on the line of the other, c before d

module _ (a b c d : GridPoint) (long : pos 0 <ℤ ahead a b (spot_at b)) (on-c : det a b (spot_at c) ≡ pos 0) (on-d : det a b (spot_at d) ≡ pos 0) where
  abbrev t : Spot → ℤ
  t = ahead a b

  level : det a b (spot_at d) -ℤ det a b (spot_at c) ≡ pos 0
  level = less_0 _ _ on-d on-c

  after_is : (q : Spot) → t (spot_at b) *ℤ ahead c d q ≡ (t (spot_at d) -ℤ t (spot_at c)) *ℤ (t q -ℤ q.Z *ℤ t (spot_at c))
  after_is q = sum_0 _ _ _ (scaled_after a b c d q) (zero_left _ _ level)

  before_is : (q : Spot) → t (spot_at b) *ℤ ahead d c q ≡ (t (spot_at d) -ℤ t (spot_at c)) *ℤ (q.Z *ℤ t (spot_at d) -ℤ t q)
  before_is q = sum_0 _ _ _ (scaled_before a b c d q) (zero_left _ _ level)

  on_too : (q : Spot) → det a b q ≡ pos 0 → det c d q ≡ pos 0
  on_too q e =
      right_0 (t (spot_at b)) (det c d q) long
      (minus_0 _ _ _ (scaled_beside a b c d q) (zero_right (t (spot_at d) -ℤ t (spot_at c)) _ (less_0 _ _ e (zero_right q.Z _ on-c))) (zero_left _ _ level))

  -- as far ahead is the same point
  same_place : t (spot_at c) ≡ t (spot_at d) → c ≡ d
  same_place e = λ i. record { x = equal c.x d.x zero_x i; y = equal c.y d.y zero_y i }
    where
      equal : (u v : ℤ) → u -ℤ v ≡ pos 0 → u ≡ v
      equal u v e = omega lin

      gone : (u v : ℤ) → u ≡ v → u -ℤ v ≡ pos 0
      gone u v e = omega lin

      zero_x : c.x -ℤ d.x ≡ pos 0
      zero_x =
          right_0 (t (spot_at b)) (c.x -ℤ d.x) long
          (minus_0 _ _ _ (scaled_x a b c d (spot_at a)) (zero_right (b.x -ℤ a.x) _ (gone _ _ e)) (zero_right (b.y -ℤ a.y) _ (less_0 _ _ on-c on-d)))

      zero_y : c.y -ℤ d.y ≡ pos 0
      zero_y =
          right_0 (t (spot_at b)) (c.y -ℤ d.y) long
          (plus_0 _ _ _ (scaled_y a b c d (spot_at a)) (zero_right (b.y -ℤ a.y) _ (gone _ _ e)) (zero_right (b.x -ℤ a.x) _ (less_0 _ _ on-c on-d)))

  module _ (less : pos 0 <ℤ (t (spot_at d) -ℤ t (spot_at c))) where
    -- inside c and d is between their distances
    inside : (q : Spot) → det a b q ≡ pos 0 → pos 0 <ℤ (t q -ℤ q.Z *ℤ t (spot_at c)) → pos 0 <ℤ (q.Z *ℤ t (spot_at d) -ℤ t q) → Between c d q
    inside q e h k =
        record {
          on = on_too q e;
          after = right-> (t (spot_at b)) (ahead c d q) (weak long) (rw (after_is q) (times->> (t (spot_at d) -ℤ t (spot_at c)) (t q -ℤ q.Z *ℤ t (spot_at c)) less h));
          before = right-> (t (spot_at b)) (ahead d c q) (weak long) (rw (before_is q) (times->> (t (spot_at d) -ℤ t (spot_at c)) (q.Z *ℤ t (spot_at d) -ℤ t q) less k));
        }

    past_c : (q : Spot) → Between c d q → pos 0 <ℤ (t q -ℤ q.Z *ℤ t (spot_at c))
    past_c q h = right-> (t (spot_at d) -ℤ t (spot_at c)) _ (weak less) (rw (after_is q) at (times->> (t (spot_at b)) (ahead c d q) long h.after))

    short_of_d : (q : Spot) → Between c d q → pos 0 <ℤ (q.Z *ℤ t (spot_at d) -ℤ t q)
    short_of_d q h = right-> (t (spot_at d) -ℤ t (spot_at c)) _ (weak less) (rw (before_is q) at (times->> (t (spot_at b)) (ahead d c q) long h.before))

-- ---- p inside both, on one line

cancel : (z u v : ℤ) → pos 0 <ℤ z → pos 0 <ℤ (z *ℤ v -ℤ z *ℤ u) → pos 0 <ℤ (v -ℤ u)
unfolding same?
cancel z u v h k = let e = ring (z ∷ u ∷ v ∷ []) (var 0 ⊗ (var 2 ⊖ var 1)) (var 0 ⊗ var 2 ⊖ var 0 ⊗ var 1) tt in right-> z (v -ℤ u) (weak h) (rw e k)

module _ (a b c d : GridPoint) (p : Spot) (z : pos 0 <ℤ p.Z) (h : Between a b p) (k : Between c d p) (on-c : det a b (spot_at c) ≡ pos 0) (on-d : det a b (spot_at d) ≡ pos 0) where
  abbrev r : GridPoint → ℤ
  r x = ahead a b (spot_at x)

  long : pos 0 <ℤ r b
  long = right-> p.Z (r b) (weak z) (go _ _ _ (whole a b p) h.after h.before)
    where
      go : (u v w : ℤ) → u ≡ v +ℤ w → pos 0 <ℤ v → pos 0 <ℤ w → pos 0 <ℤ u
      go u v w e f g = omega lin

  -- a point of the line inside a and b
  here : (x : GridPoint) → det a b (spot_at x) ≡ pos 0 → pos 0 <ℤ r x → pos 0 <ℤ (r b -ℤ r x) → Between a b (spot_at x)
  here x e f g = record { on = e; after = f; before = go _ _ _ (whole a b (spot_at x)) g }
    where
      go : (u v w : ℤ) → pos 1 *ℤ u ≡ v +ℤ w → pos 0 <ℤ (u -ℤ v) → pos 0 <ℤ w
      go u v w e f = omega lin

  module _ (less : pos 0 <ℤ (r d -ℤ r c)) where
    there : (x : GridPoint) → det a b (spot_at x) ≡ pos 0 → pos 0 <ℤ (r x -ℤ r c) → pos 0 <ℤ (r d -ℤ r x) → Between c d (spot_at x)
    there x e f g = inside a b c d long on-c on-d less (spot_at x) e (low (r x) (r c) f) (high (r d) (r x) g)
      where
        low : (u v : ℤ) → pos 0 <ℤ (u -ℤ v) → pos 0 <ℤ (u -ℤ pos 1 *ℤ v)
        low u v h = omega lin

        high : (u v : ℤ) → pos 0 <ℤ (u -ℤ v) → pos 0 <ℤ (pos 1 *ℤ u -ℤ v)
        high u v h = omega lin

    c_short : pos 0 <ℤ (r b -ℤ r c)
    c_short = cancel p.Z (r c) (r b) z (go _ _ _ _ (whole a b p) h.before (past_c a b c d long on-c on-d less p k))
      where
        go : (u v w x : ℤ) → u ≡ v +ℤ w → pos 0 <ℤ w → pos 0 <ℤ (v -ℤ x) → pos 0 <ℤ (u -ℤ x)
        go u v w x e f g = omega lin

    d_past : pos 0 <ℤ r d
    d_past = right-> p.Z (r d) (weak z) (go _ _ h.after (short_of_d a b c d long on-c on-d less p k))
      where
        go : (u v : ℤ) → pos 0 <ℤ u → pos 0 <ℤ (v -ℤ u) → pos 0 <ℤ v
        go u v f g = omega lin

    module _ (no-c : ¬ (Between a b (spot_at c))) (no-d : ¬ (Between a b (spot_at d))) (no-a : ¬ (Between c d (spot_at a))) (no-b : ¬ (Between c d (spot_at b))) where
      c_start : r c ≡ r a
      c_start =
          go (r c) (r a) (r d) (start_ahead a b) d_past
          (λ f. no-c (here c on-c f c_short)) (λ f g. no-a (there a (start_beside a b) f g))
        where
          go : (u v w : ℤ) → v ≡ pos 0 → pos 0 <ℤ w → (pos 0 <ℤ u → ⊥) → (pos 0 <ℤ (v -ℤ u) → pos 0 <ℤ (w -ℤ v) → ⊥) → u ≡ v
          go u v w e f g h =
              by_lt_z (pos 0) u (λ (l : pos 0 <ℤ u). absurd (g l))
              (λ (l : u ≤ℤ pos 0). by_lt_z u (pos 0) (λ (m : u <ℤ pos 0). absurd (h (omega lin) (omega lin))) (λ (m : pos 0 ≤ℤ u). omega lin))

      d_end : r d ≡ r b
      d_end =
          go (r d) (r b)
          (λ f. no-d (here d on-d d_past f)) (λ f. no-b (there b (end_beside a b) c_short f))
        where
          go : (u v : ℤ) → (pos 0 <ℤ (v -ℤ u) → ⊥) → (pos 0 <ℤ (u -ℤ v) → ⊥) → u ≡ v
          go u v g h =
              by_lt_z u v (λ (l : u <ℤ v). absurd (g (omega lin)))
              (λ (l : v ≤ℤ u). by_lt_z v u (λ (m : v <ℤ u). absurd (h (omega lin))) (λ (m : u ≤ℤ v). omega lin))

      ordered : (c ≡ a) × (d ≡ b)
      ordered = (same_place a b c a long on-c (start_beside a b) c_start, same_place a b d b long on-d (end_beside a b) d_end)

-- with p inside both, c and d are not as far ahead as one another
distances : (a b c d : GridPoint) (p : Spot) → pos 0 <ℤ p.Z → Between a b p → Between c d p → det a b (spot_at c) ≡ pos 0 → det a b (spot_at d) ≡ pos 0
    → ahead a b (spot_at d) ≡ ahead a b (spot_at c) → ⊥
distances a b c d p z h k on-c on-d e =
    go _ _ (after_is a b c d (long a b c d p z h k on-c on-d) on-c on-d p) (zero_left _ _ (less_is _ _ e)) (times->> _ _ (long a b c d p z h k on-c on-d) k.after)
  where
    less_is : (u v : ℤ) → u ≡ v → u -ℤ v ≡ pos 0
    less_is u v e = omega lin

    go : (u v : ℤ) → u ≡ v → v ≡ pos 0 → pos 0 <ℤ u → ⊥
    go u v e f g = omega lin

collinear : (a b c d : GridPoint) (p : Spot) → pos 0 <ℤ p.Z → Between a b p → Between c d p → det a b (spot_at c) ≡ pos 0 → det a b (spot_at d) ≡ pos 0
    → ¬ (Between a b (spot_at c)) → ¬ (Between a b (spot_at d)) → ¬ (Between c d (spot_at a)) → ¬ (Between c d (spot_at b))
    → ((c ≡ a) × (d ≡ b)) ⊎ ((c ≡ b) × (d ≡ a))
collinear a b c d p z h k on-c on-d no-c no-d no-a no-b =
    by_lt_z (ahead a b (spot_at c)) (ahead a b (spot_at d))
    (λ (l : ahead a b (spot_at c) <ℤ ahead a b (spot_at d)). inl (ordered a b c d p z h k on-c on-d (less _ _ l) no-c no-d no-a no-b))
    (λ (l : ahead a b (spot_at d) ≤ℤ ahead a b (spot_at c)). by_lt_z (ahead a b (spot_at d)) (ahead a b (spot_at c))
    (λ (m : ahead a b (spot_at d) <ℤ ahead a b (spot_at c)).
    let o = ordered a b d c p z h (between_back k) on-d on-c (less _ _ m) no-d no-c (λ n. no-a (between_back n)) (λ n. no-b (between_back n)) in inr (o.1, o.0))
    (λ (m : ahead a b (spot_at c) ≤ℤ ahead a b (spot_at d)). absurd (distances a b c d p z h k on-c on-d (level_is _ _ l m))))
  where
    less : (u v : ℤ) → u <ℤ v → pos 0 <ℤ (v -ℤ u)
    less u v l = omega lin

    level_is : (u v : ℤ) → u ≤ℤ v → v ≤ℤ u → u ≡ v
    level_is u v l m = omega lin

-- ---- p inside both

-- where two weights above 0 balance, both numbers are 0, or they have opposite signs
weights : (x y u v : ℤ) → pos 0 <ℤ x → pos 0 <ℤ y → x *ℤ u +ℤ y *ℤ v ≡ pos 0 → ((u ≡ pos 0) × (v ≡ pos 0)) ⊎ (opposite u v ≡ true)
weights x y u v h k e =
    by_lt_z u (pos 0)
    (λ (l : u <ℤ pos 0). let q = times-<> u x l h in let s = swapped u x in let m = right-> y v (weak k) (omega lin) in inr (signs_right u v l m))
    (λ (l : pos 0 ≤ℤ u). by_lt_z (pos 0) u
    (λ (m : pos 0 <ℤ u). let q = times->> x u h m in inr (signs_left u v m
    (by_lt_z v (pos 0) (λ (n : v <ℤ pos 0). n) (λ (n : pos 0 ≤ℤ v). let j = times-++ y v (weak k) n in absurd (omega lin)))))
    (λ (m : u ≤ℤ pos 0). let i : u ≡ pos 0 = omega lin in let j = zero_right x u i in inl (i, right_0 y v k (omega lin))))
  where
    signs_right : (u v : ℤ) → u <ℤ pos 0 → pos 0 <ℤ v → opposite u v ≡ true
    signs_right u v l m = grind lin

    signs_left : (u v : ℤ) → pos 0 <ℤ u → v <ℤ pos 0 → opposite u v ≡ true
    signs_left u v l m = grind lin

-- with p inside both, c and d are on the line of a and b, or on both sides of it
sides_of : (a b c d : GridPoint) (p : Spot) → det a b p ≡ pos 0 → Between c d p
    → ((det a b (spot_at c) ≡ pos 0) × (det a b (spot_at d) ≡ pos 0)) ⊎ (opposite (det a b (spot_at c)) (det a b (spot_at d)) ≡ true)
sides_of a b c d p e k =
    weights (ahead d c p) (ahead c d p) (det a b (spot_at c)) (det a b (spot_at d)) k.before k.after
    (go _ _ _ (det_between a b c d p) (zero_right (ahead c d (spot_at d)) (det a b p) e) (zero_right (along (b.x -ℤ a.x) (b.y -ℤ a.y) c (spot_at d)) (det c d p) k.on))
  where
    go : (u v w : ℤ) → u ≡ v +ℤ w → u ≡ pos 0 → w ≡ pos 0 → v ≡ pos 0
    go u v w e f g = omega lin

-- neither has an end of the other inside, and they do not cross
pub record Parted (a b c d : GridPoint) : Type 0 where
  pub no-c : ¬ (Between a b (spot_at c))
  pub no-d : ¬ (Between a b (spot_at d))
  pub no-a : ¬ (Between c d (spot_at a))
  pub no-b : ¬ (Between c d (spot_at b))
  pub uncrossed : cross a b c d ≡ true → ⊥

pub same_ends : (a b c d : GridPoint) (p : Spot) → pos 0 <ℤ p.Z → Between a b p → Between c d p → Parted a b c d → ((c ≡ a) × (d ≡ b)) ⊎ ((c ≡ b) × (d ≡ a))
same_ends a b c d p z h k o =
    elim (sides_of a b c d p h.on k) [
      | inl e ↦ collinear a b c d p z h k e.0 e.1 o.no-c o.no-d o.no-a o.no-b
      | inr t ↦ elim (sides_of c d a b p k.on h) [
        | inl e ↦ elim (collinear c d a b p z k h e.0 e.1 o.no-a o.no-b o.no-c o.no-d) [
          | inl q ↦ inl (sym q.0, sym q.1)
          | inr q ↦ inr (sym q.1, sym q.0)
        ]
        | inr u ↦ absurd (o.uncrossed (and_from _ _ t u))
      ]
    ]
