-- A point against a triangle and against the segment of one of its sides.
use Rattle.std.proofs.Common.{◌≡◌, ℤ, pos, ◌+ℤ◌, ◌-ℤ◌, ◌*ℤ◌, neg_ℤ, ◌≤ℤ◌, ◌<ℤ◌, sym, ◌∙◌}
use Rattle.std.proofs.lemmas.Int.{by_lt_z}
use Rattle.plane.specs.Identities.{height, width}
use Rattle.plane.specs.Points.{GridPoint, Spot, ahead, along, area, det, spot_at}
use Rattle.plane.proofs.Determinants.{along_height, along_width, identities}
use Rattle.plane.proofs.Ring.{◌⊕◌, ◌⊖◌, ◌⊗◌, ring, same?}
use Rattle.plane.proofs.Signs.{left->, lin, right_0, right->, swapped, times-++, times---, times_neg, times->>, zero_right}
use Rattle.plane.proofs.Symbols.{aheadˢ, areaˢ, aˢ, bˢ, cˢ, detˢ, pˢ, spot_atˢ, variables}

-- p is the point a
pub record At (a : GridPoint) (p : Spot) : Type 0 where
  pub level_x : p.X ≡ a.x *ℤ p.Z
  pub level_y : p.Y ≡ a.y *ℤ p.Z

-- p is in the open segment of a and b
pub record Between (a b : GridPoint) (p : Spot) : Type 0 where
  pub on : det a b p ≡ pos 0
  pub after : pos 0 <ℤ ahead a b p
  pub before : pos 0 <ℤ ahead b a p

negated_0 : (u v : ℤ) → u ≡ neg_ℤ v → v ≡ pos 0 → u ≡ pos 0
negated_0 u v e f = omega lin

pub on_back : (a b : GridPoint) (p : Spot) → det a b p ≡ pos 0 → det b a p ≡ pos 0
on_back a b p e = negated_0 (det b a p) (det a b p) (identities.turned b a p) e

pub between_back : {a b : GridPoint} {p : Spot} → Between a b p → Between b a p
between_back {a} {b} {p} h = record { on = on_back a b p h.on; after = h.before; before = h.after }

-- ---- at an end

module _ (a b : GridPoint) (p : Spot) (here : At a p) where
  level_width : width a p ≡ pos 0
  level_width = go p.X (a.x *ℤ p.Z) here.level_x
    where
      go : (u v : ℤ) → u ≡ v → u -ℤ v ≡ pos 0
      go u v e = omega lin

  level_height : height a p ≡ pos 0
  level_height = go p.Y (a.y *ℤ p.Z) here.level_y
    where
      go : (u v : ℤ) → u ≡ v → u -ℤ v ≡ pos 0
      go u v e = omega lin

  pub start_on : det a b p ≡ pos 0
  unfolding det
  start_on = go _ _ (zero_right (b.x -ℤ a.x) (height a p) level_height) (zero_right (b.y -ℤ a.y) (width a p) level_width)
    where
      go : (u v : ℤ) → u ≡ pos 0 → v ≡ pos 0 → u -ℤ v ≡ pos 0
      go u v e f = omega lin

  pub end_on : det b a p ≡ pos 0
  end_on = on_back a b p start_on

  not_ahead : ahead a b p ≡ pos 0
  unfolding along
  not_ahead = go _ _ (zero_right (b.x -ℤ a.x) (width a p) level_width) (zero_right (b.y -ℤ a.y) (height a p) level_height)
    where
      go : (u v : ℤ) → u ≡ pos 0 → v ≡ pos 0 → u +ℤ v ≡ pos 0
      go u v e f = omega lin

  -- an end is not in the open segment
  pub start_not_between : ¬ (Between a b p)
  start_not_between h = go _ not_ahead h.after
    where
      go : (u : ℤ) → u ≡ pos 0 → pos 0 <ℤ u → ⊥
      go u e k = omega lin

-- ---- two sides through the point

module _ (a b c : GridPoint) (p : Spot) (scaled : pos 0 <ℤ p.Z) (leftward : pos 0 <ℤ area a b c) (ab : det a b p ≡ pos 0) (ca : det c a p ≡ pos 0) where
  -- in no direction is p away from a
  not_along : (u v : ℤ) → along u v a p ≡ pos 0
  not_along u v =
      right_0 (det b c p) (along u v a p) (third (det a b p) (det b c p) (det c a p) (p.Z *ℤ area a b c) (identities.sides a b c p) ab ca (times->> p.Z (area a b c) scaled leftward))
      (alone (along u v a p *ℤ det b c p) (along u v b p *ℤ det c a p) (along u v c p *ℤ det a b p) (det b c p *ℤ along u v a p)
      (identities.balance u v a b c p) (zero_right (along u v b p) (det c a p) ca) (zero_right (along u v c p) (det a b p) ab)
      (swapped (det b c p) (along u v a p)))
    where
      third : (x y z s : ℤ) → x +ℤ y +ℤ z ≡ s → x ≡ pos 0 → z ≡ pos 0 → pos 0 <ℤ s → pos 0 <ℤ y
      third x y z s e f g h = omega lin

      alone : (x y z w : ℤ) → x +ℤ y +ℤ z ≡ pos 0 → y ≡ pos 0 → z ≡ pos 0 → w ≡ x → w ≡ pos 0
      alone x y z w e f g h = omega lin

  pub common_corner : At a p
  common_corner =
      record {
        level_x = equal p.X (a.x *ℤ p.Z) (sym (along_width a a a p p (pos 0) (pos 0)) ∙ not_along (pos 1) (pos 0));
        level_y = equal p.Y (a.y *ℤ p.Z) (sym (along_height a a a p p (pos 0) (pos 0)) ∙ not_along (pos 0) (pos 1));
      }
    where
      equal : (u v : ℤ) → u -ℤ v ≡ pos 0 → u ≡ v
      equal u v e = omega lin

-- ---- areas and distances

pub area_back : (a b c : GridPoint) → area b a c ≡ neg_ℤ (area a b c)
area_back a b c = identities.turned b a (spot_at c)

pub area_turn : (a b c : GridPoint) → area a b c ≡ area b c a
unfolding det same?
area_turn a b c = ring (variables a b c (spot_at a) (spot_at a) (pos 0) (pos 0)) (areaˢ aˢ bˢ cˢ) (areaˢ bˢ cˢ aˢ) tt

-- the square of the distance
abbrev distance : GridPoint → GridPoint → ℤ
distance a b = ahead a b (spot_at b)

distance_back : (a b : GridPoint) → distance a b ≡ distance b a
unfolding along same?
distance_back a b = ring (variables a b a (spot_at a) (spot_at a) (pos 0) (pos 0)) (aheadˢ aˢ bˢ (spot_atˢ bˢ)) (aheadˢ bˢ aˢ (spot_atˢ aˢ)) tt

distance_squares : (a b : GridPoint) → distance a b ≡ (b.x -ℤ a.x) *ℤ (b.x -ℤ a.x) +ℤ (b.y -ℤ a.y) *ℤ (b.y -ℤ a.y)
unfolding along same?
distance_squares a b =
    ring (variables a b a (spot_at a) (spot_at a) (pos 0) (pos 0))
    (aheadˢ aˢ bˢ (spot_atˢ bˢ)) ((bˢ.x ⊖ aˢ.x) ⊗ (bˢ.x ⊖ aˢ.x) ⊕ (bˢ.y ⊖ aˢ.y) ⊗ (bˢ.y ⊖ aˢ.y)) tt

square_low : (u : ℤ) → pos 0 ≤ℤ (u *ℤ u)
square_low u = by_lt_z u (pos 0) (λ (h : u <ℤ pos 0). times--- u u (omega lin) (omega lin)) (λ (h : pos 0 ≤ℤ u). times-++ u u h h)

distance_low : (a b : GridPoint) → pos 0 ≤ℤ distance a b
distance_low a b = let e = distance_squares a b in let h = square_low (b.x -ℤ a.x) in let k = square_low (b.y -ℤ a.y) in omega lin

module _ (a b c : GridPoint) (p : Spot) where
  lagrange : area a b c *ℤ area a b c +ℤ ahead a b (spot_at c) *ℤ ahead a b (spot_at c) ≡ distance a b *ℤ distance a c
  unfolding along det same?
  lagrange =
      ring (variables a b c p p (pos 0) (pos 0))
      (areaˢ aˢ bˢ cˢ ⊗ areaˢ aˢ bˢ cˢ ⊕ aheadˢ aˢ bˢ (spot_atˢ cˢ) ⊗ aheadˢ aˢ bˢ (spot_atˢ cˢ))
      (aheadˢ aˢ bˢ (spot_atˢ bˢ) ⊗ aheadˢ aˢ cˢ (spot_atˢ cˢ)) tt

  -- the ends of a side are apart
  distance_high : pos 0 <ℤ area a b c → pos 0 <ℤ distance a b
  distance_high k =
      let e = lagrange in
      let h = times->> (area a b c) (area a b c) k k in
      let l = square_low (ahead a b (spot_at c)) in
      left-> (distance a b) (distance a c) (distance_low a c) (omega lin)

  projected : distance a b *ℤ det c a p ≡ ahead a b p *ℤ area a b c -ℤ ahead a b (spot_at c) *ℤ det a b p
  unfolding along det same?
  projected =
      ring (variables a b c p p (pos 0) (pos 0)) (aheadˢ aˢ bˢ (spot_atˢ bˢ) ⊗ detˢ cˢ aˢ pˢ)
      (aheadˢ aˢ bˢ pˢ ⊗ areaˢ aˢ bˢ cˢ ⊖ aheadˢ aˢ bˢ (spot_atˢ cˢ) ⊗ detˢ aˢ bˢ pˢ) tt

-- on the line of a and b, p is as far ahead of a as the side from c to a tells
on_line : (a b c : GridPoint) (p : Spot) → det a b p ≡ pos 0 → distance a b *ℤ det c a p ≡ ahead a b p *ℤ area a b c
on_line a b c p e = go _ _ _ (projected a b c p) (zero_right (ahead a b (spot_at c)) (det a b p) e)
  where
    go : (u v w : ℤ) → u ≡ v -ℤ w → w ≡ pos 0 → u ≡ v
    go u v w h k = omega lin

-- and as far ahead of b as the side from b to c tells
on_line' : (a b c : GridPoint) (p : Spot) → det a b p ≡ pos 0 → distance a b *ℤ det b c p ≡ ahead b a p *ℤ area a b c
on_line' a b c p e =
    let h = on_line b a c p (on_back a b p e) in
    go (distance a b) (ahead b a p) (det b c p) (area a b c)
    (rw (identities.turned c b p, area_back a b c, distance_back b a) at h)
  where
    go : (s t u v : ℤ) → s *ℤ neg_ℤ u ≡ t *ℤ neg_ℤ v → s *ℤ u ≡ t *ℤ v
    go s t u v h = let i = times_neg s u in let j = times_neg t v in equal (s *ℤ u) (t *ℤ v) (sym i ∙ h ∙ j)
      where
        equal : (x y : ℤ) → neg_ℤ x ≡ neg_ℤ y → x ≡ y
        equal x y e = omega lin

-- ---- in a side

module _ (a b c : GridPoint) (p : Spot) (leftward : pos 0 <ℤ area a b c) where
  low : pos 0 ≤ℤ area a b c
  low = omega lin

  -- in the open side ab, p is to the left of the other two
  pub between_bc : Between a b p → pos 0 <ℤ det b c p
  between_bc h = right-> (distance a b) (det b c p) (distance_low a b) (rw (on_line' a b c p h.on) (times->> (ahead b a p) (area a b c) h.before leftward))

  pub between_ca : Between a b p → pos 0 <ℤ det c a p
  between_ca h = right-> (distance a b) (det c a p) (distance_low a b) (rw (on_line a b c p h.on) (times->> (ahead a b p) (area a b c) h.after leftward))

  -- and that is where the open side is
  pub in_side : det a b p ≡ pos 0 → pos 0 <ℤ det b c p → pos 0 <ℤ det c a p → Between a b p
  in_side e f g =
      record {
        on = e;
        after = left-> (ahead a b p) (area a b c) low (rw (← on_line a b c p e) (times->> (distance a b) (det c a p) (distance_high a b c p leftward) g));
        before = left-> (ahead b a p) (area a b c) low (rw (← on_line' a b c p e) (times->> (distance a b) (det b c p) (distance_high a b c p leftward) f));
      }
