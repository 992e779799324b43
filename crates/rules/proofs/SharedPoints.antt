-- Two segments meet, by the signs of determinants, exactly where they share a point.
use Rattle.std.proofs.Common.{◌≡◌, true, false, ◌||◌, ◌⊎◌, ℤ, pos, ◌+ℤ◌, ◌-ℤ◌, ◌*ℤ◌, neg_ℤ, ◌<ℤ◌, ◌≤ℤ◌, [], ◌∷◌, sym, ap, ◌∙◌, subst, inl, inr}
use Rattle.std.proofs.lemmas.Bool.{and_parts, both_ways, cases_Bool, or_cases, or_left, or_parts, or_right}
use Rattle.std.proofs.lemmas.Int.{by_lt_z}
use Rattle.plane.specs.Points.{GridPoint, Spot, ahead, along, between, det, is_at, on_segment, spot_at}
use Rattle.plane.proofs.Ring.{var, ◌⊕◌, ◌⊖◌, ◌⊗◌, lit, ring, same?}
use Rattle.plane.proofs.Signs.{lin, neg_times, right_0, right->, times->>, zero_left}
use Rattle.plane.proofs.Symbols.{Spotˢ, aheadˢ, aˢ, bˢ, cˢ, detˢ, pˢ, spot_atˢ, variables}
use Rattle.tiling.proofs.Borders.{weak}
use Rattle.tiling.proofs.Holding.{at_true, between_true, true_at, true_between}
use Rattle.tiling.proofs.Segments.{At, Between, between_back}
use Rattle.tiling.proofs.Uniqueness.{at_spot}
use Rattle.rules.specs.Rules.{cross, lies_on, meet, opposite}
use Rattle.rules.proofs.Boxes.{ahead_parts, sides_balance, sides_weigh_x, sides_weigh_y, sum_sign}
use Rattle.rules.proofs.Parting.{cross_turn, from_meet}
use Rattle.rules.proofs.Sharing.{same_ends}

-- ---- on a closed segment

-- p is on the segment, by cases
abbrev On : GridPoint → GridPoint → Spot → Type 0
On a b p = At a p ⊎ (At b p ⊎ Between a b p)

pub on_cases : (a b : GridPoint) (p : Spot) → on_segment a b p ≡ true → On a b p
on_cases a b p h = elim (or_cases (is_at a p) _ h) [
  | inl t ↦ inl (at_true a p t)
  | inr t ↦ inr (elim (or_cases (is_at b p) (between a b p) t) [ inl u ↦ inl (at_true b p u) | inr u ↦ inr (between_true a b p u) ])
]

pub cases_on : (a b : GridPoint) (p : Spot) → On a b p → on_segment a b p ≡ true
cases_on a b p (inl h) = or_left (is_at a p) _ (true_at a p h)
cases_on a b p (inr (inl h)) = or_right (is_at a p) _ (or_left (is_at b p) _ (true_at b p h))
cases_on a b p (inr (inr h)) = or_right (is_at a p) _ (or_right (is_at b p) (between a b p) (true_between a b p h))

pub on_turned : (a b : GridPoint) (p : Spot) → on_segment a b p ≡ true → on_segment b a p ≡ true
on_turned a b p h = cases_on b a p (elim (on_cases a b p h) [ inl i ↦ inr (inl i) | inr (inl i) ↦ inl i | inr (inr i) ↦ inr (inr (between_back i)) ])

pub starts_on : (a b : GridPoint) → lies_on a b a ≡ true
starts_on a b = cases_on a b (spot_at a) (inl (at_spot a))

pub ends_on : (a b : GridPoint) → lies_on a b b ≡ true
ends_on a b = cases_on a b (spot_at b) (inr (inl (at_spot b)))

-- ---- the point where two segments cross

-- a point of the segment, by weights of its ends
abbrev weighed : GridPoint → GridPoint → ℤ → ℤ → Spot
weighed a b m n = record { X = m *ℤ a.x +ℤ n *ℤ b.x; Y = m *ℤ a.y +ℤ n *ℤ b.y; Z = m +ℤ n }

module _ (a b : GridPoint) (m n : ℤ) where
  abbrev weighedˢ : Spotˢ
  weighedˢ = record { X = var 4 ⊗ var 0 ⊕ var 5 ⊗ var 2; Y = var 4 ⊗ var 1 ⊕ var 5 ⊗ var 3; Z = var 4 ⊕ var 5 }

  weighed_beside : det a b (weighed a b m n) ≡ pos 0
  unfolding det same?
  weighed_beside = ring (a.x ∷ a.y ∷ b.x ∷ b.y ∷ m ∷ n ∷ []) (detˢ aˢ bˢ weighedˢ) (lit (pos 0)) tt

  weighed_after : ahead a b (weighed a b m n) ≡ n *ℤ ahead a b (spot_at b)
  unfolding along same?
  weighed_after = ring (a.x ∷ a.y ∷ b.x ∷ b.y ∷ m ∷ n ∷ []) (aheadˢ aˢ bˢ weighedˢ) (var 5 ⊗ aheadˢ aˢ bˢ (spot_atˢ bˢ)) tt

  weighed_before : ahead b a (weighed a b m n) ≡ m *ℤ ahead a b (spot_at b)
  unfolding along same?
  weighed_before = ring (a.x ∷ a.y ∷ b.x ∷ b.y ∷ m ∷ n ∷ []) (aheadˢ bˢ aˢ weighedˢ) (var 4 ⊗ aheadˢ aˢ bˢ (spot_atˢ bˢ)) tt

  -- inside, where both weights are above 0
  pub weighed_between : pos 0 <ℤ m → pos 0 <ℤ n → pos 0 <ℤ ahead a b (spot_at b) → Between a b (weighed a b m n)
  weighed_between h k long =
      record {
        on = weighed_beside;
        after = rw weighed_after (times->> n (ahead a b (spot_at b)) k long);
        before = rw weighed_before (times->> m (ahead a b (spot_at b)) h long);
      }

-- ends that have a point beside their line are apart
squares : (u v : ℤ) → (pos 0 <ℤ (u *ℤ u +ℤ v *ℤ v)) ⊎ ((u ≡ pos 0) × (v ≡ pos 0))
squares u v =
    sum_sign u v u v (record { up_low = λ h. h; up_high = λ h. omega lin; down_low = λ h. omega lin; down_high = λ h. h })
    (record { up_low = λ h. h; up_high = λ h. omega lin; down_low = λ h. omega lin; down_high = λ h. h })

long : (a b c : GridPoint) → pos 0 <ℤ det a b (spot_at c) → pos 0 <ℤ ahead a b (spot_at b)
unfolding det
long a b c h = elim (squares (b.x -ℤ a.x) (b.y -ℤ a.y)) [
  | inl k ↦ rw (ahead_parts a b b) k
  | inr z ↦ absurd (go _ _ (zero_left (b.x -ℤ a.x) (c.y -ℤ a.y *ℤ pos 1) z.0) (zero_left (b.y -ℤ a.y) (c.x -ℤ a.x *ℤ pos 1) z.1) h)
]
  where
    go : (u v : ℤ) → u ≡ pos 0 → v ≡ pos 0 → pos 0 <ℤ (u -ℤ v) → ⊥
    go u v e f h = omega lin

right_of : (u v : ℤ) → opposite u v ≡ true → pos 0 <ℤ u → v <ℤ pos 0
right_of u v h k = grind lin

left_of : (u v : ℤ) → opposite u v ≡ true → u <ℤ pos 0 → pos 0 <ℤ v
left_of u v h k = grind lin

never_on : (u v : ℤ) → opposite u v ≡ true → u ≡ pos 0 → ⊥
never_on u v h k = grind lin

-- a point that both have
abbrev Shared : GridPoint → GridPoint → GridPoint → GridPoint → Type 0
Shared a b c d = (p : Spot) × (pos 0 <ℤ p.Z) × (on_segment a b p ≡ true) × (on_segment c d p ≡ true)

module _ (a b c d : GridPoint) where
  abbrev γ : ℤ
  γ = det a b (spot_at c)

  abbrev δ : ℤ
  δ = det a b (spot_at d)

  abbrev α : ℤ
  α = det c d (spot_at a)

  abbrev β : ℤ
  β = det c d (spot_at b)

  -- by the weights of c and d, and by those of a and b
  one_spot : weighed c d (neg_ℤ δ) γ ≡ weighed a b β (neg_ℤ α)
  one_spot = λ i. record { X = same_x i; Y = same_y i; Z = same_z i }
    where
      swap : (u v w z x y : ℤ) → (u -ℤ v) +ℤ (w -ℤ z) ≡ pos 0 → x ≡ neg_ℤ z → y ≡ neg_ℤ u → x +ℤ w ≡ v +ℤ y
      swap u v w z x y e f g = omega lin

      same_x : neg_ℤ δ *ℤ c.x +ℤ γ *ℤ d.x ≡ β *ℤ a.x +ℤ neg_ℤ α *ℤ b.x
      same_x = swap (α *ℤ b.x) (β *ℤ a.x) (γ *ℤ d.x) (δ *ℤ c.x) _ _ (sides_weigh_x a b c d) (neg_times δ c.x) (neg_times α b.x)

      same_y : neg_ℤ δ *ℤ c.y +ℤ γ *ℤ d.y ≡ β *ℤ a.y +ℤ neg_ℤ α *ℤ b.y
      same_y = swap (α *ℤ b.y) (β *ℤ a.y) (γ *ℤ d.y) (δ *ℤ c.y) _ _ (sides_weigh_y a b c d) (neg_times δ c.y) (neg_times α b.y)

      same_z : neg_ℤ δ +ℤ γ ≡ β +ℤ neg_ℤ α
      same_z = go α β γ δ (sides_balance a b c d)
        where
          go : (α β γ δ : ℤ) → (α -ℤ β) +ℤ (γ -ℤ δ) ≡ pos 0 → neg_ℤ δ +ℤ γ ≡ β +ℤ neg_ℤ α
          go α β γ δ e = omega lin

  -- with c to the left of a and b, and d to the right
  crossing_left : cross a b c d ≡ true → pos 0 <ℤ γ → δ <ℤ pos 0 → Shared a b c d
  crossing_left h left right =
      let low : α <ℤ pos 0 = below α β γ δ (sides_balance a b c d) left right (and_parts _ _ h).1 in
      let high : pos 0 <ℤ β = left_of α β (and_parts _ _ h).1 low in
      let on_second : Between c d (weighed c d (neg_ℤ δ) γ) = weighed_between c d (neg_ℤ δ) γ (turned δ right) left (long c d b high) in
      let on_first : Between a b (weighed a b β (neg_ℤ α)) = weighed_between a b β (neg_ℤ α) high (turned α low) (long a b c left) in (
        weighed c d (neg_ℤ δ) γ,
        both (neg_ℤ δ) γ (turned δ right) left,
        cases_on a b _ (inr (inr (subst (Between a b) (sym one_spot) on_first))),
        cases_on c d _ (inr (inr on_second)),
      )
    where
      turned : (u : ℤ) → u <ℤ pos 0 → pos 0 <ℤ neg_ℤ u
      turned u h = omega lin

      both : (u v : ℤ) → pos 0 <ℤ u → pos 0 <ℤ v → pos 0 <ℤ (u +ℤ v)
      both u v h k = omega lin

      below : (α β γ δ : ℤ) → (α -ℤ β) +ℤ (γ -ℤ δ) ≡ pos 0 → pos 0 <ℤ γ → δ <ℤ pos 0 → opposite α β ≡ true → α <ℤ pos 0
      below α β γ δ e h k o =
          by_lt_z α (pos 0) (λ (l : α <ℤ pos 0). l)
          (λ (l : pos 0 ≤ℤ α). by_lt_z (pos 0) α
          (λ (m : pos 0 <ℤ α). let n = right_of α β o m in absurd (omega lin))
          (λ (m : α ≤ℤ pos 0). let z : α ≡ pos 0 = omega lin in absurd (never_on α β o z)))

cross_shares : (a b c d : GridPoint) → cross a b c d ≡ true → Shared a b c d
cross_shares a b c d h =
    let o = (and_parts _ _ h).0 in
    let u = det a b (spot_at c) in
    let v = det a b (spot_at d) in
    by_lt_z (pos 0) u
    (λ (l : pos 0 <ℤ u). crossing_left a b c d h l (right_of u v o l))
    (λ (l : u ≤ℤ pos 0). by_lt_z u (pos 0)
    (λ (m : u <ℤ pos 0).
    let r = crossing_left a b d c (cross_turn a b d c h) (left_of u v o m) m in (r.0, r.1, r.2, on_turned d c r.0 r.3))
    (λ (m : pos 0 ≤ℤ u). absurd (never_on u v o (level u l m))))
  where
    level : (u : ℤ) → u ≤ℤ pos 0 → pos 0 ≤ℤ u → u ≡ pos 0
    level u l m = omega lin

-- what meets by the signs of determinants shares a point
pub meet_shares : (a b c d : GridPoint) → meet a b c d ≡ true → Shared a b c d
meet_shares a b c d h = elim (or_cases (lies_on a b c || lies_on a b d) _ h) [
  | inl t ↦ elim (or_cases (lies_on a b c) (lies_on a b d) t) [
    | inl u ↦ (spot_at c, omega lin, u, starts_on c d)
    | inr u ↦ (spot_at d, omega lin, u, ends_on c d)
  ]
  | inr t ↦ elim (or_cases (lies_on c d a || lies_on c d b) (cross a b c d) t) [
    | inl u ↦ elim (or_cases (lies_on c d a) (lies_on c d b) u) [
      | inl v ↦ (spot_at a, omega lin, starts_on a b, v)
      | inr v ↦ (spot_at b, omega lin, ends_on a b, v)
    ]
    | inr u ↦ cross_shares a b c d u
  ]
]

-- ---- and back

module _ (u v a : GridPoint) (p : Spot) (h : At a p) where
  as_spot : p ≡ record { X = a.x *ℤ p.Z; Y = a.y *ℤ p.Z; Z = p.Z }
  as_spot = λ i. record { X = h.level_x i; Y = h.level_y i; Z = p.Z }

  abbrev pˢ' : Spotˢ
  pˢ' = record { X = cˢ.x ⊗ pˢ.Z; Y = cˢ.y ⊗ pˢ.Z; Z = pˢ.Z }

  det_there : det u v p ≡ p.Z *ℤ det u v (spot_at a)
  unfolding det same?
  det_there =
      ap (det u v) as_spot ∙ ring (variables u v a p p (pos 0) (pos 0)) (detˢ aˢ bˢ pˢ') (pˢ.Z ⊗ detˢ aˢ bˢ (spot_atˢ cˢ)) tt

  ahead_there : ahead u v p ≡ p.Z *ℤ ahead u v (spot_at a)
  unfolding along same?
  ahead_there =
      ap (ahead u v) as_spot ∙ ring (variables u v a p p (pos 0) (pos 0)) (aheadˢ aˢ bˢ pˢ') (pˢ.Z ⊗ aheadˢ aˢ bˢ (spot_atˢ cˢ)) tt

taken_out : (z u v : ℤ) → z *ℤ (u -ℤ v) ≡ u *ℤ z -ℤ v *ℤ z
unfolding same?
taken_out z u v = ring (z ∷ u ∷ v ∷ []) (var 0 ⊗ (var 1 ⊖ var 2)) (var 1 ⊗ var 0 ⊖ var 2 ⊗ var 0) tt

-- a whole point that a segment has, by another fraction
whole_on : (a c d : GridPoint) (p : Spot) → pos 0 <ℤ p.Z → At a p → on_segment c d p ≡ true → lies_on c d a ≡ true
whole_on a c d p z h on = cases_on c d (spot_at a) (elim (on_cases c d p on) [
  | inl k ↦ inl (same c k)
  | inr (inl k) ↦ inr (inl (same d k))
  | inr (inr k) ↦ inr (inr (record {
    on = right_0 p.Z (det c d (spot_at a)) z (sym (det_there c d a p h) ∙ k.on);
    after = right-> p.Z (ahead c d (spot_at a)) (weak z) (rw (ahead_there c d a p h) at k.after);
    before = right-> p.Z (ahead d c (spot_at a)) (weak z) (rw (ahead_there d c a p h) at k.before);
  }))
])
  where
    equal : (u v x : ℤ) → x ≡ u *ℤ p.Z → x ≡ v *ℤ p.Z → u ≡ v *ℤ pos 1
    equal u v x e f = let r = right_0 p.Z (u -ℤ v) z (gone _ _ _ (taken_out p.Z u v) (sym e ∙ f)) in one u v r
      where
        gone : (m n w : ℤ) → m ≡ n -ℤ w → n ≡ w → m ≡ pos 0
        gone m n w e f = omega lin

        one : (u v : ℤ) → u -ℤ v ≡ pos 0 → u ≡ v *ℤ pos 1
        one u v e = omega lin

    same : (c : GridPoint) → At c p → At c (spot_at a)
    same c k = record { level_x = equal a.x c.x p.X h.level_x k.level_x; level_y = equal a.y c.y p.Y h.level_y k.level_y }

apart_shares_none : (a b c d : GridPoint) → meet a b c d ≡ false → ¬ (Shared a b c d)
apart_shares_none a b c d f s =
    let l = or_parts (lies_on a b c || lies_on a b d) _ f in
    let i = or_parts (lies_on a b c) (lies_on a b d) l.0 in
    let j = or_parts (lies_on c d a) (lies_on c d b) (or_parts (lies_on c d a || lies_on c d b) (cross a b c d) l.1).0 in
    elim (on_cases a b s.0 s.2) [
      | inl h ↦ both_ways (lies_on c d a) j.0 (whole_on a c d s.0 s.1 h s.3)
      | inr (inl h) ↦ both_ways (lies_on c d b) j.1 (whole_on b c d s.0 s.1 h s.3)
      | inr (inr h) ↦ elim (on_cases c d s.0 s.3) [
        | inl k ↦ both_ways (lies_on a b c) i.0 (whole_on c a b s.0 s.1 k s.2)
        | inr (inl k) ↦ both_ways (lies_on a b d) i.1 (whole_on d a b s.0 s.1 k s.2)
        | inr (inr k) ↦ elim (same_ends a b c d s.0 s.1 h k (from_meet a b c d f)) [
          | inl q ↦ both_ways (lies_on a b c) i.0 (subst (λ x. lies_on a b x ≡ true) (sym q.0) (starts_on a b))
          | inr q ↦ both_ways (lies_on a b c) i.0 (subst (λ x. lies_on a b x ≡ true) (sym q.0) (ends_on a b))
        ]
      ]
    ]

pub shares_meet : (a b c d : GridPoint) → Shared a b c d → meet a b c d ≡ true
shares_meet a b c d s = elim (cases_Bool (meet a b c d)) [ inl t ↦ t | inr f ↦ absurd (apart_shares_none a b c d f s) ]
