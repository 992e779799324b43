-- Two edges touch, by the signs of determinants, exactly where they share a point or one lies along the other.
use Rattle.std.proofs.Common.{◌≡◌, ℕ, Bool, true, false, cond, ◌⊎◌, eqb, refl, sym, ap, ◌∙◌, subst, inl, inr}
use Rattle.std.proofs.lemmas.Bool.{both_ways, eq-eqb, eqb-true, or_cases, or_left, or_right}
use Rattle.plane.specs.declared.Edge.{Edge}
use Rattle.plane.specs.Edges.{edge}
use Rattle.plane.specs.Points.{GridPoint}
use Rattle.rules.specs.Rules.{lies_on, overlap, touch}
use Rattle.rules.specs.Sound.{Joins, Meeting, Touching}
use Rattle.rules.proofs.Boxes.{same_tests}
use Rattle.rules.proofs.SharedPoints.{ends_on, meet_shares, shares_meet, starts_on}

-- ---- two edges, by what they have in common

module _ (at : ℕ → GridPoint) where
  -- where the common end is the other end of one, they overlap
  shared_here : (u w : ℕ) → overlap at u u w ≡ true
  shared_here u w = or_left _ _ (starts_on (at u) (at w))

  shared_there : (u v : ℕ) → overlap at u v u ≡ true
  shared_there u v = or_right (lies_on (at u) (at u) (at v)) _ (starts_on (at u) (at v))

  shared_twice : (u v : ℕ) → overlap at u v v ≡ true
  shared_twice u v = or_left _ _ (ends_on (at u) (at v))

  abbrev LiesAlong : ℕ → ℕ → ℕ → Type 0
  LiesAlong u v w = (lies_on (at u) (at w) (at v) ≡ true) ⊎ (lies_on (at u) (at v) (at w) ≡ true)

  along_overlap : (u v w : ℕ) → LiesAlong u v w → overlap at u v w ≡ true
  along_overlap u v w (inl h) = or_left _ _ h
  along_overlap u v w (inr h) = or_right (lies_on (at u) (at w) (at v)) _ h

-- a choice by a test
chosen : (b x y : Bool) → (b ≡ true → x ≡ true) → (b ≡ false → y ≡ true) → cond b x y ≡ true
chosen true x y h k = h refl
chosen false x y h k = k refl

which : (b x y : Bool) → cond b x y ≡ true → ((b ≡ true) × (x ≡ true)) ⊎ ((b ≡ false) × (y ≡ true))
which true x y h = inl (refl, h)
which false x y h = inr (refl, h)

ends_as : (e : Edge) (u v : ℕ) → e.from ≡ u → e.to ≡ v → e ≡ edge u v
ends_as e u v p q = λ i. record { from = p i; to = q i }

module _ (at : ℕ → GridPoint) (e f : Edge) where
  abbrev Apart : Type 0
  Apart = (eqb e.from f.from ≡ false) × (eqb e.from f.to ≡ false) × (eqb e.to f.from ≡ false) × (eqb e.to f.to ≡ false)

  end_of : (e : Edge) (u v : ℕ) → Joins e u v → (e.from ≡ u) ⊎ (e.to ≡ u)
  end_of e u v (inl q) = inl (ap (λ (x : Edge). x.from) q)
  end_of e u v (inr q) = inr (ap (λ (x : Edge). x.to) q)

  other : (u v : ℕ) → eqb u v ≡ false → u ≡ v → ⊥
  other u v h e = both_ways (eqb u v) h (eq-eqb u v e)

  none_common : Apart → (u v w : ℕ) → Joins e u v → Joins f u w → ⊥
  none_common h u v w i j = elim (end_of e u v i) [
    | inl p ↦ elim (end_of f u w j) [ inl q ↦ other e.from f.from h.0 (p ∙ sym q) | inr q ↦ other e.from f.to h.1 (p ∙ sym q) ]
    | inr p ↦ elim (end_of f u w j) [ inl q ↦ other e.to f.from h.2 (p ∙ sym q) | inr q ↦ other e.to f.to h.3 (p ∙ sym q) ]
  ]

  overlapping : (u v w : ℕ) → Joins e u v → Joins f u w → overlap at u v w ≡ true → Touching at e f
  overlapping u v w i j h =
      inr (record { common = u; first = v; second = w; joins_first = i; joins_second = j; on = or_cases _ _ h })

  pub touch_touching : touch at e f ≡ true → Touching at e f
  touch_touching h = elim (which (eqb e.from f.from) _ _ h) [
    | inl a ↦ overlapping e.from e.to f.to (inl refl) (inl (ends_as f e.from f.to (sym (eqb-true e.from f.from a.0)) refl)) a.1
    | inr a ↦ elim (which (eqb e.from f.to) _ _ a.1) [
      | inl b ↦ overlapping e.from e.to f.from (inl refl) (inr (ends_as f f.from e.from refl (sym (eqb-true e.from f.to b.0)))) b.1
      | inr b ↦ elim (which (eqb e.to f.from) _ _ b.1) [
        | inl c ↦ overlapping e.to e.from f.to (inr refl) (inl (ends_as f e.to f.to (sym (eqb-true e.to f.from c.0)) refl)) c.1
        | inr c ↦ elim (which (eqb e.to f.to) _ _ c.1) [
          | inl d ↦ overlapping e.to e.from f.from (inr refl) (inr (ends_as f f.from e.to refl (sym (eqb-true e.to f.to d.0)))) d.1
          | inr d ↦ inl (record { none_common = none_common (a.0, b.0, c.0, d.0); shared = meet_shares (at e.from) (at e.to) (at f.from) (at f.to) d.1 })
        ]
      ]
    ]
  ]

  meeting_touch : Meeting at e f → touch at e f ≡ true
  meeting_touch h =
      chosen (eqb e.from f.from) _ _ (λ t. absurd (h.none_common e.from e.to f.to (inl refl) (inl (ends_as f e.from f.to (sym (eqb-true e.from f.from t)) refl)))) (λ _.
      chosen (eqb e.from f.to) _ _ (λ t. absurd (h.none_common e.from e.to f.from (inl refl) (inr (ends_as f f.from e.from refl (sym (eqb-true e.from f.to t)))))) (λ _.
      chosen (eqb e.to f.from) _ _ (λ t. absurd (h.none_common e.to e.from f.to (inr refl) (inl (ends_as f e.to f.to (sym (eqb-true e.to f.from t)) refl)))) (λ _.
      chosen (eqb e.to f.to) _ _ (λ t. absurd (h.none_common e.to e.from f.from (inr refl) (inr (ends_as f f.from e.to refl (sym (eqb-true e.to f.to t)))))) (λ _.
      shares_meet (at e.from) (at e.to) (at f.from) (at f.to) h.shared))))

-- the four ways in which two edges may have a common vertex
module _ (at : ℕ → GridPoint) (u v w : ℕ) (h : overlap at u v w ≡ true) where
  same : (x y : ℕ) → eqb x y ≡ true → x ≡ y
  same x y t = eqb-true x y t

  itself : {P : Type 0} (x : ℕ) → eqb x x ≡ false → P
  itself x f = absurd (both_ways (eqb x x) f (eq-eqb x x refl))

  from_from : touch at (edge u v) (edge u w) ≡ true
  from_from = chosen (eqb u u) _ _ (λ _. h) (itself u)

  from_to : touch at (edge u v) (edge w u) ≡ true
  from_to =
      chosen (eqb u w) _ _ (λ _. shared_there at u v) (λ _.
      chosen (eqb u u) _ _ (λ _. h) (itself u))

  to_from : touch at (edge v u) (edge u w) ≡ true
  to_from =
      chosen (eqb v u) _ _ (λ t. subst (λ x. overlap at v x w ≡ true) (same v u t) (shared_here at v w)) (λ _.
      chosen (eqb v w) _ _ (λ _. shared_twice at v u) (λ _.
      chosen (eqb u u) _ _ (λ _. h) (itself u)))

  to_to : touch at (edge v u) (edge w u) ≡ true
  to_to =
      chosen (eqb v w) _ _ (λ _. shared_twice at v u) (λ _.
      chosen (eqb v u) _ _ (λ t. subst (λ x. overlap at v x w ≡ true) (same v u t) (shared_here at v w)) (λ _.
      chosen (eqb u w) _ _ (λ _. shared_there at u v) (λ _.
      chosen (eqb u u) _ _ (λ _. h) (itself u))))

module _ (at : ℕ → GridPoint) (e f : Edge) where
  joined_touch : (u v w : ℕ) → Joins e u v → Joins f u w → overlap at u v w ≡ true → touch at e f ≡ true
  joined_touch u v w (inl p) (inl q) h = subst (λ x. touch at x f ≡ true) (sym p) (subst (λ y. touch at (edge u v) y ≡ true) (sym q) (from_from at u v w h))
  joined_touch u v w (inl p) (inr q) h = subst (λ x. touch at x f ≡ true) (sym p) (subst (λ y. touch at (edge u v) y ≡ true) (sym q) (from_to at u v w h))
  joined_touch u v w (inr p) (inl q) h = subst (λ x. touch at x f ≡ true) (sym p) (subst (λ y. touch at (edge v u) y ≡ true) (sym q) (to_from at u v w h))
  joined_touch u v w (inr p) (inr q) h = subst (λ x. touch at x f ≡ true) (sym p) (subst (λ y. touch at (edge v u) y ≡ true) (sym q) (to_to at u v w h))

  pub touching_touch : Touching at e f → touch at e f ≡ true
  touching_touch (inl h) = meeting_touch at e f h
  touching_touch (inr h) = joined_touch h.common h.first h.second h.joins_first h.joins_second (along_overlap at h.common h.first h.second h.on)

-- ---- either way round

module _ (at : ℕ → GridPoint) where
  pub touching_swap : (e f : Edge) → Touching at e f → Touching at f e
  touching_swap e f (inl h) =
      inl (record { none_common = λ u v w i j. h.none_common u w v j i; shared = (h.shared.0, h.shared.1, h.shared.3, h.shared.2) })
  touching_swap e f (inr h) =
      inr (record {
        common = h.common;
        first = h.second;
        second = h.first;
        joins_first = h.joins_second;
        joins_second = h.joins_first;
        on = elim h.on [ inl t ↦ inr t | inr t ↦ inl t ];
      })

  pub touch_swap : (e f : Edge) → touch at e f ≡ touch at f e
  touch_swap e f =
      same_tests (touch at e f) (touch at f e) (λ t. touching_touch at f e (touching_swap e f (touch_touching at e f t)))
      (λ t. touching_touch at e f (touching_swap f e (touch_touching at f e t)))
