-- A spot as near to p as is wanted, on the way to g; and a spot strictly inside a triangle.
use Rattle.std.proofs.Common.{◌≡◌, ℕ, suc, ◌+◌, ◌≤◌, List, [], ◌∷◌, ℤ, pos, ◌+ℤ◌, ◌-ℤ◌, ◌*ℤ◌, neg_ℤ, nat_abs, ◌≤ℤ◌, ◌<ℤ◌, sym, ap, ◌∙◌, subst, inl, inr, arith}
use Rattle.std.proofs.lemmas.Int.{by_lt_z}
use Rattle.plane.specs.declared.Edge.{Edge}
use Rattle.plane.specs.Edges.{In}
use Rattle.plane.specs.Identities.{blend}
use Rattle.plane.specs.Points.{GridPoint, Spot, area, det, spot_at}
use Rattle.plane.proofs.Determinants.{identities}
use Rattle.plane.proofs.Ring.{var, lit, ◌⊕◌, ◌⊖◌, ◌⊗◌, ring, same?}
use Rattle.plane.proofs.Signs.{lin, times-++, times_neg, times->>, zero_right}
use Rattle.plane.proofs.Symbols.{Spotˢ, areaˢ, aˢ, bˢ, cˢ, detˢ, variables}
use Rattle.tiling.specs.Lemmas.{HasMiddle, Near, Nudges}
use Rattle.tiling.specs.Triangles.{side_at, sides}
use Rattle.tiling.proofs.Segments.{area_turn}

less_one : (m d : ℤ) → m *ℤ (d -ℤ pos 1) ≡ m *ℤ d -ℤ m
unfolding same?
less_one m d = ring (m ∷ d ∷ []) (var 0 ⊗ (var 1 ⊖ lit (pos 1))) (var 0 ⊗ var 1 ⊖ var 0) tt

-- n above the size of k, so that n + 1 times a side outweighs k
module _ (n : ℕ) (d k r : ℤ) (small : nat_abs k ≤ n) (mixed : r ≡ pos (suc n) *ℤ d +ℤ k) where
  outweighs : (x : ℤ) → pos 0 <ℤ x → pos (suc n) ≤ℤ (pos (suc n) *ℤ x)
  outweighs x h = let q = times-++ (pos (suc n)) (x -ℤ pos 1) (omega lin) (omega lin) in let e = less_one (pos (suc n)) x in omega lin

  stays_left : pos 0 <ℤ d → pos 0 <ℤ r
  stays_left h = go (pos (suc n) *ℤ d) (outweighs d h) mixed small
    where
      go : (x : ℤ) → pos (suc n) ≤ℤ x → r ≡ x +ℤ k → nat_abs k ≤ n → pos 0 <ℤ r
      go x h e b = omega lin

  stays_right : d <ℤ pos 0 → r <ℤ pos 0
  stays_right h = go (pos (suc n) *ℤ d) (pos (suc n) *ℤ neg_ℤ d) (outweighs (neg_ℤ d) (omega lin)) (times_neg (pos (suc n)) d) mixed small
    where
      go : (x y : ℤ) → pos (suc n) ≤ℤ y → y ≡ neg_ℤ x → r ≡ x +ℤ k → nat_abs k ≤ n → r <ℤ pos 0
      go x y h e f b = omega lin

  becomes : d ≡ pos 0 → r ≡ k
  becomes e = go (pos (suc n) *ℤ d) (zero_right (pos (suc n)) d e) mixed
    where
      go : (x : ℤ) → x ≡ pos 0 → r ≡ x +ℤ k → r ≡ k
      go x e f = omega lin

module _ (at : ℕ → GridPoint) (g : Spot) where
  bound : List Edge → ℕ
  bound [] = 0
  bound (e ∷ es) = nat_abs (side_at at g e) + bound es

  bounded : (es : List Edge) (e : Edge) → In e es → nat_abs (side_at at g e) ≤ bound es
  unfolding bound
  bounded [] e i = absurd i
  bounded (x ∷ es) e (inl q) = subst (λ (y : Edge). nat_abs (side_at at g y) ≤ bound (x ∷ es)) (sym q) (omega arith)
  bounded (x ∷ es) e (inr i) = let h = bounded es e i in omega (arith, h)

pub nudge : Nudges
unfolding blend
nudge at es p g scaled onward = (blend (pos (suc n)) p g, near)
  where
    n : ℕ
    n = bound at g es

    mixed : (e : Edge) → side_at at (blend (pos (suc n)) p g) e ≡ pos (suc n) *ℤ side_at at p e +ℤ side_at at g e
    mixed e = identities.linear (at e.from) (at e.to) (pos (suc n)) p g

    plus : (x y : ℤ) → pos 0 <ℤ x → pos 0 <ℤ y → pos 0 <ℤ (x +ℤ y)
    plus x y h k = omega lin

    near : Near at es p g (blend (pos (suc n)) p g)
    near =
        record {
          scaled = plus (pos (suc n) *ℤ p.Z) g.Z (times->> (pos (suc n)) p.Z (omega lin) scaled) onward;
          left = λ e i. stays_left n (side_at at p e) (side_at at g e) _ (bounded at g es e i) (mixed e);
          right = λ e i. stays_right n (side_at at p e) (side_at at g e) _ (bounded at g es e i) (mixed e);
          level = λ e i. becomes n (side_at at p e) (side_at at g e) _ (bounded at g es e i) (mixed e);
        }

-- a point that is not to the right goes to the left where g is to the left
pub nears_left : {at : ℕ → GridPoint} {es : List Edge} {p g q : Spot} → Near at es p g q
    → (e : Edge) → In e es → pos 0 ≤ℤ side_at at p e → pos 0 <ℤ side_at at g e → pos 0 <ℤ side_at at q e
nears_left {at} {es} {p} {g} {q} n e i h k =
    by_lt_z (pos 0) (side_at at p e) (λ (l : pos 0 <ℤ side_at at p e). n.left e i l)
    (λ (l : side_at at p e ≤ℤ pos 0). subst (λ (x : ℤ). pos 0 <ℤ x) (sym (n.level e i (omega lin))) k)

-- ---- the middle of a triangle

middle : GridPoint → GridPoint → GridPoint → Spot
middle a b c = record { X = a.x +ℤ b.x +ℤ c.x; Y = a.y +ℤ b.y +ℤ c.y; Z = pos 3 }

middle_side : (a b c : GridPoint) → det a b (middle a b c) ≡ area a b c
unfolding det middle same?
middle_side a b c = ring (variables a b c (spot_at a) (spot_at a) (pos 0) (pos 0)) (detˢ aˢ bˢ middleˢ) (areaˢ aˢ bˢ cˢ) tt
  where
    middleˢ : Spotˢ
    middleˢ = record { X = aˢ.x ⊕ bˢ.x ⊕ cˢ.x; Y = aˢ.y ⊕ bˢ.y ⊕ cˢ.y; Z = lit (pos 3) }

middle_turn : (a b c : GridPoint) → middle b c a ≡ middle a b c
unfolding middle
middle_turn a b c = λ i. record { X = cycle a.x b.x c.x i; Y = cycle a.y b.y c.y i; Z = pos 3 }
  where
    cycle : (x y z : ℤ) → y +ℤ z +ℤ x ≡ x +ℤ y +ℤ z
    cycle x y z = omega lin

-- the side from b to c, begun there
middle_next : (a b c : GridPoint) → det b c (middle a b c) ≡ area a b c
middle_next a b c = ap (det b c) (sym (middle_turn a b c)) ∙ middle_side b c a ∙ sym (area_turn a b c)

pub has_middle : HasMiddle
unfolding middle
has_middle at t k = (middle a b c, omega lin, inside)
  where
    a : GridPoint
    a = at t.a

    b : GridPoint
    b = at t.b

    c : GridPoint
    c = at t.c

    above : {u : ℤ} → u ≡ area a b c → pos 0 <ℤ u
    above e = subst (λ (x : ℤ). pos 0 <ℤ x) (sym e) k

    inside : (e : Edge) → In e (sides t) → pos 0 <ℤ side_at at (middle a b c) e
    inside e (inl h) = subst (λ (x : Edge). pos 0 <ℤ side_at at (middle a b c) x) (sym h) (above (middle_side a b c))
    inside e (inr (inl h)) = subst (λ (x : Edge). pos 0 <ℤ side_at at (middle a b c) x) (sym h) (above (middle_next a b c))
    inside e (inr (inr (inl h))) = subst (λ (x : Edge). pos 0 <ℤ side_at at (middle a b c) x) (sym h)
        (above (ap (det c a) (sym (middle_turn a b c)) ∙ middle_next b c a ∙ sym (area_turn a b c)))
    inside e (inr (inr (inr n))) = absurd n
