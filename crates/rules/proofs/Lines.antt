-- How far points are ahead of a in the direction of b, and how far beside that line: the identities of two segments.
use Rattle.std.proofs.Common.{◌≡◌, List, ℤ, pos, ◌+ℤ◌, ◌-ℤ◌, ◌*ℤ◌}
use Rattle.plane.specs.Points.{GridPoint, Spot, ahead, along, det, spot_at}
use Rattle.plane.proofs.Ring.{◌⊕◌, ◌⊖◌, ◌⊗◌, Expr, lit, ring, same?}
use Rattle.plane.proofs.Symbols.{GridPointˢ, Spotˢ, aheadˢ, aˢ, bˢ, cˢ, detˢ, gˢ, pˢ, spot_atˢ, variables}

abbrev dˢ : GridPointˢ
dˢ = record { x = gˢ.X; y = gˢ.Y }

-- how far ahead in the direction of b, and how far beside the line, by symbols
abbrev tˢ : Spotˢ → Expr
tˢ = aheadˢ aˢ bˢ

abbrev nˢ : Spotˢ → Expr
nˢ = detˢ aˢ bˢ

-- the distances of q from the two ends add up
pub whole : (a b : GridPoint) (q : Spot) → q.Z *ℤ ahead a b (spot_at b) ≡ ahead a b q +ℤ ahead b a q
unfolding along same?
whole a b q = ring (variables a b a q q (pos 0) (pos 0)) (pˢ.Z ⊗ aheadˢ aˢ bˢ (spot_atˢ bˢ)) (aheadˢ aˢ bˢ pˢ ⊕ aheadˢ bˢ aˢ pˢ) tt

pub start_ahead : (a b : GridPoint) → ahead a b (spot_at a) ≡ pos 0
unfolding along same?
start_ahead a b = ring (variables a b a (spot_at a) (spot_at a) (pos 0) (pos 0)) (aheadˢ aˢ bˢ (spot_atˢ aˢ)) (lit (pos 0)) tt

pub start_beside : (a b : GridPoint) → det a b (spot_at a) ≡ pos 0
unfolding det same?
start_beside a b = ring (variables a b a (spot_at a) (spot_at a) (pos 0) (pos 0)) (detˢ aˢ bˢ (spot_atˢ aˢ)) (lit (pos 0)) tt

pub end_beside : (a b : GridPoint) → det a b (spot_at b) ≡ pos 0
unfolding det same?
end_beside a b = ring (variables a b a (spot_at a) (spot_at a) (pos 0) (pos 0)) (detˢ aˢ bˢ (spot_atˢ bˢ)) (lit (pos 0)) tt

module _ (a b c d : GridPoint) (q : Spot) where
  abbrev values : List ℤ
  values = variables a b c q (spot_at d) (pos 0) (pos 0)

  abbrev n : Spot → ℤ
  n = det a b

  abbrev t : Spot → ℤ
  t = ahead a b

  pub scaled_after : t (spot_at b) *ℤ ahead c d q
      ≡ (t (spot_at d) -ℤ t (spot_at c)) *ℤ (t q -ℤ q.Z *ℤ t (spot_at c)) +ℤ (n (spot_at d) -ℤ n (spot_at c)) *ℤ (n q -ℤ q.Z *ℤ n (spot_at c))
  unfolding along det same?
  scaled_after =
      ring values (tˢ (spot_atˢ bˢ) ⊗ aheadˢ cˢ dˢ pˢ)
      ((tˢ (spot_atˢ dˢ) ⊖ tˢ (spot_atˢ cˢ)) ⊗ (tˢ pˢ ⊖ pˢ.Z ⊗ tˢ (spot_atˢ cˢ)) ⊕ (nˢ (spot_atˢ dˢ) ⊖ nˢ (spot_atˢ cˢ)) ⊗ (nˢ pˢ ⊖ pˢ.Z ⊗ nˢ (spot_atˢ cˢ))) tt

  pub scaled_before : t (spot_at b) *ℤ ahead d c q
      ≡ (t (spot_at d) -ℤ t (spot_at c)) *ℤ (q.Z *ℤ t (spot_at d) -ℤ t q) +ℤ (n (spot_at d) -ℤ n (spot_at c)) *ℤ (q.Z *ℤ n (spot_at d) -ℤ n q)
  unfolding along det same?
  scaled_before =
      ring values (tˢ (spot_atˢ bˢ) ⊗ aheadˢ dˢ cˢ pˢ)
      ((tˢ (spot_atˢ dˢ) ⊖ tˢ (spot_atˢ cˢ)) ⊗ (pˢ.Z ⊗ tˢ (spot_atˢ dˢ) ⊖ tˢ pˢ) ⊕ (nˢ (spot_atˢ dˢ) ⊖ nˢ (spot_atˢ cˢ)) ⊗ (pˢ.Z ⊗ nˢ (spot_atˢ dˢ) ⊖ nˢ pˢ)) tt

  pub scaled_beside : t (spot_at b) *ℤ det c d q
      ≡ (t (spot_at d) -ℤ t (spot_at c)) *ℤ (n q -ℤ q.Z *ℤ n (spot_at c)) -ℤ (n (spot_at d) -ℤ n (spot_at c)) *ℤ (t q -ℤ q.Z *ℤ t (spot_at c))
  unfolding along det same?
  scaled_beside =
      ring values (tˢ (spot_atˢ bˢ) ⊗ detˢ cˢ dˢ pˢ)
      ((tˢ (spot_atˢ dˢ) ⊖ tˢ (spot_atˢ cˢ)) ⊗ (nˢ pˢ ⊖ pˢ.Z ⊗ nˢ (spot_atˢ cˢ)) ⊖ (nˢ (spot_atˢ dˢ) ⊖ nˢ (spot_atˢ cˢ)) ⊗ (tˢ pˢ ⊖ pˢ.Z ⊗ tˢ (spot_atˢ cˢ))) tt

  pub scaled_x : t (spot_at b) *ℤ (c.x -ℤ d.x) ≡ (b.x -ℤ a.x) *ℤ (t (spot_at c) -ℤ t (spot_at d)) -ℤ (b.y -ℤ a.y) *ℤ (n (spot_at c) -ℤ n (spot_at d))
  unfolding along det same?
  scaled_x =
      ring values (tˢ (spot_atˢ bˢ) ⊗ (cˢ.x ⊖ dˢ.x))
      ((bˢ.x ⊖ aˢ.x) ⊗ (tˢ (spot_atˢ cˢ) ⊖ tˢ (spot_atˢ dˢ)) ⊖ (bˢ.y ⊖ aˢ.y) ⊗ (nˢ (spot_atˢ cˢ) ⊖ nˢ (spot_atˢ dˢ))) tt

  pub scaled_y : t (spot_at b) *ℤ (c.y -ℤ d.y) ≡ (b.y -ℤ a.y) *ℤ (t (spot_at c) -ℤ t (spot_at d)) +ℤ (b.x -ℤ a.x) *ℤ (n (spot_at c) -ℤ n (spot_at d))
  unfolding along det same?
  scaled_y =
      ring values (tˢ (spot_atˢ bˢ) ⊗ (cˢ.y ⊖ dˢ.y))
      ((bˢ.y ⊖ aˢ.y) ⊗ (tˢ (spot_atˢ cˢ) ⊖ tˢ (spot_atˢ dˢ)) ⊕ (bˢ.x ⊖ aˢ.x) ⊗ (nˢ (spot_atˢ cˢ) ⊖ nˢ (spot_atˢ dˢ))) tt
