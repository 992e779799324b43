-- Of a list that names no vertex twice, a corner stands at another position where it has another number.
use Rattle.std.proofs.Common.{◌≡◌, ℕ, zero, suc, ◌+◌, ◌-◌, ◌<◌, ◌==◌, not, ◌&&◌, ◌||◌, List, [], ◌∷◌, length, get_or, refl, sym, ap, ap₂, ◌∙◌, subst, eq-eqb, ne_eqb, inl, inr, arith}
use Rattle.std.specs.List.{list_any, range_with_len}
use Rattle.std.proofs.lemmas.Bool.{cases_eq, cond-false, cond-true}
use Rattle.std.proofs.lemmas.List.{take_all}
use Rattle.plane.specs.Edges.{In, Once}
use Rattle.plane.specs.Points.{GridPoint, spot_at}
use Rattle.tiling.specs.Triangles.{closed_holds}
use Rattle.ears.specs.Ears.{after, before, blocks, is_ear, is_left, is_other, triangle_at}
use Rattle.ears.specs.Numbers.{EarsByNumber, blocks_by_number, has_corner, is_ear_by_number}
use Rattle.ears.proofs.Others.{range_corners}

in_at : (cs : List ℕ) (j : ℕ) → j < length cs → In (get_or cs j 0) cs
in_at [] j h = absurd (omega arith)
in_at (v ∷ cs) zero h = inl refl
in_at (v ∷ cs) (suc j) h = inr (in_at cs j (omega arith))

-- one vertex has one position
one_place : (cs : List ℕ) (j k : ℕ) → Once cs → j < length cs → k < length cs → get_or cs j 0 ≡ get_or cs k 0 → j ≡ k
one_place [] j k o h h' e = absurd (omega arith)
one_place (v ∷ cs) zero zero o h h' e = refl
one_place (v ∷ cs) zero (suc k) o h h' e = absurd (o.0 (subst (λ (w : ℕ). In w cs) (sym e) (in_at cs k (omega arith))))
one_place (v ∷ cs) (suc j) zero o h h' e = absurd (o.0 (subst (λ (w : ℕ). In w cs) e (in_at cs j (omega arith))))
one_place (v ∷ cs) (suc j) (suc k) o h h' e = ap suc (one_place cs j k o.1 (omega arith) (omega arith) e)

same_place : (cs : List ℕ) (j k : ℕ) → Once cs → j < length cs → k < length cs → (j == k) ≡ (get_or cs j 0 == get_or cs k 0)
same_place cs j k o h h' =
    elim (cases_eq j k) [
      | inl e ↦ eq-eqb j k e ∙ sym (eq-eqb (get_or cs j 0) (get_or cs k 0) (ap (λ n. get_or cs n 0) e))
      | inr n ↦ ne_eqb j k n ∙ sym (ne_eqb (get_or cs j 0) (get_or cs k 0) (λ e. n (one_place cs j k o h h' e)))
    ]

before_in : (n i : ℕ) → i < n → before n i < n
before_in n i h =
    elim (cases_eq i 0) [
      | inl e ↦ (let at : before n i ≡ n - 1 = cond-true (i == 0) (n - 1) (i - 1) (eq-eqb i 0 e) in omega arith)
      | inr k ↦ (let at : before n i ≡ i - 1 = cond-false (i == 0) (n - 1) (i - 1) (ne_eqb i 0 k) in omega arith)
    ]

after_in : (n i : ℕ) → i < n → after n i < n
after_in n i h =
    elim (cases_eq (i + 1) n) [
      | inl e ↦ (let at : after n i ≡ 0 = cond-true (i + 1 == n) 0 (i + 1) (eq-eqb (i + 1) n e) in omega arith)
      | inr k ↦ (let at : after n i ≡ i + 1 = cond-false (i + 1 == n) 0 (i + 1) (ne_eqb (i + 1) n k) in grind arith)
    ]

module _ (at : ℕ → GridPoint) (cs : List ℕ) (i : ℕ) (once : Once cs) (inside : i < length cs) where
  other_number : (j : ℕ) → j < length cs → is_other (length cs) i j ≡ not (has_corner (triangle_at cs i) (get_or cs j 0))
  other_number j h =
      ap not (ap₂ ◌||◌ (same_place cs j (before (length cs) i) once h (before_in (length cs) i inside))
      (ap₂ ◌||◌ (same_place cs j i once h inside) (same_place cs j (after (length cs) i) once h (after_in (length cs) i inside))))

  same_blocks : list_any (blocks at cs i) (range_with_len 0 (length cs)) ≡ list_any (blocks_by_number at (triangle_at cs i)) cs
  same_blocks =
      range_corners (blocks at cs i) (blocks_by_number at (triangle_at cs i)) cs 0 (length cs) (omega arith)
      (λ j low high. ap (λ b. b && closed_holds at (triangle_at cs i) (spot_at (at (get_or cs j 0)))) (other_number j (omega arith)))
      ∙ ap (list_any (blocks_by_number at (triangle_at cs i))) (take_all (length cs) cs (omega arith))

  same_ear : is_ear at cs i ≡ is_ear_by_number at cs i
  unfolding is_ear
  same_ear = ap (λ b. is_left at (triangle_at cs i) && not b) same_blocks

pub ears_by_number : EarsByNumber
ears_by_number at cs i once inside = same_ear at cs i once inside
