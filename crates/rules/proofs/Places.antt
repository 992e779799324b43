-- The first place where something holds, as a search tells it.
use Rattle.std.proofs.Common.{◌≡◌, ℕ, zero, suc, ◌+◌, ◌-◌, ◌<◌, ◌≤◌, Bool, true, false, not, List, [], ◌∷◌, length, get_or, Option, Some, None, refl, sym, ap, ◌∙◌, subst, inl, inr, arith}
use Rattle.std.specs.List.{list_any, position}
use Rattle.std.specs.Option.{option_map}
use Rattle.std.proofs.lemmas.Bool.{both_ways, cases_Bool, false≢true, or_left, or_right}
use Rattle.std.proofs.lemmas.List.Quantifiers.{position-Some}
use Rattle.plane.specs.Edges.{In}
use Rattle.clash.specs.declared.ClashAt.{ClashAt}
use Rattle.clash.specs.Clashes.{IsFirstClash, first_clash_in}
use Rattle.clash.proofs.Firsts.{IsFirstClash-from_Some, IsFree-from_None}
use Rattle.rules.specs.Rules.{later_of}
use Rattle.rules.proofs.Elements.{none_passes}

-- it holds there, and nowhere before
pub record First (P : ℕ → Type 0) (k : ℕ) : Type 0 where
  pub here : P k
  pub none_before : (j : ℕ) → j < k → ¬ (P j)

-- a search's answer: the first place, or none
abbrev pub IsFirst : (ℕ → Type 0) → Option ℕ → Type 0
IsFirst P None = (k : ℕ) → ¬ (P k)
IsFirst P (Some k) = First P k

-- the same in other words
pub reworded : (P Q : ℕ → Type 0) → ((k : ℕ) → P k → Q k) → ((k : ℕ) → Q k → P k) → (o : Option ℕ) → IsFirst P o → IsFirst Q o
reworded P Q to from None h = λ k q. h k (from k q)
reworded P Q to from (Some k) h = record { here = to k h.here; none_before = λ j l q. h.none_before j l (from j q) }

-- counted from 4 on
pub shifted : (P : ℕ → Type 0) (o : Option ℕ) → IsFirst P o → IsFirst (λ v. (4 ≤ v) × P (v - 4)) (option_map (λ i. 4 + i) o)
shifted P None h = λ v q. h (v - 4) q.1
shifted P (Some k) h =
    let e : (4 + k) - 4 ≡ k = omega arith in
    record { here = (omega arith, subst P (sym e) h.here); none_before = λ v l q. h.none_before (v - 4) (omega arith) q.1 }

-- nothing is found exactly where it holds nowhere
pub nowhere : (P : ℕ → Type 0) (o : Option ℕ) → IsFirst P o → ((k : ℕ) → ¬ (P k)) → o ≡ None
nowhere P None h none = refl
nowhere P (Some k) h none = absurd (none k h.here)

module _ {X : Type 0} where
  -- elements and their places
  pub in_at : (x : X) (xs : List X) (d : X) → In x xs → (k : ℕ) × (k < length xs) × (get_or xs k d ≡ x)
  in_at x [] d i = absurd i
  in_at x (y ∷ xs) d (inl e) = (0, omega arith, sym e)
  in_at x (y ∷ xs) d (inr i) = let r = in_at x xs d i in (suc r.0, omega (arith, r.1), r.2)

  pub at_in : (xs : List X) (k : ℕ) (d : X) → k < length xs → In (get_or xs k d) xs
  at_in [] k d h = absurd (omega arith)
  at_in (x ∷ xs) zero d h = inl refl
  at_in (x ∷ xs) (suc k) d h = inr (at_in xs k d (omega arith))

  pub any_in : (p : X → Bool) (xs : List X) (x : X) → In x xs → p x ≡ true → list_any p xs ≡ true
  any_in p [] x i t = absurd i
  any_in p (y ∷ xs) x (inl e) t = or_left (p y) (list_any p xs) (ap p (sym e) ∙ t)
  any_in p (y ∷ xs) x (inr i) t = or_right (p y) (list_any p xs) (any_in p xs x i t)

  -- the first element that passes a test
  pub first_position : (p : X → Bool) (xs : List X) (d : X) → IsFirst (λ k. (k < length xs) × (p (get_or xs k d) ≡ true)) (position p xs)
  first_position p xs d =
      elim (position p xs) as (λ o. position p xs ≡ o → IsFirst (λ k. (k < length xs) × (p (get_or xs k d) ≡ true)) o) [
        | None ↦ λ none k h. false≢true (sym (none_passes p xs none k d h.0) ∙ h.1)
        | Some k ↦ λ found.
            let r = position-Some p xs k d found in
            record { here = (r.0, r.1); none_before = λ j l h. false≢true (sym (r.2 j l) ∙ h.1) }
      ] refl

  -- the first element that clashes with an earlier one
  abbrev pub Clashing : (X → X → Bool) → List X → X → ℕ → Type 0
  Clashing clashes xs d k = (k < length xs) × ((i : ℕ) × (i < k) × (clashes (get_or xs k d) (get_or xs i d) ≡ true))

  first_of_clash : (clashes : X → X → Bool) (xs : List X) (d : X) (at : ClashAt) → IsFirstClash clashes xs at → First (Clashing clashes xs d) at.later
  first_of_clash clashes xs d at c =
      record {
        here = (c.in_range, (at.earlier, c.in_order, c.clash d));
        none_before = λ j l h. false≢true (sym (c.first h.1.0 j d h.1.1 l) ∙ h.1.2);
      }

  pub first_clashing : (clashes : X → X → Bool) (xs : List X) (d : X) → IsFirst (Clashing clashes xs d) (later_of (first_clash_in clashes xs))
  first_clashing clashes xs d =
      elim (first_clash_in clashes xs) as (λ o. first_clash_in clashes xs ≡ o → IsFirst (Clashing clashes xs d) (later_of o)) [
        | None ↦ λ none k h. false≢true (sym (IsFree-from_None clashes xs none h.1.0 k d h.1.1 h.0) ∙ h.1.2)
        | Some at ↦ λ found. first_of_clash clashes xs d at (IsFirstClash-from_Some clashes xs at found)
      ] refl

-- what a test decides
pub stable : {P : Type 0} (b : Bool) → (b ≡ true → P) → (P → b ≡ true) → ¬ (¬ P) → P
stable b to from h = elim (cases_Bool b) [ inl t ↦ to t | inr f ↦ absurd (h (λ p. both_ways b f (from p))) ]

pub refuted : {P : Type 0} (b : Bool) → (b ≡ true → P) → (P → b ≡ true) → not b ≡ true → ¬ P
refuted true to from h p = false≢true h
refuted false to from h p = false≢true (from p)

pub not_refuted : {P : Type 0} (b : Bool) → (b ≡ true → P) → (P → b ≡ true) → ¬ P → not b ≡ true
not_refuted true to from h = absurd (h (to refl))
not_refuted false to from h = refl
