-- What holds of each element of a list that passes a test of all of them.
use Rattle.std.proofs.Common.{◌≡◌, suc, Bool, true, false, List, [], ◌∷◌, All, None, refl, sym, ◌∙◌, subst, inl, inr, arith}
use Rattle.std.specs.List.{list_any, position}
use Rattle.std.proofs.lemmas.Bool.{false≢true, or_cases}
use Rattle.std.proofs.lemmas.Bool.Decides.{nat_tests}
use Rattle.std.proofs.lemmas.List.Elements.{All-head, All-tail}
use Rattle.std.proofs.lemmas.List.Sums.{fails_before_first}
use Rattle.plane.specs.Edges.{In, Once}
use Rattle.clash.specs.Clashes.{IsFree}

module _ {X : Type 0} where
  pub all_in : (P : X → Type 0) (xs : List X) → All P xs → (x : X) → In x xs → P x
  all_in P [] h x i = absurd i
  all_in P (y ∷ xs) h x (inl e) = subst P (sym e) (All-head P y xs h)
  all_in P (y ∷ xs) h x (inr i) = all_in P xs (All-tail P y xs h) x i

  -- where a test finds no element, each fails it
  pub none_passes : (p : X → Bool) (xs : List X) → position p xs ≡ None → All (λ x. p x ≡ false) xs
  none_passes p xs none = λ k d inside. grind (arith, nat_tests, fails_before_first p xs k d)

  -- where some element passes a test, one of them does
  pub some_passes : (p : X → Bool) (xs : List X) → list_any p xs ≡ true → (x : X) × In x xs × (p x ≡ true)
  some_passes p [] h = absurd (false≢true h)
  some_passes p (x ∷ xs) h = elim (or_cases (p x) (list_any p xs) h) [
    | inl e ↦ (x, inl refl, e)
    | inr e ↦ let r = some_passes p xs e in (r.0, inr r.1, r.2)
  ]

  -- an element that would stand twice would clash with itself
  pub once_from_free : (same : X → X → Bool) → ((x : X) → same x x ≡ true) → (xs : List X) → IsFree same xs → Once xs
  once_from_free same itself [] free = tt
  once_from_free same itself (x ∷ xs) free = (
    λ i. false≢true (sym (all_in (λ y. same y x ≡ false) xs (λ k d inside. free 0 (suc k) d (omega arith) (omega arith)) x i) ∙ itself x),
    once_from_free same itself xs (λ j k d h inside. free (suc j) (suc k) d (omega arith) (omega arith)),
  )
