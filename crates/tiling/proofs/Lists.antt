-- Elements and sums of lists that are put together, mapped or turned.
use Rattle.std.proofs.Common.{◌≡◌, ◌⊎◌, List, [], ◌∷◌, ◌++◌, map, ℤ, pos, ◌+ℤ◌, ◌≤ℤ◌, ◌<ℤ◌, sym, refl, ap, ◌∙◌, inl, inr}
use mathlib.Core.Logic.{⊎_map}
use Rattle.std.proofs.lemmas.Int.{by_lt_z}
use Rattle.std.specs.List.{flat_map}
use Rattle.plane.specs.Edges.{In, Once, sum_of}
use Rattle.plane.proofs.Signs.{lin}

module _ {X : Type 0} where
  pub in_left : (x : X) (l m : List X) → In x l → In x (l ++ m)
  in_left x [] m i = absurd i
  in_left x (y ∷ l) m (inl e) = inl e
  in_left x (y ∷ l) m (inr i) = inr (in_left x l m i)

  pub in_right : (x : X) (l m : List X) → In x m → In x (l ++ m)
  in_right x [] m i = i
  in_right x (y ∷ l) m i = inr (in_right x l m i)

  pub in_split : (x : X) (l m : List X) → In x (l ++ m) → In x l ⊎ In x m
  in_split x [] m i = inr i
  in_split x (y ∷ l) m (inl e) = inl (inl e)
  in_split x (y ∷ l) m (inr i) = ⊎_map inr (λ j. j) (in_split x l m i)

  pub sum-++ : (f : X → ℤ) (l m : List X) → sum_of f (l ++ m) ≡ sum_of f l +ℤ sum_of f m
  sum-++ f [] m = omega lin
  sum-++ f (x ∷ l) m = let h = sum-++ f l m in omega lin

  -- ---- a list turned by one: its first element comes last

  pub in_turned : (x y : X) (l : List X) → In x (y ∷ l) → In x (l ++ y ∷ [])
  in_turned x y l (inl e) = in_right x l (y ∷ []) (inl e)
  in_turned x y l (inr i) = in_left x l (y ∷ []) i

  pub turned_in : (x y : X) (l : List X) → In x (l ++ y ∷ []) → In x (y ∷ l)
  turned_in x y l i = elim (in_split x l (y ∷ []) i) [ inl j ↦ inr j | inr (inl e) ↦ inl e | inr (inr n) ↦ absurd n ]

  pub sum_turned : (f : X → ℤ) (y : X) (l : List X) → sum_of f (l ++ y ∷ []) ≡ sum_of f (y ∷ l)
  sum_turned f y l = let h = sum-++ f l (y ∷ []) in omega lin

  pub once_turned : (y : X) (l : List X) → Once (y ∷ l) → Once (l ++ y ∷ [])
  once_turned y [] o = o
  once_turned y (x ∷ l) o =
      (λ i. elim (turned_in x y l i) [ inl e ↦ o.0 (inl (sym e)) | inr j ↦ o.1.0 j ], once_turned y l (λ i. o.0 (inr i), o.1.1))

-- ---- lists made from each element

module _ {X Y : Type 0} where
  pub in_map : (g : X → Y) (x : X) (l : List X) → In x l → In (g x) (map g l)
  in_map g x [] i = absurd i
  in_map g x (y ∷ l) (inl e) = inl (ap g e)
  in_map g x (y ∷ l) (inr i) = inr (in_map g x l i)

  pub in_joined : (g : X → List Y) (y : Y) (x : X) (l : List X) → In x l → In y (g x) → In y (flat_map g l)
  in_joined g y x [] i j = absurd i
  in_joined g y x (z ∷ l) (inl e) j = in_left y (g z) (flat_map g l) (rw e at j)
  in_joined g y x (z ∷ l) (inr i) j = in_right y (g z) (flat_map g l) (in_joined g y x l i j)

  pub joined_in : (g : X → List Y) (y : Y) (l : List X) → In y (flat_map g l) → (x : X) × In x l × In y (g x)
  joined_in g y [] i = absurd i
  joined_in g y (z ∷ l) i = elim (in_split y (g z) (flat_map g l) i) [
    | inl j ↦ (z, inl refl, j)
    | inr j ↦ let r = joined_in g y l j in (r.0, inr r.1, r.2)
  ]

  pub sum_joined : (f : Y → ℤ) (g : X → List Y) (l : List X) → sum_of f (flat_map g l) ≡ sum_of (λ x. sum_of f (g x)) l
  sum_joined f g [] = refl
  sum_joined f g (x ∷ l) = sum-++ f (g x) (flat_map g l) ∙ ap (λ (s : ℤ). sum_of f (g x) +ℤ s) (sum_joined f g l)

-- ---- sums of numbers that are not negative

module _ {X : Type 0} (f : X → ℤ) where
  abbrev Low : List X → Type 0
  Low l = (x : X) → In x l → pos 0 ≤ℤ f x

  pub sum_low : (l : List X) → Low l → pos 0 ≤ℤ sum_of f l
  sum_low [] h = omega lin
  sum_low (x ∷ l) h = let i = h x (inl refl) in let j = sum_low l (λ y k. h y (inr k)) in omega lin

  -- each is at most the sum
  pub sum_has : (l : List X) → Low l → (x : X) → In x l → f x ≤ℤ sum_of f l
  sum_has [] h x i = absurd i
  sum_has (y ∷ l) h x (inl e) = let j = sum_low l (λ z k. h z (inr k)) in let k = ap f e in omega lin
  sum_has (y ∷ l) h x (inr i) = let j = h y (inl refl) in let k = sum_has l (λ z m. h z (inr m)) x i in omega lin

  -- and so are two, if they are not one
  pub sum_two : (l : List X) → Low l → (x y : X) → In x l → In y l → (x ≡ y) ⊎ ((f x +ℤ f y) ≤ℤ sum_of f l)
  sum_two [] h x y i j = absurd i
  sum_two (z ∷ l) h x y (inl e) (inl d) = inl (e ∙ sym d)
  sum_two (z ∷ l) h x y (inl e) (inr j) = let k = sum_has l (λ u m. h u (inr m)) y j in let n = ap f e in inr (omega lin)
  sum_two (z ∷ l) h x y (inr i) (inl d) = let k = sum_has l (λ u m. h u (inr m)) x i in let n = ap f d in inr (omega lin)
  sum_two (z ∷ l) h x y (inr i) (inr j) = elim (sum_two l (λ u m. h u (inr m)) x y i j) [ inl e ↦ inl e | inr q ↦ inr (let k = h z (inl refl) in omega lin) ]

  -- a sum above 0 has a number above 0
  pub sum_some : (l : List X) → pos 0 <ℤ sum_of f l → (x : X) × In x l × (pos 0 <ℤ f x)
  sum_some [] h = absurd (omega lin)
  sum_some (x ∷ l) h =
      by_lt_z (pos 0) (f x) (λ (i : pos 0 <ℤ f x). (x, inl refl, i))
      (λ (i : f x ≤ℤ pos 0). let r = sum_some l (omega lin) in (r.0, inr r.1, r.2))
