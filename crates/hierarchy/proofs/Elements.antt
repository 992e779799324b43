-- Elements of lists and sums over them: by their numbers, after a filter, in another order.
use Rattle.std.proofs.Common.{◌≡◌, ℕ, zero, suc, ◌+◌, ◌<◌, ◌≤◌, Bool, true, false, cond, not, List, [], ◌∷◌, All, length, map, get_or, ℤ, pos, negsuc, ◌+ℤ◌, ◌-ℤ◌, sym, refl, ap, ◌∙◌, subst, inl, inr, arith}
use Rattle.std.specs.List.{filter, range_with_len, sum_by}
use Rattle.std.specs.List.Sorted.{IsPermutation}
use Rattle.std.proofs.lemmas.List.Sums.{sum_by-cons}
use Rattle.std.proofs.lemmas.List.Sorted.{Contains-permutation, sum_by-IsPermutation}
use Rattle.plane.specs.Edges.{In, sum_of}
use Rattle.plane.proofs.Signs.{lin}
use Rattle.tiling.proofs.Sheets.{in_get_or}

-- ---- elements

module _ {X : Type 0} where
  pub place_in : (d x : X) (l : List X) → In x l → (i : ℕ) × (i < length l) × (get_or l i d ≡ x)
  place_in d x [] h = absurd h
  place_in d x (y ∷ l) (inl e) = (zero, omega arith, sym e)
  place_in d x (y ∷ l) (inr j) = let r = place_in d x l j in (suc r.0, (let a = r.1 in omega arith), r.2)

  kept_in : (x y : X) (b : Bool) (test : X → Bool) (l : List X) → test y ≡ b → (In x (filter test l) → In x l × (test x ≡ true))
      → In x (cond b (y ∷ filter test l) (filter test l)) → In x (y ∷ l) × (test x ≡ true)
  kept_in x y true test l h next (inl e) = (inl e, ap test e ∙ h)
  kept_in x y true test l h next (inr i) = let r = next i in (inr r.0, r.1)
  kept_in x y false test l h next i = let r = next i in (inr r.0, r.1)

  pub in_filter : (test : X → Bool) (x : X) (l : List X) → In x (filter test l) → In x l × (test x ≡ true)
  in_filter test x [] i = absurd i
  in_filter test x (y ∷ l) i = kept_in x y (test y) test l refl (in_filter test x l) i

  pub filter_in : (test : X → Bool) (x : X) (l : List X) → In x l → test x ≡ true → In x (filter test l)
  filter_in test x [] i t = absurd i
  filter_in test x (y ∷ l) (inl e) t = subst (λ b. In x (cond b (y ∷ filter test l) (filter test l))) (sym (ap test (sym e) ∙ t)) (inl e)
  filter_in test x (y ∷ l) (inr i) t = go (test y) (filter_in test x l i t)
    where
      go : (b : Bool) → In x (filter test l) → In x (cond b (y ∷ filter test l) (filter test l))
      go true i = inr i
      go false i = i

  pub in_permuted : (x : X) (l m : List X) → IsPermutation l m → In x l → In x m
  in_permuted x l m p i =
      let r = place_in x x l i in
      let c = Contains-permutation l m x p r in
      subst (λ y. In y m) c.2 (in_get_or x m c.0 c.1)

  pub all_at : (P : X → Type 0) (l : List X) → All P l → (x : X) → In x l → P x
  all_at P l all x i = let r = place_in x x l i in subst P r.2 (all r.0 x r.1)

pub map_in : {X Y : Type 0} (g : X → Y) (y : Y) (l : List X) → In y (map g l) → (x : X) × In x l × (g x ≡ y)
map_in g y [] i = absurd i
map_in g y (x ∷ l) (inl e) = (x, inl refl, sym e)
map_in g y (x ∷ l) (inr i) = let r = map_in g y l i in (r.0, inr r.1, r.2)

pub in_range : (k a n : ℕ) → In k (range_with_len a n) → (a ≤ k) × (k < a + n)
in_range k a zero i = absurd i
in_range k a (suc n) (inl e) = (omega arith, omega arith)
in_range k a (suc n) (inr i) = let r = in_range k (a + 1) n i in (omega arith, omega arith)

-- ---- sums

split_one : (b : Bool) (u : ℤ) → u ≡ cond b u (pos 0) +ℤ cond (not b) u (pos 0)
split_one true u = omega lin
split_one false u = omega lin

-- what a number is above 0, and below
above : ℤ → ℕ
above (pos n) = n
above (negsuc n) = 0

below : ℤ → ℕ
below (pos n) = 0
below (negsuc n) = suc n

parts : (u : ℤ) → u ≡ pos (above u) -ℤ pos (below u)
unfolding above below
parts (pos n) = omega lin
parts (negsuc n) = omega lin

module _ {X : Type 0} where
  pub sum_same : (f g : X → ℤ) (l : List X) → ((x : X) → In x l → f x ≡ g x) → sum_of f l ≡ sum_of g l
  sum_same f g [] h = refl
  sum_same f g (x ∷ l) h = let a = h x (inl refl) in let b = sum_same f g l (λ y i. h y (inr i)) in omega lin

  pub sum_zero : (f : X → ℤ) (l : List X) → ((x : X) → In x l → f x ≡ pos 0) → sum_of f l ≡ pos 0
  sum_zero f [] h = refl
  sum_zero f (x ∷ l) h = let a = h x (inl refl) in let b = sum_zero f l (λ y i. h y (inr i)) in omega lin

  pub sum_both : (f g : X → ℤ) (l : List X) → sum_of (λ x. f x +ℤ g x) l ≡ sum_of f l +ℤ sum_of g l
  sum_both f g [] = refl
  sum_both f g (x ∷ l) = let h = sum_both f g l in omega lin

  -- one number where a test holds, and 0 elsewhere
  abbrev pub where_true : (X → Bool) → (X → ℤ) → X → ℤ
  where_true test f x = cond (test x) (f x) (pos 0)

  one_kept : (f : X → ℤ) (x : X) (b : Bool) (l m : List X) (u : ℤ) → sum_of f m ≡ u → sum_of f (cond b (x ∷ m) m) ≡ cond b (f x) (pos 0) +ℤ u
  one_kept f x true l m u h = omega lin
  one_kept f x false l m u h = omega lin

  pub sum_filter : (f : X → ℤ) (test : X → Bool) (l : List X) → sum_of f (filter test l) ≡ sum_of (where_true test f) l
  sum_filter f test [] = refl
  sum_filter f test (x ∷ l) = one_kept f x (test x) l (filter test l) (sum_of (where_true test f) l) (sum_filter f test l)

  -- what passes a test and what does not
  pub sum_split : (f : X → ℤ) (test : X → Bool) (l : List X) → sum_of f l ≡ sum_of (where_true test f) l +ℤ sum_of f (filter (λ x. not (test x)) l)
  sum_split f test l =
      sum_same f (λ x. where_true test f x +ℤ where_true (λ y. not (test y)) f x) l (λ x i. split_one (test x) (f x))
      ∙ sum_both (where_true test f) (where_true (λ y. not (test y)) f) l
      ∙ ap (λ (u : ℤ). sum_of (where_true test f) l +ℤ u) (sym (sum_filter f (λ y. not (test y)) l))

  -- ---- in another order

  sum_parts : (f : X → ℤ) (l : List X) → sum_of f l ≡ pos (sum_by (λ x. above (f x)) l) -ℤ pos (sum_by (λ x. below (f x)) l)
  sum_parts f [] = refl
  sum_parts f (x ∷ l) =
      let h = sum_parts f l in
      let k = parts (f x) in
      let a = sum_by-cons (λ y. above (f y)) x l in
      let b = sum_by-cons (λ y. below (f y)) x l in
      omega lin

  pub sum_permuted : (f : X → ℤ) (l m : List X) → IsPermutation l m → sum_of f l ≡ sum_of f m
  sum_permuted f l m p =
      let a = sum_parts f l in
      let b = sum_parts f m in
      let c = sum_by-IsPermutation (λ x. above (f x)) l m p in
      let d = sum_by-IsPermutation (λ x. below (f x)) l m p in
      omega lin

  -- ---- by numbers

  pub sum_range : (g : ℕ → ℤ) (f : X → ℤ) (d : X) (m : List X) (a : ℕ) → ((i : ℕ) → i < length m → g (a + i) ≡ f (get_or m i d))
      → sum_of g (range_with_len a (length m)) ≡ sum_of f m
  sum_range g f d [] a h = refl
  sum_range g f d (x ∷ m) a h =
      let here : g a ≡ f x = ap g (omega arith) ∙ h 0 (omega arith) in
      let rest = sum_range g f d m (a + 1) (λ i l. ap g (omega arith) ∙ h (suc i) (omega arith)) in
      omega lin

pub sum_map : {X Y : Type 0} (f : Y → ℤ) (g : X → Y) (l : List X) → sum_of f (map g l) ≡ sum_of (λ x. f (g x)) l
sum_map f g [] = refl
sum_map f g (x ∷ l) = ap (λ (u : ℤ). f (g x) +ℤ u) (sum_map f g l)
