-- Lists in which no element stands twice.
use Rattle.std.proofs.Common.{◌≡◌, ℕ, zero, suc, ◌+◌, ◌<◌, ◌≤◌, Bool, true, false, cond, ◌⊎◌, List, [], ◌∷◌, length, map, get_or, sym, refl, ap, ◌∙◌, subst, inl, inr, arith}
use Rattle.std.specs.List.{filter, range_with_len}
use Rattle.std.proofs.lemmas.Bool.{cases_eq}
use Rattle.plane.specs.Edges.{In, Once}
use Rattle.tiling.proofs.Lists.{in_map}
use Rattle.tiling.proofs.Sheets.{in_get_or}
use Rattle.hierarchy.proofs.Elements.{in_filter, in_range, map_in}

module _ {X : Type 0} where
  -- what is left of a list without one of its elements
  record Less (x : X) (l : List X) : Type 0 where
    rest : List X
    shorter : length l ≡ suc (length rest)
    others : (y : X) → In y l → (y ≡ x) ⊎ In y rest

  less : (x : X) (l : List X) → In x l → Less x l
  less x [] i = absurd i
  less x (y ∷ l) (inl e) = record { rest = l; shorter = refl; others = λ z. elim [ inl h ↦ inl (h ∙ sym e) | inr j ↦ inr j ] }
  less x (y ∷ l) (inr i) =
      let o = less x l i in
      record {
        rest = y ∷ o.rest;
        shorter = ap suc o.shorter;
        others = λ z. elim [ inl h ↦ inr (inl h) | inr j ↦ elim (o.others z j) [ inl h ↦ inl h | inr k ↦ inr (inr k) ] ];
      }

  rest_in : (x : X) (l m : List X) → ¬ (In x l) → (o : Less x m) → ((y : X) → In y (x ∷ l) → In y m) → (y : X) → In y l → In y o.rest
  rest_in x l m n o s y i = elim (o.others y (s y (inr i))) [ inl e ↦ absurd (n (subst (λ (w : X). In w l) e i)) | inr j ↦ j ]

  -- it is no longer than a list that has all its elements
  pub once_within : (l m : List X) → Once l → ((x : X) → In x l → In x m) → length l ≤ length m
  once_within [] m o s = omega arith
  once_within (x ∷ l) m o s =
      let r = less x m (s x (inl refl)) in
      let h = once_within l r.rest o.1 (rest_in x l m o.0 r s) in
      let e = r.shorter in
      omega arith

  pub once_filter : (p : X → Bool) (l : List X) → Once l → Once (filter p l)
  once_filter p [] o = tt
  once_filter p (x ∷ l) o = go (p x) (once_filter p l o.1)
    where
      go : (b : Bool) → Once (filter p l) → Once (cond b (x ∷ filter p l) (filter p l))
      go true r = (λ i. o.0 (in_filter p x l i).0, r)
      go false r = r

  pub once_place : (d : X) (l : List X) → Once l → (i j : ℕ) → i < length l → j < length l → get_or l i d ≡ get_or l j d → i ≡ j
  once_place d [] o i j h k e = absurd (omega arith)
  once_place d (x ∷ l) o zero zero h k e = refl
  once_place d (x ∷ l) o zero (suc j) h k e = absurd (o.0 (subst (λ (w : X). In w l) (sym e) (in_get_or d l j (omega arith))))
  once_place d (x ∷ l) o (suc i) zero h k e = absurd (o.0 (subst (λ (w : X). In w l) e (in_get_or d l i (omega arith))))
  once_place d (x ∷ l) o (suc i) (suc j) h k e = ap suc (once_place d l o.1 i j (omega arith) (omega arith) e)

module _ {X Y : Type 0} (f : X → Y) where
  pub once_of_map : (l : List X) → Once (map f l) → Once l
  once_of_map [] o = tt
  once_of_map (x ∷ l) o = (λ i. o.0 (in_map f x l i), once_of_map l o.1)

  pub once_map : (l : List X) → Once l → ((x y : X) → In x l → In y l → f x ≡ f y → x ≡ y) → Once (map f l)
  once_map [] o h = tt
  once_map (x ∷ l) o h =
      (λ i. let r = map_in f (f x) l i in o.0 (subst (λ (w : X). In w l) (h r.0 x (inr r.1) (inl refl) r.2) r.1), once_map l o.1 (λ y z i j e. h y z (inr i) (inr j) e))

-- ---- ranges

pub range_in : (k a n : ℕ) → a ≤ k → k < a + n → In k (range_with_len a n)
range_in k a zero h l = absurd (omega arith)
range_in k a (suc n) h l = elim (cases_eq k a) [ inl e ↦ inl e | inr d ↦ inr (range_in k (a + 1) n (omega arith) (omega arith)) ]

pub range_once : (a n : ℕ) → Once (range_with_len a n)
range_once a zero = tt
range_once a (suc n) = (λ i. (let r = in_range a (a + 1) n i in omega arith), range_once (a + 1) n)

pub range_long : (a n : ℕ) → length (range_with_len a n) ≡ n
range_long a zero = refl
range_long a (suc n) = ap suc (range_long (a + 1) n)
