-- Sums of counts, by rows or by columns.
use Rattle.std.proofs.Common.{◌≡◌, ℕ, zero, suc, ◌+◌, ◌<◌, ◌≤◌, Bool, true, false, cond, not, List, [], ◌∷◌, length, sym, refl, inl, inr, arith}
use Rattle.std.specs.List.{filter}
use Rattle.std.proofs.lemmas.Bool.{cond-true}
use Rattle.plane.specs.Edges.{In}
use Rattle.hierarchy.proofs.Counts.{counted}

module _ {X : Type 0} where
  abbrev pub total : (X → ℕ) → List X → ℕ
  total f [] = 0
  total f (x ∷ l) = f x + total f l

  total_zero : (f : X → ℕ) (l : List X) → ((x : X) → f x ≡ 0) → total f l ≡ 0
  total_zero f [] h = refl
  total_zero f (x ∷ l) h = let a = h x in let b = total_zero f l h in omega arith

  total_both : (f g : X → ℕ) (l : List X) → total (λ x. f x + g x) l ≡ total f l + total g l
  total_both f g [] = refl
  total_both f g (x ∷ l) = let a = total_both f g l in omega arith

  pub total_same : (f g : X → ℕ) (l : List X) → ((x : X) → In x l → f x ≡ g x) → total f l ≡ total g l
  total_same f g [] h = refl
  total_same f g (x ∷ l) h = let a = h x (inl refl) in let b = total_same f g l (λ y i. h y (inr i)) in omega arith

  pub filter_length : (p : X → Bool) (l : List X) → length (filter p l) ≡ total (λ x. cond (p x) 1 0) l
  filter_length p [] = refl
  filter_length p (x ∷ l) = go (p x) (filter_length p l)
    where
      go : (b : Bool) → length (filter p l) ≡ total (λ x. cond (p x) 1 0) l → length (cond b (x ∷ filter p l) (filter p l)) ≡ cond b 1 0 + total (λ x. cond (p x) 1 0) l
      go true h = omega arith
      go false h = omega arith

  -- what passes a test and what does not
  pub filter_split : (p : X → Bool) (l : List X) → length (filter p l) + length (filter (λ x. not (p x)) l) ≡ length l
  filter_split p [] = refl
  filter_split p (x ∷ l) = go (p x) (filter_split p l)
    where
      go : (b : Bool) → length (filter p l) + length (filter (λ x. not (p x)) l) ≡ length l
          → length (cond b (x ∷ filter p l) (filter p l)) + length (cond (not b) (x ∷ filter (λ x. not (p x)) l) (filter (λ x. not (p x)) l)) ≡ suc (length l)
      go true h = omega arith
      go false h = omega arith

pub swap_count : {X Y : Type 0} (t : X → Y → Bool) (xs : List X) (ys : List Y)
    → total (λ x. length (filter (t x) ys)) xs ≡ total (λ y. length (filter (λ x. t x y) xs)) ys
swap_count {X = X} {Y = Y} t [] ys = sym (total_zero (λ y. 0) ys (λ y. refl))
swap_count {X = X} {Y = Y} t (x ∷ xs) ys =
    let a = swap_count t xs ys in
    let b = filter_length (t x) ys in
    let c = total_both (λ y. cond (t x y) 1 0) (λ y. length (filter (λ x. t x y) xs)) ys in
    let d = total_same (λ y. cond (t x y) 1 0 + length (filter (λ x. t x y) xs)) (λ y. length (filter (λ x. t x y) (x ∷ xs))) ys (λ y i. one (t x y) y) in
    omega arith
  where
    one : (b : Bool) (y : Y) → cond b 1 0 + length (filter (λ x. t x y) xs) ≡ length (cond b (x ∷ filter (λ x. t x y) xs) (filter (λ x. t x y) xs))
    one true y = omega arith
    one false y = omega arith

-- ---- numbers of a range that pass a test

pub counted_all : (p : ℕ → Bool) (n v : ℕ) → ((w : ℕ) → v ≤ w → w < v + n → p w ≡ true) → counted p n v ≡ n
counted_all p zero v h = refl
counted_all p (suc n) v h =
    let a : cond {A = ℕ} (p v) 1 0 ≡ 1 = cond-true (p v) 1 0 (h v (omega arith) (omega arith)) in
    let b = counted_all p n (v + 1) (λ w i j. h w (omega arith) (omega arith)) in
    omega arith

-- what passes a third test passes one of two
pub counted_cover : (p q r : ℕ → Bool) (n v : ℕ) → ((w : ℕ) → v ≤ w → w < v + n → r w ≡ true → q w ≡ false → p w ≡ true) → counted r n v ≤ counted p n v + counted q n v
counted_cover p q r zero v h = omega arith
counted_cover p q r (suc n) v h =
    let a = one (p v) (q v) (r v) (h v (omega arith) (omega arith)) in
    let b = counted_cover p q r n (v + 1) (λ w i j. h w (omega arith) (omega arith)) in
    omega arith
  where
    one : (p q r : Bool) → (r ≡ true → q ≡ false → p ≡ true) → cond r 1 0 ≤ cond p 1 0 + cond q 1 0
    one p true true h = omega arith
    one p false true h = let e : cond {A = ℕ} p 1 0 ≡ 1 = cond-true p 1 0 (h refl refl) in omega arith
    one p q false h = omega arith
