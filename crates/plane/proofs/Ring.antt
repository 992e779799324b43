-- A normaliser for polynomials over the integers. To prove an identity, write both sides as expressions: `ring` asks that
-- the polynomial of their difference has no coefficient but 0, and the checker computes that.
-- Like terms are found by comparing sorted lists of variables. Soundness does not need that they are sorted.
use Rattle.std.proofs.Common.{◌≡◌, ℕ, zero, suc, ◌*◌, Bool, true, false, cond, ◌&&◌, T, eqb, ltb, List, [], ◌∷◌, ℤ, pos, negsuc, ◌+ℤ◌, ◌-ℤ◌, ◌*ℤ◌, neg_ℤ, sym, refl, ap, ◌∙◌, ap₂, arith, eqb→eq}
use borrow.Author.Differences.{ints, up, down, sum_is_lem, product_is}
use lib.IntN.{one, *ℤ-one, zero-*ℤ, *ℤ-zero, +ℤ_idl, +ℤ_idr, +ℤ_assoc, *ℤ_comm}

-- ---- expressions

infixl 6 ◌⊕◌ ◌⊖◌
infixl 7 ◌⊗◌
pub data Expr : Type 0 where
  var : ℕ → Expr
  lit : ℤ → Expr
  ◌⊕◌ : Expr → Expr → Expr
  ◌⊖◌ : Expr → Expr → Expr
  ◌⊗◌ : Expr → Expr → Expr
  minus : Expr → Expr

-- the value of variable i
abbrev pub value : List ℤ → ℕ → ℤ
value [] i = pos 0
value (x ∷ xs) zero = x
value (x ∷ xs) (suc i) = value xs i

abbrev pub eval : List ℤ → Expr → ℤ
eval xs (var i) = value xs i
eval xs (lit z) = z
eval xs (e ⊕ f) = eval xs e +ℤ eval xs f
eval xs (e ⊖ f) = eval xs e -ℤ eval xs f
eval xs (e ⊗ f) = eval xs e *ℤ eval xs f
eval xs (minus e) = neg_ℤ (eval xs e)

-- ---- polynomials: a term is a coefficient and its variables, in ascending order

pub data Poly : Type 0 where
  none : Poly
  term : ℤ → List ℕ → Poly → Poly

pub data Order : Type 0 where
  before same after : Order

order_by : Bool → Bool → Order → Order
order_by true lower rest = rest
order_by false true rest = before
order_by false false rest = after

order : List ℕ → List ℕ → Order
unfolding order_by
order [] [] = same
order [] (j ∷ n) = before
order (i ∷ m) [] = after
order (i ∷ m) (j ∷ n) = let rest = order m n in order_by (eqb i j) (ltb i j) rest

insert : ℕ → List ℕ → List ℕ
insert i [] = i ∷ []
insert i (j ∷ m) = cond (ltb j i) (j ∷ insert i m) (i ∷ j ∷ m)

merge : List ℕ → List ℕ → List ℕ
unfolding insert
merge [] n = n
merge (i ∷ m) n = insert i (merge m n)

-- one term more; rest is what it comes to if the term goes behind the first
add_by : Order → ℤ → List ℕ → ℤ → List ℕ → Poly → Poly → Poly
add_by before c m d n p rest = term c m (term d n p)
add_by same c m d n p rest = term (c +ℤ d) n p
add_by after c m d n p rest = term d n rest

add_term : ℤ → List ℕ → Poly → Poly
unfolding add_by order
add_term c m none = term c m none
add_term c m (term d n p) = let rest = add_term c m p in add_by (order m n) c m d n p rest

add : Poly → Poly → Poly
unfolding add_term
add none q = q
add (term c m p) q = add_term c m (add p q)

times_term : ℤ → List ℕ → Poly → Poly
unfolding add_term merge
times_term c m none = none
times_term c m (term d n p) = add_term (c *ℤ d) (merge m n) (times_term c m p)

times : Poly → Poly → Poly
unfolding add times_term
times none q = none
times (term c m p) q = add (times_term c m q) (times p q)

poly : Expr → Poly
unfolding add times_term times
poly (var i) = term (pos 1) (i ∷ []) none
poly (lit z) = term z [] none
poly (e ⊕ f) = add (poly e) (poly f)
poly (e ⊖ f) = add (poly e) (times_term (negsuc 0) [] (poly f))
poly (e ⊗ f) = times (poly e) (poly f)
poly (minus e) = times_term (negsuc 0) [] (poly e)

is_zero : ℤ → Bool
is_zero (pos zero) = true
is_zero (pos (suc n)) = false
is_zero (negsuc n) = false

vanishes : Poly → Bool
unfolding is_zero
vanishes none = true
vanishes (term c m p) = is_zero c && vanishes p

unfoldable pub same? : Expr → Expr → Bool
unfolding poly vanishes
same? e f = vanishes (poly (e ⊖ f))

-- ---- the laws of the integers that it stands on

distributes : (a b c : ℤ) → a *ℤ (b +ℤ c) ≡ a *ℤ b +ℤ a *ℤ c
distributes a b c = omega (arith, ints, ap (λ n. up a * n) (sum_is_lem b c), ap (λ n. down a * n) (sum_is_lem b c))

associates : (a b c : ℤ) → (a *ℤ b) *ℤ c ≡ a *ℤ (b *ℤ c)
associates a b c =
    omega (
      arith,
      ints,
      ap (λ n. n * up c) (product_is a b).0,
      ap (λ n. n * down c) (product_is a b).0,
      ap (λ n. n * up c) (product_is a b).1,
      ap (λ n. n * down c) (product_is a b).1,
      ap (λ n. up a * n) (product_is b c).0,
      ap (λ n. down a * n) (product_is b c).0,
      ap (λ n. up a * n) (product_is b c).1,
      ap (λ n. down a * n) (product_is b c).1,
    )

distributes_right : (a b c : ℤ) → (a +ℤ b) *ℤ c ≡ a *ℤ c +ℤ b *ℤ c
distributes_right a b c = *ℤ_comm (a +ℤ b) c ∙ distributes c a b ∙ ap₂ ◌+ℤ◌ (*ℤ_comm c a) (*ℤ_comm c b)

swaps : (a b c : ℤ) → a *ℤ (b *ℤ c) ≡ b *ℤ (a *ℤ c)
swaps a b c = sym (associates a b c) ∙ ap (λ x. x *ℤ c) (*ℤ_comm a b) ∙ associates b a c

regroups : (a b c d : ℤ) → (a *ℤ b) *ℤ (c *ℤ d) ≡ (a *ℤ c) *ℤ (b *ℤ d)
regroups a b c d = associates a b (c *ℤ d) ∙ ap (λ x. a *ℤ x) (swaps b c d) ∙ sym (associates a c (b *ℤ d))

one_times : (a : ℤ) → pos 1 *ℤ a ≡ a
one_times a = omega (arith, ints)

-- ---- soundness

-- the value of a product of variables, and of a polynomial
monomial : List ℤ → List ℕ → ℤ
monomial xs [] = pos 1
monomial xs (i ∷ m) = value xs i *ℤ monomial xs m

total : List ℤ → Poly → ℤ
total xs none = pos 0
total xs (term c m p) = c *ℤ monomial xs m +ℤ total xs p

same_by : (equal lower : Bool) (rest : Order) → order_by equal lower rest ≡ same → T equal × (rest ≡ same)
unfolding order_by
same_by true lower rest e = (tt, e)
same_by false true rest e = absurd (let z : ◌≡◌ {A = ℕ} 0 1 = cc in omega arith)
same_by false false rest e = absurd (let z : ◌≡◌ {A = ℕ} 0 1 = cc in omega arith)

same_is : (m n : List ℕ) → order m n ≡ same → m ≡ n
unfolding order
same_is [] [] e = refl
same_is [] (j ∷ n) e = cc
same_is (i ∷ m) [] e = cc
same_is (i ∷ m) (j ∷ n) e = let h = same_by (eqb i j) (ltb i j) (order m n) e in cc (eqb→eq i j h.0, same_is m n h.1)

module _ (xs : List ℤ) where
  insert_value : (i : ℕ) (m : List ℕ) → monomial xs (insert i m) ≡ value xs i *ℤ monomial xs m
  unfolding insert monomial
  insert_value i [] = refl
  insert_value i (j ∷ m) = go (ltb j i) (insert_value i m)
    where
      go : (b : Bool) → monomial xs (insert i m) ≡ value xs i *ℤ monomial xs m
          → monomial xs (cond b (j ∷ insert i m) (i ∷ j ∷ m)) ≡ value xs i *ℤ (value xs j *ℤ monomial xs m)
      go true h = ap (λ x. value xs j *ℤ x) h ∙ swaps (value xs j) (value xs i) (monomial xs m)
      go false h = refl

  merge_value : (m n : List ℕ) → monomial xs (merge m n) ≡ monomial xs m *ℤ monomial xs n
  unfolding merge monomial
  merge_value [] n = sym (one_times (monomial xs n))
  merge_value (i ∷ m) n =
      insert_value i (merge m n) ∙ ap (λ x. value xs i *ℤ x) (merge_value m n) ∙ sym (associates (value xs i) (monomial xs m) (monomial xs n))

  add_by_value : (o : Order) (c : ℤ) (m : List ℕ) (d : ℤ) (n : List ℕ) (p rest : Poly) → (o ≡ same → m ≡ n)
      → total xs rest ≡ c *ℤ monomial xs m +ℤ total xs p
      → total xs (add_by o c m d n p rest) ≡ c *ℤ monomial xs m +ℤ (d *ℤ monomial xs n +ℤ total xs p)
  unfolding add_by total
  add_by_value before c m d n p rest s h = refl
  add_by_value same c m d n p rest s h =
      ap (λ x. x +ℤ total xs p) (distributes_right c d (monomial xs n))
      ∙ +ℤ_assoc (c *ℤ monomial xs n) (d *ℤ monomial xs n) (total xs p)
      ∙ ap (λ x. c *ℤ monomial xs x +ℤ (d *ℤ monomial xs n +ℤ total xs p)) (sym (s refl))
  add_by_value after c m d n p rest s h = move (c *ℤ monomial xs m) (d *ℤ monomial xs n) (total xs p) (total xs rest) h
    where
      move : (x y z r : ℤ) → r ≡ x +ℤ z → y +ℤ r ≡ x +ℤ (y +ℤ z)
      move x y z r h = omega (arith, ints)

  add_term_value : (c : ℤ) (m : List ℕ) (p : Poly) → total xs (add_term c m p) ≡ c *ℤ monomial xs m +ℤ total xs p
  unfolding add_term total
  add_term_value c m none = refl
  add_term_value c m (term d n p) = add_by_value (order m n) c m d n p (add_term c m p) (same_is m n) (add_term_value c m p)

  add_value : (p q : Poly) → total xs (add p q) ≡ total xs p +ℤ total xs q
  unfolding add total
  add_value none q = sym (+ℤ_idl (total xs q))
  add_value (term c m p) q =
      add_term_value c m (add p q) ∙ ap (λ x. c *ℤ monomial xs m +ℤ x) (add_value p q) ∙ sym (+ℤ_assoc (c *ℤ monomial xs m) (total xs p) (total xs q))

  times_term_value : (c : ℤ) (m : List ℕ) (p : Poly) → total xs (times_term c m p) ≡ (c *ℤ monomial xs m) *ℤ total xs p
  unfolding times_term total
  times_term_value c m none = sym (*ℤ-zero (c *ℤ monomial xs m))
  times_term_value c m (term d n p) =
      add_term_value (c *ℤ d) (merge m n) (times_term c m p)
      ∙ ap₂ ◌+ℤ◌ (ap (λ x. (c *ℤ d) *ℤ x) (merge_value m n) ∙ regroups c d (monomial xs m) (monomial xs n)) (times_term_value c m p)
      ∙ sym (distributes (c *ℤ monomial xs m) (d *ℤ monomial xs n) (total xs p))

  times_value : (p q : Poly) → total xs (times p q) ≡ total xs p *ℤ total xs q
  unfolding times total
  times_value none q = sym (zero-*ℤ (total xs q))
  times_value (term c m p) q =
      add_value (times_term c m q) (times p q) ∙ ap₂ ◌+ℤ◌ (times_term_value c m q) (times_value p q)
      ∙ sym (distributes_right (c *ℤ monomial xs m) (total xs p) (total xs q))

  minus_value : (e : Expr) → total xs (poly e) ≡ eval xs e → total xs (times_term (negsuc 0) [] (poly e)) ≡ neg_ℤ (eval xs e)
  unfolding monomial
  minus_value e h = times_term_value (negsuc 0) [] (poly e) ∙ ap (λ x. (negsuc 0 *ℤ pos 1) *ℤ x) h ∙ negated (eval xs e)
    where
      negated : (x : ℤ) → (negsuc 0 *ℤ pos 1) *ℤ x ≡ neg_ℤ x
      negated x = omega (arith, ints)

  poly_value : (e : Expr) → total xs (poly e) ≡ eval xs e
  unfolding poly total monomial one
  poly_value (var i) = +ℤ_idr (pos 1 *ℤ (value xs i *ℤ pos 1)) ∙ one_times (value xs i *ℤ pos 1) ∙ *ℤ-one (value xs i)
  poly_value (lit z) = +ℤ_idr (z *ℤ pos 1) ∙ *ℤ-one z
  poly_value (e ⊕ f) = add_value (poly e) (poly f) ∙ ap₂ ◌+ℤ◌ (poly_value e) (poly_value f)
  poly_value (e ⊖ f) = add_value (poly e) (times_term (negsuc 0) [] (poly f)) ∙ ap₂ ◌+ℤ◌ (poly_value e) (minus_value f (poly_value f))
  poly_value (e ⊗ f) = times_value (poly e) (poly f) ∙ ap₂ ◌*ℤ◌ (poly_value e) (poly_value f)
  poly_value (minus e) = minus_value e (poly_value e)

  vanishes_value : (p : Poly) → T (vanishes p) → total xs p ≡ pos 0
  unfolding vanishes is_zero total
  vanishes_value none t = refl
  vanishes_value (term (pos zero) m p) t = ap₂ ◌+ℤ◌ (zero-*ℤ (monomial xs m)) (vanishes_value p t)
  vanishes_value (term (pos (suc n)) m p) t = absurd t
  vanishes_value (term (negsuc n) m p) t = absurd t

  -- an identity holds where the polynomial of its difference has no coefficient but 0
  pub ring : (e f : Expr) → T (same? e f) → eval xs e ≡ eval xs f
  unfolding same?
  ring e f t = equal (eval xs e) (eval xs f) (sym (poly_value (e ⊖ f)) ∙ vanishes_value (poly (e ⊖ f)) t)
    where
      equal : (a b : ℤ) → a -ℤ b ≡ pos 0 → a ≡ b
      equal a b h = omega (arith, ints)
