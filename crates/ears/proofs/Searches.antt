-- The first of a range of numbers that passes a test.
use Rattle.std.proofs.Common.{◌≡◌, ℕ, zero, suc, ◌+◌, ◌-◌, ◌<◌, ◌≤◌, Bool, true, false, cond, Option, Some, None, find, refl, sym, ap, ◌∙◌, arith}
use Rattle.std.specs.List.{range_with_len}

-- from i to below n
abbrev pub seek : (ℕ → Bool) → ℕ → ℕ → Option ℕ
seek p i n = find p (range_with_len i (n - i))

seek_more : (p : ℕ → Bool) (i n : ℕ) → i < n → seek p i n ≡ cond (p i) (Some i) (seek p (i + 1) n)
seek_more p i n inside = let e : n - i ≡ suc (n - (i + 1)) = omega arith in ap (λ k. find p (range_with_len i k)) e

pub seek_here : (p : ℕ → Bool) (i n : ℕ) → i < n → true ≡ p i → seek p i n ≡ Some i
seek_here p i n inside here = seek_more p i n inside ∙ ap (λ b. cond b (Some i) (seek p (i + 1) n)) (sym here)

pub seek_later : (p : ℕ → Bool) (i n : ℕ) → i < n → false ≡ p i → seek p i n ≡ seek p (i + 1) n
seek_later p i n inside here = seek_more p i n inside ∙ ap (λ b. cond b (Some i) (seek p (i + 1) n)) (sym here)

pub seek_end : (p : ℕ → Bool) (i n : ℕ) → n ≤ i → seek p i n ≡ None
seek_end p i n past = let e : n - i ≡ 0 = omega arith in ap (λ k. find p (range_with_len i k)) e

-- for the search of the first ear
pub ruleset found = (seek_here, seek_later, seek_end)

-- what is found passes the test, and is in the range
pub found_in : (p : ℕ → Bool) (n from i : ℕ) → find p (range_with_len from n) ≡ Some i → (p i ≡ true) × (i < from + n)
found_in p zero from i e = cc
found_in p (suc n) from i e = go (p from) refl (found_in p n (from + 1) i) e
  where
    go : (b : Bool) → p from ≡ b → (find p (range_with_len (from + 1) n) ≡ Some i → (p i ≡ true) × (i < from + 1 + n))
        → cond b (Some from) (find p (range_with_len (from + 1) n)) ≡ Some i → (p i ≡ true) × (i < from + suc n)
    go true here rest f = let same : from ≡ i = cc in (ap p (sym same) ∙ here, omega arith)
    go false here rest f = let r = rest f in (r.0, omega arith)
