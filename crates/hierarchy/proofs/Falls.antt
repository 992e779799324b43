-- The rounds of a sheet are few: thirteen of them halve the vertices that are left.
use Rattle.std.proofs.Common.{◌≡◌, ℕ, zero, suc, ◌+◌, ◌*◌, ◌/◌, ◌^◌, ◌<◌, ◌≤◌, refl, inl, inr, ap, ◌∙◌, subst, arith}
use Rattle.std.proofs.lemmas.Bool.{cases_lt}
use Rattle.std.proofs.Math.Nat.{pow-succ'}
use Rattle.hierarchy.specs.Falls.{Fell, RoundsAreFew, begin, digits, digits_within, round}

-- one digit more
double : (d : ℕ) → 2 ^ (d + 1) ≡ 2 * 2 ^ d
double d = ap (λ k. 2 ^ k) (omega arith) ∙ pow-succ' 2 d

-- a number is below the power of two that its digits make
below_power : (halvings n : ℕ) → n ≤ halvings → n < 2 ^ digits_within halvings n
unfolding digits_within
below_power zero n h = omega arith
below_power (suc halvings) zero h = omega arith
below_power (suc halvings) (suc n) h =
    let i = below_power halvings (suc n / 2) (omega arith) in
    rw (double (digits_within halvings (suc n / 2))) (omega arith)

-- ---- rounds, back from the last

-- so many rounds before, some were left, and `few` times what is left now is no more than `many` times that
record Before (n back rounds left many few : ℕ) : Type 0 where
  earlier : ℕ
  more : ℕ
  is : earlier + back ≡ rounds
  fell : Fell n earlier more
  some : 0 < more
  falls : few * left ≤ many * more

one_back : (n rounds left : ℕ) → Fell n rounds left → 0 < rounds → Before n 1 rounds left 17 18
one_back n rounds left (begin l h) p = absurd (omega arith)
one_back n rounds left (round r l chosen next fell some enough falls) p =
    record { earlier = r; more = l; is = refl; fell = fell; some = some; falls = omega arith }

four_back : (n rounds left : ℕ) → Fell n rounds left → 4 ≤ rounds → Before n 4 rounds left 4 5
four_back n rounds left fell p =
    let a = one_back n rounds left fell (omega arith) in
    let b = one_back n a.earlier a.more a.fell (omega arith) in
    let c = one_back n b.earlier b.more b.fell (omega arith) in
    let d = one_back n c.earlier c.more c.fell (omega arith) in
    record { earlier = d.earlier; more = d.more; is = omega arith; fell = d.fell; some = d.some; falls = omega arith }

-- thirteen rounds halve
thirteen_back : (n rounds left : ℕ) → Fell n rounds left → 13 ≤ rounds → Before n 13 rounds left 1 2
thirteen_back n rounds left fell p =
    let a = four_back n rounds left fell (omega arith) in
    let b = four_back n a.earlier a.more a.fell (omega arith) in
    let c = four_back n b.earlier b.more b.fell (omega arith) in
    let d = one_back n c.earlier c.more c.fell (omega arith) in
    record { earlier = d.earlier; more = d.more; is = omega arith; fell = d.fell; some = d.some; falls = omega arith }

-- there are never more left than at the beginning
never_more : (n rounds left : ℕ) → Fell n rounds left → left ≤ n
never_more n rounds left (begin l h) = h
never_more n rounds left (round r l chosen next fell some enough falls) = let i = never_more n r l fell in omega arith

-- so each thirteen rounds take a digit off, and after thirteen for each digit none is left
left_below : (d e n rounds left : ℕ) → Fell n rounds left → 13 * d ≤ rounds → n < 2 ^ (d + e) → left < 2 ^ e
left_below zero e n rounds left fell p h =
    let i = never_more n rounds left fell in
    let j : n < 2 ^ e = subst (λ k. n < 2 ^ k) (omega arith) h in
    omega arith
left_below (suc d) e n rounds left fell p h =
    let b = thirteen_back n rounds left fell (omega arith) in
    let f = b.falls in
    let i = left_below d (e + 1) n b.earlier b.more b.fell (let i = b.is in omega arith) (subst (λ k. n < 2 ^ k) (omega arith) h) in
    omega (arith, double e)

pub rounds_are_few : RoundsAreFew
rounds_are_few n rounds left fell = elim (cases_lt (13 * digits n) rounds) [
  | inl more ↦
      let b = one_back n rounds left fell (omega arith) in
      let low : n < 2 ^ (digits n + 0) = subst (λ k. n < 2 ^ k) (omega arith) (below_power n n (omega arith)) in
      let none = left_below (digits n) 0 n b.earlier b.more b.fell (let i = b.is in omega arith) low in
      absurd (let s = b.some in omega arith)
  | inr few ↦ few
]
