-- The sign of a product, from the signs of its factors.
use Rattle.std.proofs.Common.{◌≡◌, zero, suc, [], ◌∷◌, ℤ, pos, negsuc, ◌*ℤ◌, neg_ℤ, ◌≤ℤ◌, ◌<ℤ◌, arith}
use borrow.Author.Differences.{ints}
use lib.IntN.{*ℤ_comm}
use Rattle.std.proofs.lemmas.Int.{by_lt_z}
use Rattle.plane.proofs.Ring.{var, ◌⊗◌, minus, ring, same?}

-- linear arithmetic over the integers
pub ruleset lin = (arith, ints)

pub neg_times : (a b : ℤ) → neg_ℤ a *ℤ b ≡ neg_ℤ (a *ℤ b)
unfolding same?
neg_times a b = ring (a ∷ b ∷ []) (minus (var 0) ⊗ var 1) (minus (var 0 ⊗ var 1)) tt

pub swapped : (a b : ℤ) → a *ℤ b ≡ b *ℤ a
swapped a b = *ℤ_comm a b

pub times_neg : (a b : ℤ) → a *ℤ neg_ℤ b ≡ neg_ℤ (a *ℤ b)
unfolding same?
times_neg a b = ring (a ∷ b ∷ []) (var 0 ⊗ minus (var 1)) (minus (var 0 ⊗ var 1)) tt

-- two of one sign, or of two signs; `+` and `-` let a factor be 0, and `>` and `<` do not
pub times-++ : (a b : ℤ) → pos 0 ≤ℤ a → pos 0 ≤ℤ b → pos 0 ≤ℤ (a *ℤ b)
times-++ (pos a) (pos b) h k = omega lin
times-++ (pos a) (negsuc b) h k = omega lin
times-++ (negsuc a) b h k = omega lin

pub times->> : (a b : ℤ) → pos 0 <ℤ a → pos 0 <ℤ b → pos 0 <ℤ (a *ℤ b)
times->> (pos zero) b h k = omega lin
times->> (pos (suc a)) (pos zero) h k = omega lin
times->> (pos (suc a)) (pos (suc b)) h k = omega lin
times->> (pos (suc a)) (negsuc b) h k = omega lin
times->> (negsuc a) b h k = omega lin

pub times--+ : (a b : ℤ) → a ≤ℤ pos 0 → pos 0 ≤ℤ b → (a *ℤ b) ≤ℤ pos 0
times--+ a b h k = let p = times-++ (neg_ℤ a) b (omega lin) k in let e = neg_times a b in omega lin

pub times-+- : (a b : ℤ) → pos 0 ≤ℤ a → b ≤ℤ pos 0 → (a *ℤ b) ≤ℤ pos 0
times-+- a b h k = let p = times--+ b a k h in let e = swapped a b in omega lin

pub times--- : (a b : ℤ) → a ≤ℤ pos 0 → b ≤ℤ pos 0 → pos 0 ≤ℤ (a *ℤ b)
times--- a b h k = let p = times-+- (neg_ℤ a) b (omega lin) k in let e = neg_times a b in omega lin

pub times-<> : (a b : ℤ) → a <ℤ pos 0 → pos 0 <ℤ b → (a *ℤ b) <ℤ pos 0
times-<> a b h k = let p = times->> (neg_ℤ a) b (omega lin) k in let e = neg_times a b in omega lin

pub times-<< : (a b : ℤ) → a <ℤ pos 0 → b <ℤ pos 0 → pos 0 <ℤ (a *ℤ b)
times-<< a b h k = let p = times-<> b (neg_ℤ a) k (omega lin) in let e = neg_times a b in let s = swapped b (neg_ℤ a) in omega lin

-- a factor has the sign of the product where the other one is above 0
pub right-> : (a b : ℤ) → pos 0 ≤ℤ a → pos 0 <ℤ (a *ℤ b) → pos 0 <ℤ b
right-> a b h k = by_lt_z (pos 0) b (λ (l : pos 0 <ℤ b). l) (λ (l : b ≤ℤ pos 0). let q = times-+- a b h l in absurd (omega lin))

pub left-> : (a b : ℤ) → pos 0 ≤ℤ b → pos 0 <ℤ (a *ℤ b) → pos 0 <ℤ a
left-> a b h k = let e = swapped a b in right-> b a h (omega lin)

pub right_0 : (a b : ℤ) → pos 0 <ℤ a → a *ℤ b ≡ pos 0 → b ≡ pos 0
right_0 a b h e = by_lt_z (pos 0) b
    (λ (l : pos 0 <ℤ b). let q = times->> a b h l in absurd (omega lin))
    (λ (l : b ≤ℤ pos 0). by_lt_z b (pos 0)
    (λ (m : b <ℤ pos 0). let q = times-<> b a m h in let s = swapped a b in absurd (omega lin))
    (λ (m : pos 0 ≤ℤ b). omega lin))

pub zero_right : (a b : ℤ) → b ≡ pos 0 → a *ℤ b ≡ pos 0
zero_right a b e = rw e (omega lin)

pub zero_left : (a b : ℤ) → a ≡ pos 0 → a *ℤ b ≡ pos 0
zero_left a b e = rw e (omega lin)
