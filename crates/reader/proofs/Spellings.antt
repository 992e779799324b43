-- A number is read exactly where it stands in its one spelling.
use Rattle.std.proofs.Common.{◌≡◌, ℕ, ◌+◌, ◌-◌, ◌*◌, ◌/◌, ◌%◌, ◌<◌, ◌≤◌, List, [], ◌∷◌, length, get_or, take, drop, Ok, sym, refl, ap, ◌∙◌, ⊎_elim, arith}
use native.Mathlib.Nat.{add-mul-mod_self_left}
use Rattle.std.proofs.lemmas.List.{drop_more, get_or-drop, get_or-take, length-drop, length-take}
use Rattle.std.proofs.lemmas.Bool.{cases_lt, cond-true, cond-false, lt-ltb, le-ltb}
use Rattle.std.proofs.lemmas.Bool.Decides.{nat_tests}
use Rattle.reader.specs.Kinds.{part}
use Rattle.reader.specs.Number.{number, spelling}
use Rattle.reader.specs.Spelled.{Bytes, Stands}

spell_1 : (v : ℕ) → v < 128 → spelling v ≡ v ∷ []
spell_1 v h = cond-true _ _ _ (lt-ltb v 128 h)

spell_2 : (v : ℕ) → 128 ≤ v → v < 16384 → spelling v ≡ (128 + v % 128) ∷ (v / 128) ∷ []
spell_2 v h k = cond-false _ _ _ (le-ltb v 128 h) ∙ cond-true _ _ _ (lt-ltb v 16384 k)

spell_3 : (v : ℕ) → 16384 ≤ v → spelling v ≡ (128 + v % 128) ∷ (128 + v / 128 % 128) ∷ (v / 16384) ∷ []
spell_3 v h = cond-false _ _ _ (le-ltb v 128 (omega arith)) ∙ cond-false _ _ _ (le-ltb v 16384 h)

module _ (file : List ℕ) (at : ℕ) where
  front_1 : at < length file → take 1 (drop at file) ≡ get_or file at 0 ∷ []
  front_1 h = ap (take 1) (drop_more file at 0 h)

  front_2 : at + 1 < length file → take 2 (drop at file) ≡ get_or file at 0 ∷ get_or file (at + 1) 0 ∷ []
  front_2 h = ap (take 2) (drop_more file at 0 (omega arith) ∙ ap (λ l. get_or file at 0 ∷ l) (drop_more file (at + 1) 0 h))

  front_3 : at + 2 < length file → take 3 (drop at file) ≡ get_or file at 0 ∷ get_or file (at + 1) 0 ∷ get_or file (at + 2) 0 ∷ []
  front_3 h =
      let e : at + 1 + 1 ≡ at + 2 = omega arith in
      ap (take 3)
      (drop_more file at 0 (omega arith)
      ∙ ap (λ l. get_or file at 0 ∷ l)
      (drop_more file (at + 1) 0 (omega arith) ∙ ap (λ k. get_or file (at + 1) 0 ∷ drop k file) e ∙ ap (λ l. get_or file (at + 1) 0 ∷ l) (drop_more file (at + 2) 0 h)))

  -- the three forms
  pub stands_1 : (v next : ℕ) → at < length file → next ≡ at + 1 → v ≡ get_or file at 0 → v < 128 → Stands file at v next
  stands_1 v next h e f s =
      let p = spell_1 v s in
      record { small = omega arith; there = rw p (front_1 h ∙ ap (λ x. x ∷ []) (sym f)); behind = rw p e }

  pub stands_2 : (v next a b : ℕ) → at + 1 < length file → next ≡ at + 2 → a ≡ get_or file at 0 → b ≡ get_or file (at + 1) 0 → v ≡ (a - 128) + 128 * b
      → 128 ≤ a → a < 256 → 0 < b → b < 128 → Stands file at v next
  stands_2 v next a b h e f g q i j k l =
      let p = spell_2 v (omega arith) (omega arith) in
      let x : 128 + v % 128 ≡ a = omega arith in
      let y : v / 128 ≡ b = omega arith in
      record { small = omega arith; there = rw p (front_2 h ∙ cc); behind = rw p e }

  pub stands_3 : (v next a b c : ℕ) → at + 2 < length file → next ≡ at + 3 → a ≡ get_or file at 0 → b ≡ get_or file (at + 1) 0 → c ≡ get_or file (at + 2) 0
      → v ≡ (a - 128) + 128 * (b - 128) + 16384 * c → 128 ≤ a → a < 256 → 128 ≤ b → b < 256 → 0 < c → c < 128 → Stands file at v next
  stands_3 v next a b c h e f g o q i j k l m n =
      let p = spell_3 v (omega arith) in
      let x : 128 + v % 128 ≡ a = omega arith in
      let w : v / 128 ≡ (b - 128) + 128 * c = omega arith in
      let r = add-mul-mod_self_left (b - 128) 128 c in
      let s : (b - 128) % 128 ≡ b - 128 = omega arith in
      let y : 128 + v / 128 % 128 ≡ b = ap (λ t. 128 + t % 128) w ∙ ap (λ t. 128 + t) (r ∙ s) ∙ omega arith in
      let z : v / 16384 ≡ c = omega arith in
      record { small = omega arith; there = rw p (front_3 h ∙ cc); behind = rw p e }

pub read_stands : (file : List ℕ) (at v next : ℕ) → Bytes file → number file at ≡ Ok (v, next) → Stands file at v next
read_stands file at v next small h =
    let a = get_or file at 0 in
    let b = get_or file (at + 1) 0 in
    let c = get_or file (at + 2) 0 in
    let sa = small at in
    let sb = small (at + 1) in
    ⊎_elim
    (λ (l₀ : at < length file).
    ⊎_elim
    (λ (l₁ : get_or file at 0 < 128). stands_1 file at v next l₀ (grind (arith, nat_tests)) (grind (arith, nat_tests)) (grind (arith, nat_tests)))
    (λ (g₁ : 128 ≤ get_or file at 0).
    ⊎_elim
    (λ (l₂ : at + 1 < length file).
    ⊎_elim
    (λ (l₃ : get_or file (at + 1) 0 < 128).
    let z : 0 < get_or file (at + 1) 0 = grind (arith, nat_tests) in
    stands_2 file at v next a b l₂ (grind (arith, nat_tests)) refl refl (grind (arith, nat_tests)) g₁ sa z l₃)
    (λ (g₃ : 128 ≤ get_or file (at + 1) 0).
    ⊎_elim
    (λ (l₄ : at + 2 < length file).
    let y : get_or file (at + 2) 0 < 128 = grind (arith, nat_tests) in
    let z : 0 < get_or file (at + 2) 0 = grind (arith, nat_tests) in
    stands_3 file at v next a b c l₄ (grind (arith, nat_tests)) refl refl refl (grind (arith, nat_tests)) g₁ sa g₃ sb z y)
    (λ (g₄ : length file ≤ at + 2). absurd (grind (arith, nat_tests)))
    (cases_lt (at + 2) (length file)))
    (cases_lt (get_or file (at + 1) 0) 128))
    (λ (g₂ : length file ≤ at + 1). absurd (grind (arith, nat_tests)))
    (cases_lt (at + 1) (length file)))
    (cases_lt (get_or file at 0) 128))
    (λ (g₀ : length file ≤ at). absurd (grind (arith, nat_tests)))
    (cases_lt at (length file))

module _ (file : List ℕ) (at : ℕ) where
  at_part : (n i : ℕ) → i < n → get_or (part file at n) i 0 ≡ get_or file (at + i) 0
  at_part n i h = get_or-take n (drop at file) i 0 h ∙ get_or-drop at file i 0

  long_part : (n : ℕ) → 0 < n → length (part file at n) ≡ n → at + n ≤ length file
  long_part n z h = let l = length-take n (drop at file) in let d = length-drop at file in omega arith

  reads_1 : (v next : ℕ) → v < 128 → part file at 1 ≡ v ∷ [] → next ≡ at + 1 → number file at ≡ Ok (v, next)
  reads_1 v next h p e =
      let l = long_part 1 (omega arith) (ap length p) in
      let z : at + 0 ≡ at = omega arith in
      let a : get_or file at 0 ≡ v = rw z at (sym (at_part 1 0 (omega arith)) ∙ ap (λ s. get_or s 0 0) p) in
      grind (arith, nat_tests)

  reads_2 : (v next a b : ℕ) → v ≡ (a - 128) + 128 * b → 128 ≤ a → 0 < b → b < 128 → part file at 2 ≡ a ∷ b ∷ [] → next ≡ at + 2 → number file at ≡ Ok (v, next)
  reads_2 v next a b q h k j p e =
      let l = long_part 2 (omega arith) (ap length p) in
      let z : at + 0 ≡ at = omega arith in
      let f : get_or file at 0 ≡ a = rw z at (sym (at_part 2 0 (omega arith)) ∙ ap (λ s. get_or s 0 0) p) in
      let g : get_or file (at + 1) 0 ≡ b = sym (at_part 2 1 (omega arith)) ∙ ap (λ s. get_or s 1 0) p in
      grind (arith, nat_tests)

  reads_3 : (v next a b c : ℕ) → v ≡ (a - 128) + 128 * (b - 128) + 16384 * c → 128 ≤ a → 128 ≤ b → 0 < c → c < 128 → part file at 3 ≡ a ∷ b ∷ c ∷ [] → next ≡ at + 3
      → number file at ≡ Ok (v, next)
  reads_3 v next a b c q h i k j p e =
      let l = long_part 3 (omega arith) (ap length p) in
      let z : at + 0 ≡ at = omega arith in
      let f : get_or file at 0 ≡ a = rw z at (sym (at_part 3 0 (omega arith)) ∙ ap (λ s. get_or s 0 0) p) in
      let g : get_or file (at + 1) 0 ≡ b = sym (at_part 3 1 (omega arith)) ∙ ap (λ s. get_or s 1 0) p in
      let o : get_or file (at + 2) 0 ≡ c = sym (at_part 3 2 (omega arith)) ∙ ap (λ s. get_or s 2 0) p in
      grind (arith, nat_tests)

  pub stands_read : (v next : ℕ) → Stands file at v next → number file at ≡ Ok (v, next)
  stands_read v next s =
      let t = s.there in
      let e = s.behind in
      let m = s.small in
      ⊎_elim
      (λ (l : v < 128). let p = spell_1 v l in reads_1 v next l (rw p at t) (rw p at e))
      (λ (g : 128 ≤ v).
      ⊎_elim
      (λ (k : v < 16384).
      let p = spell_2 v g k in
      reads_2 v next (128 + v % 128) (v / 128) (omega arith) (omega arith) (omega arith) (omega arith) (rw p at t) (rw p at e))
      (λ (i : 16384 ≤ v).
      let p = spell_3 v i in
      let d : v / 16384 ≡ v / 128 / 128 = omega arith in
      let whole : v ≡ (128 + v % 128 - 128) + 128 * (128 + v / 128 % 128 - 128) + 16384 * (v / 16384) = omega arith in
      reads_3 v next (128 + v % 128) (128 + v / 128 % 128) (v / 16384) whole (omega arith) (omega arith) (omega arith) (omega arith) (rw p at t) (rw p at e))
      (cases_lt v 16384))
      (cases_lt v 128)
