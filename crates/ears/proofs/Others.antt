-- The corners at other positions than one and the two beside it: a list in one or two parts.
use Rattle.std.proofs.Common.{◌≡◌, ℕ, zero, suc, ◌+◌, ◌-◌, ◌<◌, ◌≤◌, ◌==◌, ◌⊎◌, Bool, true, false, not, ◌&&◌, ◌||◌, List, length, get_or, take, drop, refl, sym, ap, ap₂, ◌∙◌, drop-cons, eq-eqb, ne_eqb, inl, inr, ⊎_elim, arith}
use Rattle.std.specs.List.{list_any, range_with_len}
use Rattle.std.proofs.lemmas.Bool.{cases_eq, cond-false, cond-true, or_from, or_left, or_right}
use Rattle.plane.specs.declared.Point.{Point}
use Rattle.ears.specs.declared.shape.Shape.{Shape}
use Rattle.ears.specs.Ears.{after, before, is_other}
use Rattle.ears.specs.Shapes.{blocks_in_box, holds_in_box}

-- ---- a test of positions in a range

range_any : (q : ℕ → Bool) (from k m l : ℕ) → from + k ≡ m → list_any q (range_with_len from (k + l)) ≡ (list_any q (range_with_len from k) || list_any q (range_with_len m l))
range_any q from zero m l e =
    let none : 0 + l ≡ l = omega arith in
    let here : from ≡ m = omega arith in
    ap₂ (λ n k. list_any q (range_with_len n k)) here none
range_any q from (suc k) m l e =
    let more : suc k + l ≡ suc (k + l) = omega arith in
    ap (λ n. list_any q (range_with_len from n)) more
    ∙ ap (λ b. q from || b) (range_any q (from + 1) k m l (omega arith))
    ∙ or_again (q from) _ _
  where
    or_again : (a b c : Bool) → (a || (b || c)) ≡ ((a || b) || c)
    or_again true b c = refl
    or_again false b c = refl

range_none : (q : ℕ → Bool) (from k : ℕ) → ((j : ℕ) → from ≤ j → j < from + k → q j ≡ false) → list_any q (range_with_len from k) ≡ false
range_none q from zero h = refl
range_none q from (suc k) h = or_from (q from) _ (h from (omega arith) (omega arith)) (range_none q (from + 1) k (λ j low high. h j (omega arith) (omega arith)))

-- a test of the corners there
pub range_corners : (q p : ℕ → Bool) (cs : List ℕ) (from k : ℕ) → from + k ≤ length cs → ((j : ℕ) → from ≤ j → j < from + k → q j ≡ p (get_or cs j 0))
    → list_any q (range_with_len from k) ≡ list_any p (take k (drop from cs))
range_corners q p cs from zero room same = refl
range_corners q p cs from (suc k) room same =
    let next : suc from ≡ from + 1 = omega arith in
    ap₂ ◌||◌ (same from (omega arith) (omega arith)) (range_corners q p cs (from + 1) k (omega arith) (λ j low high. same j (omega arith) (omega arith)))
    ∙ sym (ap (λ l. list_any p (take (suc k) l)) (drop-cons cs from 0 (omega arith)) ∙ ap (λ n. p (get_or cs from 0) || list_any p (take k (drop n cs))) next)

-- ---- the other positions

abbrev apart : (b i a j : ℕ) → Bool
apart b i a j = not (j == b || (j == i || j == a))

apart_from : (b i a j : ℕ) → ¬ (j ≡ b) → ¬ (j ≡ i) → ¬ (j ≡ a) → apart b i a j ≡ true
apart_from b i a j nb ni na = ap not (or_from _ _ (ne_eqb j b nb) (or_from _ _ (ne_eqb j i ni) (ne_eqb j a na)))

not_apart : (b i a j : ℕ) → (¬ (j ≡ b) → ¬ (j ≡ i) → ¬ (j ≡ a) → ⊥) → apart b i a j ≡ false
not_apart b i a j one =
    elim (cases_eq j b) [
      | inl e ↦ ap not (or_left _ _ (eq-eqb j b e))
      | inr nb ↦ elim (cases_eq j i) [
        | inl e ↦ ap not (or_right _ _ (or_left _ _ (eq-eqb j i e)))
        | inr ni ↦ elim (cases_eq j a) [
          | inl e ↦ ap not (or_right _ _ (or_right _ _ (eq-eqb j a e)))
          | inr na ↦ absurd (one nb ni na)
        ]
      ]
    ]

-- a test of the corners at other positions
abbrev others_any : (ℕ → Bool) → List ℕ → ℕ → Bool
others_any p cs i = list_any (λ j. is_other (length cs) i j && p (get_or cs j 0)) (range_with_len 0 (length cs))

module _ (p : ℕ → Bool) (cs : List ℕ) (i b a : ℕ) (is_before : before (length cs) i ≡ b) (is_after : after (length cs) i ≡ a) where
  abbrev test : ℕ → Bool
  test j = is_other (length cs) i j && p (get_or cs j 0)

  by_ends : (j : ℕ) → test j ≡ (apart b i a j && p (get_or cs j 0))
  by_ends j = ap₂ (λ b a. apart b i a j && p (get_or cs j 0)) is_before is_after

  tested : (j : ℕ) → ¬ (j ≡ b) → ¬ (j ≡ i) → ¬ (j ≡ a) → test j ≡ p (get_or cs j 0)
  tested j nb ni na = by_ends j ∙ ap (λ t. t && p (get_or cs j 0)) (apart_from b i a j nb ni na)

  untested : (j : ℕ) → (¬ (j ≡ b) → ¬ (j ≡ i) → ¬ (j ≡ a) → ⊥) → test j ≡ false
  untested j one = by_ends j ∙ ap (λ t. t && p (get_or cs j 0)) (not_apart b i a j one)

  -- k of them in a row, and no others
  window : (from k : ℕ) → from + k ≤ length cs → ((j : ℕ) → j < from → ¬ (j ≡ b) → ¬ (j ≡ i) → ¬ (j ≡ a) → ⊥)
      → ((j : ℕ) → from + k ≤ j → j < length cs → ¬ (j ≡ b) → ¬ (j ≡ i) → ¬ (j ≡ a) → ⊥)
      → ((j : ℕ) → from ≤ j → j < from + k → (¬ (j ≡ b)) × (¬ (j ≡ i)) × (¬ (j ≡ a)))
      → others_any p cs i ≡ list_any p (take k (drop from cs))
  window from k long low high middle =
      let l : ℕ = length cs - (from + k) in
      let all : length cs ≡ from + (k + l) = omega arith in
      ap (λ n. list_any test (range_with_len 0 n)) all
      ∙ range_any test 0 from from (k + l) (omega arith)
      ∙ ap₂ ◌||◌ (range_none test 0 from (λ j h₀ h. untested j (low j (omega arith))))
      (range_any test from k (from + k) l refl ∙ ap₂ ◌||◌ (range_corners test p cs from k (omega arith) (λ j h h'. let m = middle j h h' in tested j m.0 m.1 m.2))
      (range_none test (from + k) l (λ j h h'. untested j (high j h (omega arith)))))
      ∙ or_false _
    where
      or_false : (x : Bool) → (x || false) ≡ x
      or_false true = refl
      or_false false = refl

  -- those before m and those from k on, and not the three between
  gap : (m k : ℕ) → m + 3 ≡ k → k ≤ length cs → ((j : ℕ) → m ≤ j → j < k → ¬ (j ≡ b) → ¬ (j ≡ i) → ¬ (j ≡ a) → ⊥)
      → ((j : ℕ) → (j < m) ⊎ (k ≤ j) → (¬ (j ≡ b)) × (¬ (j ≡ i)) × (¬ (j ≡ a)))
      → others_any p cs i ≡ (list_any p (take m cs) || list_any p (take (length cs - k) (drop k cs)))
  gap m k three room between outside =
      let l : ℕ = length cs - k in
      let all : length cs ≡ m + (3 + l) = omega arith in
      ap (λ n. list_any test (range_with_len 0 n)) all
      ∙ range_any test 0 m m (3 + l) (omega arith)
      ∙ ap₂ ◌||◌ (range_corners test p cs 0 m (omega arith) (λ j h h'. let o = outside j (inl (omega arith)) in tested j o.0 o.1 o.2))
      (range_any test m 3 k l three ∙ ap₂ ◌||◌ (range_none test m 3 (λ j h h'. untested j (between j h (omega arith))))
      (range_corners test p cs k l (omega arith) (λ j h h'. let o = outside j (inr h) in tested j o.0 o.1 o.2)))

-- ---- so they are those behind i or before it, or both

module _ (ps : List Point) (s : Shape) (cs : List ℕ) (i : ℕ) (r : Bool) (several : 3 ≤ length cs) where
  abbrev blocked : Bool
  blocked = list_any (blocks_in_box ps s cs i) (range_with_len 0 (length cs))

  pub at_first : i ≡ 0 → r ≡ list_any (holds_in_box ps s) (take (length cs - 1 - 2) (drop 2 cs)) → r ≡ blocked
  at_first e told =
      let is_before : before (length cs) i ≡ length cs - 1 = cond-true _ _ _ (eq-eqb i 0 e) in
      let is_after : after (length cs) i ≡ 1 = cond-false _ _ _ (ne_eqb (i + 1) (length cs) (λ h. omega arith)) ∙ ap (λ n. n + 1) e in
      told ∙ sym (window (holds_in_box ps s) cs i (length cs - 1) 1 is_before is_after 2 (length cs - 1 - 2) (omega arith)
      (λ j h nb ni na. grind arith) (λ j h h' nb ni na. grind arith) (λ j h h'. (λ x. omega arith, λ x. omega arith, λ x. omega arith)))

  pub at_last : i ≡ length cs - 1 → r ≡ list_any (holds_in_box ps s) (take (length cs - 1 - 1 - 1) (drop 1 cs)) → r ≡ blocked
  at_last e told =
      let is_before : before (length cs) i ≡ length cs - 1 - 1 = cond-false _ _ _ (ne_eqb i 0 (λ h. omega arith)) ∙ ap (λ n. n - 1) e in
      let is_after : after (length cs) i ≡ 0 = cond-true _ _ _ (eq-eqb (i + 1) (length cs) (omega arith)) in
      told ∙ sym (window (holds_in_box ps s) cs i (length cs - 1 - 1) 0 is_before is_after 1 (length cs - 1 - 1 - 1) (omega arith)
      (λ j h nb ni na. grind arith) (λ j h h' nb ni na. grind arith) (λ j h h'. (λ x. omega arith, λ x. omega arith, λ x. omega arith)))

  module _ (not_first : i ≡ 0 → ⊥) (not_last : i ≡ length cs - 1 → ⊥) (inside : i < length cs) where
    inner : blocked ≡ (list_any (holds_in_box ps s) (take (i - 1) cs) || list_any (holds_in_box ps s) (take (length cs - (i + 2)) (drop (i + 2) cs)))
    inner =
        let is_before : before (length cs) i ≡ i - 1 = cond-false _ _ _ (ne_eqb i 0 not_first) in
        let is_after : after (length cs) i ≡ i + 1 = cond-false _ _ _ (ne_eqb (i + 1) (length cs) (λ h. not_last (omega arith))) in
        let several_before : 1 ≤ i = grind arith in
        let several_behind : i + 2 ≤ length cs = grind arith in
        gap (holds_in_box ps s) cs i (i - 1) (i + 1) is_before is_after (i - 1) (i + 2) (omega arith) several_behind (λ j h h' nb ni na. grind arith)
        (λ j o. (λ x. ⊎_elim (λ h. omega arith) (λ h. omega arith) o, λ x. ⊎_elim (λ h. omega arith) (λ h. omega arith) o, λ x. ⊎_elim (λ h. omega arith) (λ h. omega arith) o))

    pub in_front : r ≡ true → r ≡ list_any (holds_in_box ps s) (take (i - 1) cs) → r ≡ blocked
    in_front held told = held ∙ sym (inner ∙ or_left _ _ (sym told ∙ held))

    pub behind : (front : Bool) → front ≡ false → front ≡ list_any (holds_in_box ps s) (take (i - 1) cs) → r ≡ list_any (holds_in_box ps s) (take (length cs - (i + 2)) (drop (i + 2) cs)) → r ≡ blocked
    behind front free front_told told = told ∙ sym (inner ∙ ap (λ x. x || list_any (holds_in_box ps s) (take (length cs - (i + 2)) (drop (i + 2) cs))) (sym front_told ∙ free))

-- for the test of the others
pub ruleset told_by_parts = (at_first, at_last, in_front, behind)
