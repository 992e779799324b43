-- The live nodes that stay, one after another, and the new ones behind them.
use Rattle.std.proofs.Common.{◌≡◌, ℕ, ◌+◌, ◌-◌, ◌<◌, ◌≤◌, Bool, true, false, not, cond, List, [], ◌∷◌, ◌++◌, length, map, get_or, take, refl, sym, ap, ap₂, ◌∙◌, arith}
use Rattle.std.specs.List.{filter, range_with_len}
use Rattle.std.proofs.lemmas.List.{append-nil, length-append, length_push, map_push}
use Rattle.std.proofs.lemmas.List.FromFn.{length-range_with_len}
use Rattle.std.proofs.lemmas.List.Elements.{filter_more}
use Rattle.lent.specs.Kept.{Kept, count_of, kept, put, puts}
use Rattle.lent.proofs.Puts.{counted_from_puts, front_from_puts, puts_both, puts_next}
use Rattle.rounds.specs.declared.held.Held.{Held}
use Rattle.rounds.specs.Near.{goes_held, kept_near}

pub kept_none : (marks : List Bool) → [] ≡ kept_near marks []
unfolding kept_near
kept_none marks = refl

module _ (marks : List Bool) (held : List Held) (i : ℕ) (d : Held) (more : i < length held) where
  pub kept_skip : goes_held marks (get_or held i d) ≡ true → kept_near marks (take (i + 1) held) ≡ kept_near marks (take i held)
  unfolding kept_near
  kept_skip h =
      ap (map (λ (h : Held). h.node))
      (filter_more (λ h. not (goes_held marks h)) held i d more
      ∙ ap (λ b. filter (λ h. not (goes_held marks h)) (take i held) ++ cond (not b) (get_or held i d ∷ []) []) h ∙ append-nil _)

  pub kept_push : goes_held marks (get_or held i d) ≡ false
      → kept_near marks (take (i + 1) held) ≡ kept_near marks (take i held) ++ (get_or held i d).node ∷ []
  unfolding kept_near
  kept_push h =
      ap (map (λ (h : Held). h.node))
      (filter_more (λ h. not (goes_held marks h)) held i d more
      ∙ ap (λ b. filter (λ h. not (goes_held marks h)) (take i held) ++ cond (not b) (get_or held i d ∷ []) []) h)
      ∙ map_push (λ (h : Held). h.node) (filter (λ h. not (goes_held marks h)) (take i held)) (get_or held i d)

  pub kept_counted : (n : ℕ) → goes_held marks (get_or held i d) ≡ false → n ≡ length (kept_near marks (take i held))
      → n + 1 ≡ length (kept_near marks (take (i + 1) held))
  kept_counted n h e = ap (λ m. m + 1) e ∙ sym (ap length (kept_push h) ∙ length_push _ _)

pub ruleset counting = (kept_none, kept_skip, kept_counted)

-- one number more is put behind the others
pub kept_put : (marks : List Bool) (held : List Held) (i : ℕ) (d : Held) (k₀ k k' : Kept ℕ) (node : ℕ) → i < length held → goes_held marks (get_or held i d) ≡ false
    → node ≡ (get_or held i d).node → k ≡ puts k₀ (kept_near marks (take i held)) → k' ≡ put k node → k' ≡ puts k₀ (kept_near marks (take (i + 1) held))
kept_put marks held i d k₀ k k' node more stays is e e' =
    puts_next k₀ k k' (kept_near marks (take i held)) node e e'
    ∙ ap (puts k₀) (ap (λ n. kept_near marks (take i held) ++ n ∷ []) is ∙ sym (kept_push marks held i d more stays))

pub ruleset keeping = (kept_none, kept_skip)

-- ---- the list of them all

module _ (table : List ℕ) (kept_numbers : List ℕ) (first fresh from to : ℕ) (k₀ k₁ k₂ : Kept ℕ) (start : k₀ ≡ kept table 0) (stay : k₁ ≡ puts k₀ kept_numbers)
    (join : k₂ ≡ puts k₁ (range_with_len from (to - from))) (low : from ≡ first) (high : to ≡ first + fresh) (room : length kept_numbers + fresh ≤ length table) where
  all : List ℕ
  all = kept_numbers ++ range_with_len first fresh

  put_all : k₂ ≡ puts k₀ all
  unfolding all
  put_all =
      let n : to - from ≡ fresh = omega arith in
      puts_both k₀ k₁ k₂ kept_numbers (range_with_len first fresh) stay (join ∙ ap₂ (λ a m. puts k₁ (range_with_len a m)) low n)

  all_long : length all ≡ length kept_numbers + fresh
  unfolding all
  all_long = length-append kept_numbers (range_with_len first fresh) ∙ ap (λ n. length kept_numbers + n) (length-range_with_len first fresh)

  pub settled_count : (n : ℕ) → n ≡ count_of k₂ → n ≡ length kept_numbers + fresh
  settled_count n counted = counted ∙ counted_from_puts k₂ k₀ table all put_all start (omega (arith, all_long)) ∙ all_long

  -- and what the table holds once the list ends
  pub settled_live : (n : ℕ) → n ≡ count_of k₂ → (final : List ℕ) → final ≡ k₂.items → take n final ≡ kept_numbers ++ range_with_len first fresh
  unfolding all
  settled_live n counted final last =
      ap (take n) last
      ∙ ap (λ m. take m k₂.items) (counted ∙ counted_from_puts k₂ k₀ table all put_all start (omega (arith, all_long)))
      ∙ front_from_puts k₂ k₀ table all put_all start (omega (arith, all_long))
