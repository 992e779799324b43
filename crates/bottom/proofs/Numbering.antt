-- A table numbered from 0 on.
use Rattle.std.proofs.Common.{◌≡◌, ℕ, ◌-◌, ◌≤◌, List, length, ap, ◌∙◌, arith}
use Rattle.std.specs.List.{range_with_len}
use Rattle.std.proofs.lemmas.List.FromFn.{length-range_with_len}
use Rattle.lent.specs.Kept.{Kept, kept, over, puts}
use Rattle.lent.proofs.Puts.{over_from_puts}

-- what the table holds once the list ends
pub numbered : (k₁ : Kept ℕ) (items new final : List ℕ) (count n : ℕ) → kept new n ≡ puts k₁ (range_with_len 0 (count - 0)) → k₁ ≡ kept items 0 → count ≤ length items
    → final ≡ new → final ≡ over (range_with_len 0 count) items
numbered k₁ items new final count n e first room last =
    let all : count - 0 ≡ count = omega arith in
    let long = length-range_with_len 0 count in
    last ∙ over_from_puts (kept new n) k₁ items (range_with_len 0 count) (e ∙ ap (λ m. puts k₁ (range_with_len 0 m)) all) first (omega (arith, long))
