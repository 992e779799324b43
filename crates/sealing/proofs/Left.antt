-- The vertices that are left, counted one after another.
use Rattle.std.proofs.Common.{◌≡◌, ◌≢◌, ℕ, suc, ◌+◌, ◌-◌, ◌<◌, true, false, cond, List, min, nat_lt, sym, ap, ◌∙◌, arith}
use Rattle.std.proofs.lemmas.Bool.{cond-false, cond-true}
use Rattle.std.proofs.lemmas.Bool.Decides.{nat_tests}
use Rattle.fans.specs.Around.{degree, left_from}
use Rattle.nodes.specs.declared.node.Node.{Node}

module _ (nodes : List Node) (live : List ℕ) (n v left total t : ℕ) (inside : v < n) (h : left + left_from nodes live (n - v) (v + 4) ≡ total)
    (count : t ≡ min 65535 (degree nodes live (v + 4))) where
  here : left + (cond (nat_lt 0 (degree nodes live (v + 4))) 1 0 + left_from nodes live (n - (v + 1)) (v + 1 + 4)) ≡ total
  here =
      let k : n - v ≡ suc (n - (v + 1)) = omega (arith, inside) in
      let w : v + 4 + 1 ≡ v + 1 + 4 = omega arith in
      sym (ap (λ j. left + left_from nodes live j (v + 4)) k ∙ ap (λ j. left + (cond (nat_lt 0 (degree nodes live (v + 4))) 1 0 + left_from nodes live (n - (v + 1)) j)) w) ∙ h

  pub some_left : t ≢ 0 → left + 1 + left_from nodes live (n - (v + 1)) (v + 1 + 4) ≡ total
  some_left more =
      let one : cond {A = ℕ} (nat_lt 0 (degree nodes live (v + 4))) 1 0 ≡ 1 = cond-true _ 1 0 (above t (degree nodes live (v + 4)) count more) in
      let e = here in
      omega (arith, one, e)
    where
      above : (t d : ℕ) → t ≡ min 65535 d → t ≢ 0 → nat_lt 0 d ≡ true
      above t d e more = grind (arith, nat_tests)

  pub none_left : t ≡ 0 → left + left_from nodes live (n - (v + 1)) (v + 1 + 4) ≡ total
  none_left none =
      let zero : cond {A = ℕ} (nat_lt 0 (degree nodes live (v + 4))) 1 0 ≡ 0 = cond-false _ 1 0 (nothing t (degree nodes live (v + 4)) count none) in
      let e = here in
      omega (arith, zero, e)
    where
      nothing : (t d : ℕ) → t ≡ min 65535 d → t ≡ 0 → nat_lt 0 d ≡ false
      nothing t d e none = grind (arith, nat_tests)
