-- Numbers of nodes that a store does not have.
use Rattle.std.proofs.Common.{◌≡◌, ℕ, zero, suc, ◌+◌, ◌<◌, ◌≤◌, ◌&&◌, false, cond, List, [], ◌∷◌, length, nat_lt, slice_index, take, Some, None, Option, refl, sym, ap, ◌∙◌, inl, inr, arith}
use Rattle.std.proofs.lemmas.Bool.{cases_lt, cond-false}
use Rattle.std.proofs.lemmas.Bool.Decides.{nat_tests}
use Rattle.plane.specs.declared.Point.{Point}
use Rattle.plane.specs.Points.{Spot, vertex_of}
use Rattle.sheet.specs.Sheets.{corners}
use Rattle.checking.specs.Entries.{is_inside}
use Rattle.sheet.specs.declared.tables.Size.{Size}
use Rattle.walk.specs.Walks.{told_from, vertex_known, vertex_read}
use Rattle.std.specs.Option.{ok_or}
use Rattle.std.proofs.lemmas.List.{get_or_past}
use Rattle.nodes.specs.declared.node.Node.{Node}
use Rattle.nodes.specs.Nodes.{blank, number_in, numbers}

blank_zero : (i : ℕ) → slice_index (numbers blank) i ≡ 0
blank_zero zero = refl
blank_zero (suc zero) = refl
blank_zero (suc (suc zero)) = refl
blank_zero (suc (suc (suc zero))) = refl
blank_zero (suc (suc (suc (suc zero)))) = refl
blank_zero (suc (suc (suc (suc (suc zero))))) = refl
blank_zero (suc (suc (suc (suc (suc (suc i)))))) = refl

pub number_past : (nodes : List Node) (k i : ℕ) → length nodes ≤ k → number_in nodes k i ≡ 0
number_past nodes k i h = ap (λ (n : Node). slice_index (numbers n) i) (get_or_past nodes k blank h) ∙ blank_zero i

-- the points of a sheet are the first of a table
not_below : (x y : ℕ) → y ≤ x → nat_lt x y ≡ false
not_below x y h = grind (arith, nat_tests)

first_same : (ps : List Point) (n v : ℕ) → v < n → vertex_of (take n ps) v ≡ vertex_of ps v
first_same [] zero v h = refl
first_same [] (suc n) v h = refl
first_same (p ∷ ps) zero v h = absurd (omega (arith, h))
first_same (p ∷ ps) (suc n) zero h = refl
first_same (p ∷ ps) (suc n) (suc v) h = first_same ps n v (omega (arith, h))

known_same : (z : Size) (ps : List Point) (v : ℕ) → vertex_known z (take (z.inner + 4) ps) v ≡ vertex_known z ps v
known_same z ps v = ap (λ o. cond (nat_lt v 4) (Some (vertex_of (corners z.width z.height) v)) o) inner
  where
    here : Point → Option Point
    here q = cond (nat_lt v (z.inner + 4) && is_inside z q) (Some q) None

    outside : (q : Point) → z.inner + 4 ≤ v → here q ≡ None
    outside q h = ap (λ b. cond (b && is_inside z q) (Some q) None) (not_below v (z.inner + 4) h)

    inner : here (vertex_of (take (z.inner + 4) ps) v) ≡ here (vertex_of ps v)
    inner = elim (cases_lt v (z.inner + 4)) [
      | inl h ↦ ap here (first_same ps (z.inner + 4) v h)
      | inr h ↦ outside (vertex_of (take (z.inner + 4) ps) v) h ∙ sym (outside (vertex_of ps v) h)
    ]

pub read_front : (z : Size) (ps : List Point) → vertex_read z (take (z.inner + 4) ps) ≡ vertex_read z ps
read_front z ps i node v = ok_or (known_same z ps v i) (cond (nat_lt v (z.inner + 4)) v node)

-- so the walk over them is the same
pub told_front : (z : Size) (ps qs : List Point) (tip : Option Spot) (nodes : List Node) (loops : ℕ) (tops : List ℕ) → qs ≡ take (z.inner + 4) ps
    → told_from (vertex_read z qs) tip nodes loops tops ≡ told_from (vertex_read z ps) tip nodes loops tops
told_front z ps qs tip nodes loops tops h =
    ap (λ qs. told_from (vertex_read z qs) tip nodes loops tops) h ∙ ap (λ r. told_from r tip nodes loops tops) (read_front z ps)
