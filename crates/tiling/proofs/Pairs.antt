-- Edges that stand with their reverses cancel.
use Rattle.std.proofs.Common.{◌≡◌, suc, ◌≤◌, ◌⊎◌, List, [], ◌∷◌, map, length, ℤ, ◌+ℤ◌, neg_ℤ, sym, refl, ap, ◌∙◌, inl, inr, arith}
use mathlib.Core.Logic.{⊎_map}
use lib.ListN.{length-map}
use Rattle.plane.specs.declared.Edge.{Edge}
use Rattle.plane.specs.Edges.{In, Once, back, sum_of}
use Rattle.plane.proofs.Signs.{lin}
use Rattle.tiling.specs.Lemmas.{Odd, PairedSum}
use Rattle.tiling.proofs.Lists.{in_map}

module _ {X : Type 0} where
  -- what is left of l when x is taken out
  record Without (x : X) (l : List X) : Type 0 where
    rest : List X
    shorter : length l ≡ suc (length rest)
    sums : (f : X → ℤ) → sum_of f l ≡ f x +ℤ sum_of f rest
    others : (y : X) → In y l → (y ≡ x) ⊎ In y rest

  without : (x : X) (l : List X) → In x l → Without x l
  without x [] i = absurd i
  without x (y ∷ l) (inl e) = record {
    rest = l;
    shorter = refl;
    sums = λ f. ap (λ (z : X). f z +ℤ sum_of f l) (sym e);
    others = λ z. elim [ inl h ↦ inl (h ∙ sym e) | inr j ↦ inr j ];
  }
  without x (y ∷ l) (inr i) = let o = without x l i in record {
    rest = y ∷ o.rest;
    shorter = ap suc o.shorter;
    sums = λ f. let h = o.sums f in omega lin;
    others = λ z. elim [ inl h ↦ inr (inl h) | inr j ↦ ⊎_map (λ h. h) inr (o.others z j) ];
  }

  -- a list that holds all of l and is no longer than l has the sum of l, if no element of l stands twice
  same_sum : (f : X → ℤ) (l m : List X) → Once l → ((x : X) → In x l → In x m) → length m ≤ length l → sum_of f l ≡ sum_of f m
  same_sum f [] [] o s n = refl
  same_sum f [] (y ∷ m) o s n = absurd (omega arith)
  same_sum f (x ∷ l) m o s n =
      let w = without x m (s x (inl refl)) in
      let h = w.shorter in
      let kept : (y : X) → In y l → In y w.rest = λ y i. elim (w.others y (s y (inr i))) [
        | inl e ↦ absurd (o.0 (rw e at i))
        | inr j ↦ j
      ] in
      ap (λ (t : ℤ). f x +ℤ t) (same_sum f l w.rest o.1 kept (omega arith)) ∙ sym (w.sums f)

sum_backs : (f : Edge → ℤ) → Odd f → (l : List Edge) → sum_of f (map back l) ≡ neg_ℤ (sum_of f l)
sum_backs f odd [] = refl
sum_backs f odd (e ∷ l) = let h = odd e in let k = sum_backs f odd l in omega lin

-- the list and the list of its reverses have the same elements, so the sum is its own opposite
pub paired_sum : PairedSum
paired_sum f odd l o s =
    let n = length-map l back in
    let h = same_sum f l (map back l) o (λ e i. in_map back (back e) l (s e i)) (omega arith) ∙ sum_backs f odd l in
    omega lin
