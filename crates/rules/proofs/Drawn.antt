-- Each edge of a sheet is drawn, in the direction that is listed first.
use Rattle.std.proofs.Common.{◌≡◌, suc, Bool, true, false, ◌⊎◌, List, [], ◌∷◌, ◌++◌, refl, sym, ◌∙◌, subst, inl, inr, arith}
use Rattle.std.proofs.lemmas.Bool.{cond-false, cond-true, cases_Bool}
use Rattle.plane.specs.declared.Edge.{Edge}
use Rattle.plane.specs.Edges.{In, back, same_edge}
use Rattle.clash.specs.Clashes.{IsFree}
use Rattle.tiling.proofs.Lists.{in_split}
use Rattle.rules.specs.Rules.{drawn_edges, first_listed, is_listed}
use Rattle.sheet.specs.Sheets.{Sheet, edges_of}
use Rattle.rules.proofs.Elements.{all_in, some_passes}
use Rattle.rules.proofs.Orders.{same_edge_true}

-- the edge is in the list, in one direction or the other
abbrev pub Has : List Edge → Edge → Type 0
Has l e = In e l ⊎ In (back e) l

pub has_more : (l : List Edge) (x e : Edge) → Has l e → Has (x ∷ l) e
has_more l x e (inl i) = inl (inr i)
has_more l x e (inr i) = inr (inr i)

-- what is in a list with one edge more is in the list, or is that edge
has_split : (l : List Edge) (x e : Edge) → Has (l ++ x ∷ []) e → Has l e ⊎ ((e ≡ x) ⊎ (back e ≡ x))
has_split l x e (inl i) = elim (in_split e l (x ∷ []) i) [ inl j ↦ inl (inl j) | inr (inl q) ↦ inr (inl q) | inr (inr n) ↦ absurd n ]
has_split l x e (inr i) = elim (in_split (back e) l (x ∷ []) i) [ inl j ↦ inl (inr j) | inr (inl q) ↦ inr (inr q) | inr (inr n) ↦ absurd n ]

pub listed_back : (before : List Edge) (x : Edge) → is_listed before (back x) ≡ true → In (back x) before
listed_back before x h = let r = some_passes (same_edge (back x)) before h in subst (λ f. In f before) (same_edge_true (back x) r.0 r.2) r.1

has_back : (l : List Edge) (x e : Edge) → In (back x) l → (e ≡ x) ⊎ (back e ≡ x) → Has l e
has_back l x e i (inl q) = inr (subst (λ y. In (back y) l) (sym q) i)
has_back l x e i (inr q) = inl (subst (λ y. In (back y) l) (sym q) i)

-- an edge that is listed now was listed before, or is drawn
Drawn : List Edge → List Edge → Edge → Type 0
Drawn before drawn e = Has before e ⊎ Has drawn e

drawn_skip : (before drawn : List Edge) (x e : Edge) → In (back x) before → Drawn (before ++ x ∷ []) drawn e → Drawn before drawn e
unfolding Drawn
drawn_skip before drawn x e i (inl h) = elim (has_split before x e h) [ inl j ↦ inl j | inr q ↦ inl (has_back before x e i q) ]
drawn_skip before drawn x e i (inr h) = inr h

drawn_more : (before drawn : List Edge) (x e : Edge) → Drawn (before ++ x ∷ []) drawn e → Drawn before (x ∷ drawn) e
unfolding Drawn
drawn_more before drawn x e (inl h) = elim (has_split before x e h) [ inl j ↦ inl j | inr (inl q) ↦ inr (inl (inl q)) | inr (inr q) ↦ inr (inr (inl q)) ]
drawn_more before drawn x e (inr h) = inr (has_more drawn x e h)

module _ (before es : List Edge) (x e : Edge) where
  drawn_step : Drawn (before ++ x ∷ []) (first_listed (before ++ x ∷ []) es) e → Drawn before (first_listed before (x ∷ es)) e
  drawn_step h =
      let drawn = first_listed (before ++ x ∷ []) es in
      elim (cases_Bool (is_listed before (back x))) [
        | inl t ↦ subst (λ l. Drawn before l e) (sym (cond-true (is_listed before (back x)) drawn (x ∷ drawn) t)) (drawn_skip before drawn x e (listed_back before x t) h)
        | inr f ↦ subst (λ l. Drawn before l e) (sym (cond-false (is_listed before (back x)) drawn (x ∷ drawn) f)) (drawn_more before drawn x e h)
      ]

  -- the edge that is looked at now stands at the end of the longer front
  first_now : Drawn (before ++ x ∷ []) (first_listed (before ++ x ∷ []) es) x
  unfolding Drawn
  first_now = inl (inl (last before))
    where
      last : (l : List Edge) → In x (l ++ x ∷ [])
      last [] = inl refl
      last (y ∷ l) = inr (last l)

drawn_from : (before es : List Edge) (e : Edge) → In e es → Drawn before (first_listed before es) e
drawn_from before [] e i = absurd i
drawn_from before (x ∷ es) e (inl q) = subst (Drawn before (first_listed before (x ∷ es))) (sym q) (drawn_step before es x x (first_now before es x x))
drawn_from before (x ∷ es) e (inr i) = drawn_step before es x e (drawn_from (before ++ x ∷ []) es e i)

pub has_drawn : (s : Sheet) (e : Edge) → In e (edges_of s) → Has (drawn_edges s) e
unfolding Drawn
has_drawn s e i = elim (drawn_from [] (edges_of s) e i) [ inl (inl n) ↦ absurd n | inl (inr n) ↦ absurd n | inr h ↦ h ]

-- of two elements that do not clash, one comes first, or they are one
module _ {X : Type 0} (clashes : X → X → Bool) where
  pub two_free : (xs : List X) → IsFree clashes xs → (x y : X) → In x xs → In y xs → (x ≡ y) ⊎ ((clashes x y ≡ false) ⊎ (clashes y x ≡ false))
  two_free [] free x y i j = absurd i
  two_free (z ∷ xs) free x y (inl p) (inl q) = inl (p ∙ sym q)
  two_free (z ∷ xs) free x y (inl p) (inr j) =
      inr (inr (subst (λ u. clashes y u ≡ false) (sym p) (all_in (λ u. clashes u z ≡ false) xs (λ k d inside. free 0 (suc k) d (omega arith) (omega arith)) y j)))
  two_free (z ∷ xs) free x y (inr i) (inl q) =
      inr (inl (subst (λ u. clashes x u ≡ false) (sym q) (all_in (λ u. clashes u z ≡ false) xs (λ k d inside. free 0 (suc k) d (omega arith) (omega arith)) x i)))
  two_free (z ∷ xs) free x y (inr i) (inr j) = two_free xs (λ k l d h inside. free (suc k) (suc l) d (omega arith) (omega arith)) x y i j
