-- The corners of a loop, one after the other.
use Rattle.std.proofs.Common.{add-one, drop-cons, ◌≡◌, ℕ, ◌+◌, ◌<◌, Bool, true, false, cond, eqb, ◌||◌, List, [], ◌∷◌, ◌++◌, length, get_or, map, take, drop, is_some, Option, Some, None, refl, sym, ap, ◌∙◌, arith}
use Rattle.std.specs.List.{list_any, position}
use Rattle.std.specs.Option.{option_map}
use Rattle.std.proofs.lemmas.Bool.Decides.{nat_tests}
use Rattle.std.proofs.lemmas.List.{map-append}
use Rattle.std.proofs.lemmas.Grind.{common_steps}
use Rattle.plane.specs.declared.Edge.{Edge}
use Rattle.plane.specs.Edges.{edge}
use Rattle.clash.specs.declared.ClashAt.{ClashAt}
use Rattle.clash.specs.Clashes.{clash_or, first_clash_from}
use Rattle.rules.specs.Held.{starts_at}
use Rattle.rules.proofs.Positions.{position_cons}

-- a corner before that has the same vertex
one_more : (b l : Bool) (o : Option ℕ) → is_some o ≡ l → is_some (cond b (Some 0) (option_map (λ i. i + 1) o)) ≡ (b || l)
one_more true l o h = refl
one_more false l None h = h
one_more false l (Some i) h = h

named_before : (v : ℕ) (es : List Edge) → is_some (position (eqb v) (map (λ (e : Edge). e.from) es)) ≡ list_any (starts_at v) es
named_before v [] = refl
named_before v (e ∷ es) =
    ap is_some (position_cons (eqb v) e.from (map (λ (e : Edge). e.from) es))
    ∙ one_more (eqb v e.from) (list_any (starts_at v) es) (position (eqb v) (map (λ (e : Edge). e.from) es)) (named_before v es)
    ∙ ap (λ b. b || list_any (starts_at v) es) (grind (arith, nat_tests))

or_clash : (k : ℕ) (at : Option ℕ) (behind : Option ClashAt) → is_some (clash_or k at behind) ≡ (is_some at || is_some behind)
or_clash k None behind = refl
or_clash k (Some i) behind = refl

-- one corner more
pub twice_from : List Edge → List Edge → Bool
twice_from before behind = is_some (first_clash_from eqb (map (λ (e : Edge). e.from) before) (map (λ (e : Edge). e.from) behind))

next_corner : (before behind : List Edge) (e : Edge) → twice_from before (e ∷ behind) ≡ (list_any (starts_at e.from) before || twice_from (before ++ e ∷ []) behind)
unfolding twice_from
next_corner before behind e =
    let rest : List ℕ → Bool = λ cs. is_some (first_clash_from eqb cs (map (λ (e : Edge). e.from) behind)) in
    let starts = map (λ (e : Edge). e.from) before in
    or_clash (length starts) (position (eqb e.from) starts) (first_clash_from eqb (starts ++ e.from ∷ []) (map (λ (e : Edge). e.from) behind))
    ∙ ap (λ b. b || rest (starts ++ e.from ∷ [])) (named_before e.from before)
    ∙ ap (λ cs. list_any (starts_at e.from) before || rest cs) (sym (map-append (λ (e : Edge). e.from) before (e ∷ [])))

-- what the corners up to k leave to those that follow
abbrev pub left_twice : List Edge → ℕ → Bool
left_twice es k = is_some (first_clash_from eqb (map (λ (e : Edge). e.from) (take k es)) (map (λ (e : Edge). e.from) (drop k es)))

twice_more : (es : List Edge) (k : ℕ) → k < length es
    → left_twice es k ≡ (list_any (starts_at (get_or es k (edge 0 0)).from) (take k es) || left_twice es (k + 1))
unfolding twice_from
twice_more es k inside =
    let e = get_or es k (edge 0 0) in
    ap (twice_from (take k es)) (rw (← add-one k) at (drop-cons es k (edge 0 0) inside))
    ∙ next_corner (take k es) (drop (k + 1) es) e
    ∙ ap (λ before. list_any (starts_at e.from) (take k es) || twice_from before (drop (k + 1) es)) (grind (arith, common_steps))

pub twice_here : (es : List Edge) (k v : ℕ) → k < length es → v ≡ (get_or es k (edge 0 0)).from → true ≡ list_any (starts_at v) (take k es) → left_twice es k ≡ true
twice_here es k v inside is named =
    twice_more es k inside ∙ ap (λ b. b || left_twice es (k + 1)) (sym (rw is at named))

pub twice_later : (es : List Edge) (k v : ℕ) → k < length es → v ≡ (get_or es k (edge 0 0)).from → false ≡ list_any (starts_at v) (take k es) → left_twice es k ≡ left_twice es (k + 1)
twice_later es k v inside is named =
    twice_more es k inside ∙ ap (λ b. b || left_twice es (k + 1)) (sym (rw is at named))
