-- Whether an edge is listed, looked for from either end; and the first edge whose reverse is not.
use Rattle.std.proofs.Common.{◌-◌, add-one, drop-cons, take-append-drop, ◌≡◌, ℕ, ◌+◌, ◌<◌, Bool, true, false, cond, not, ◌||◌, List, [], ◌∷◌, length, get_or, take, drop, Option, Some, None, refl, sym, ap, ◌∙◌, arith}
use Rattle.std.specs.List.{list_any, position}
use mathlib.Core.List.{reverse, reverse-cons}
use Rattle.std.specs.Option.{option_map}
use Rattle.std.proofs.lemmas.List.Folds.{list_any-append}
use Rattle.std.proofs.lemmas.Grind.{common_steps}
use Rattle.plane.specs.declared.Edge.{Edge}
use Rattle.plane.specs.Edges.{back, edge, same_edge}
use Rattle.rules.specs.Rules.{is_listed}
use Rattle.rules.proofs.Positions.{position_cons}

or_turned : (a b : Bool) → (a || b) ≡ (b || a)
or_turned true true = refl
or_turned true false = refl
or_turned false true = refl
or_turned false false = refl

or_none : (a : Bool) → (a || false) ≡ a
or_none true = refl
or_none false = refl

any_reverse : {X : Type 0} (p : X → Bool) (xs : List X) → list_any p (reverse xs) ≡ list_any p xs
any_reverse p [] = refl
any_reverse p (x ∷ xs) =
    ap (list_any p) (reverse-cons x xs) ∙ list_any-append p (reverse xs) (x ∷ [])
    ∙ ap (λ b. b || (p x || false)) (any_reverse p xs) ∙ or_turned (list_any p xs) (p x || false) ∙ ap (λ b. b || list_any p xs) (or_none (p x))

pub listed_backwards : (es : List Edge) (e : Edge) → list_any (same_edge e) (reverse es) ≡ is_listed es e
listed_backwards es e = any_reverse (same_edge e) es

near : (es : List Edge) (i : ℕ) (e : Edge) → is_listed es e ≡ (is_listed (take i es) e || is_listed (drop i es) e)
near es i e = ap (list_any (same_edge e)) (sym (take-append-drop i es)) ∙ list_any-append (same_edge e) (take i es) (drop i es)

pub listed_behind : (es : List Edge) (i : ℕ) (e : Edge) (said : Bool) → said ≡ true → said ≡ is_listed (take i es) e → said ≡ is_listed es e
listed_behind es i e said found is = found ∙ sym (near es i e ∙ ap (λ b. b || is_listed (drop i es) e) (sym is ∙ found))

whole : {X : Type 0} (xs : List X) (i : ℕ) → take (length xs - i) (drop i xs) ≡ drop i xs
whole xs i = grind (arith, common_steps)

pub listed_ahead : (es : List Edge) (i : ℕ) (e : Edge) (said ahead : Bool) → said ≡ false → said ≡ is_listed (take i es) e
    → ahead ≡ is_listed (take (length es - i) (drop i es)) e → ahead ≡ is_listed es e
listed_ahead es i e said ahead missed is told =
    told ∙ ap (λ l. is_listed l e) (whole es i) ∙ sym (near es i e ∙ ap (λ b. b || is_listed (drop i es) e) (sym is ∙ missed))

-- ---- the edges from i on

-- the first of the edges from i on whose reverse is not listed at all
abbrev pub alone_from : List Edge → ℕ → Option ℕ
alone_from es i = option_map (λ k. i + k) (position (λ e. not (is_listed es (back e))) (drop i es))

moved : (b : Bool) (i : ℕ) (o : Option ℕ) → option_map (λ k. i + k) (cond b (Some 0) (option_map (λ k. k + 1) o)) ≡ cond b (Some i) (option_map (λ k. i + 1 + k) o)
moved true i o = ap Some (omega arith)
moved false i None = refl
moved false i (Some k) = ap Some (omega arith)

alone_more : (es : List Edge) (i : ℕ) → i < length es
    → alone_from es i ≡ cond (not (is_listed es (back (get_or es i (edge 0 0))))) (Some i) (alone_from es (i + 1))
alone_more es i inside =
    let e = get_or es i (edge 0 0) in
    let p : Edge → Bool = λ e. not (is_listed es (back e)) in
    ap (λ l. option_map (λ k. i + k) (position p l)) (rw (← add-one i) at (drop-cons es i (edge 0 0) inside))
    ∙ ap (option_map (λ k. i + k)) (position_cons p e (drop (i + 1) es))
    ∙ moved (p e) i (position p (drop (i + 1) es))

pub alone_here : (es : List Edge) (i : ℕ) (b : Edge) → i < length es → b ≡ back (get_or es i (edge 0 0)) → false ≡ is_listed es b → alone_from es i ≡ Some i
alone_here es i b inside is found = alone_more es i inside ∙ ap (λ b. cond (not b) (Some i) (alone_from es (i + 1))) (sym (rw is at found))

pub alone_later : (es : List Edge) (i : ℕ) (b : Edge) → i < length es → b ≡ back (get_or es i (edge 0 0)) → true ≡ is_listed es b → alone_from es i ≡ alone_from es (i + 1)
alone_later es i b inside is found = alone_more es i inside ∙ ap (λ b. cond (not b) (Some i) (alone_from es (i + 1))) (sym (rw is at found))
