-- The strokes of a sheet, put one after another into a slice, and the first two of them that touch.
use Rattle.std.proofs.Common.{◌≡◌, ℕ, ◌≤◌, Bool, true, false, cond, List, [], ◌∷◌, ◌++◌, length, map, nat_lt, take, drop, Ok, Err, Result, sym, refl, ap, ◌∙◌, ◌+◌, ◌==◌, ◌&&◌, Some, subst, arith}
use Rattle.std.specs.List.{position}
use Rattle.std.specs.Option.{option_map}
use Rattle.std.proofs.lemmas.Bool.Decides.{nat_tests}
use Rattle.std.proofs.lemmas.Bool.{cond-false}
use Rattle.std.proofs.lemmas.List.{length-map, map-append}
use Rattle.plane.specs.declared.Edge.{Edge}
use Rattle.plane.specs.declared.Point.{Point}
use Rattle.plane.specs.Points.{place_of, vertex_of}
use Rattle.clash.specs.Clashes.{clash_or, first_clash_from, first_clash_in}
use Rattle.refusal.specs.declared.Cause.{Cause}
use Rattle.refusal.specs.declared.Cause.TheVariants.{TableTooShort}
use Rattle.rules.specs.declared.strokes.Stroke.{Stroke}
use Rattle.rules.specs.Rules.{first_listed, later_of, touch}
use Rattle.rules.specs.Strokes.{room_said, stroke_of, strokes_of, strokes_said, strokes_touch}
use Rattle.rules.specs.Segments.{boxes_meet}
use Rattle.rules.proofs.Boxes.{apart_never_meet, end_is_start, ends_shared, start_is_end, starts_shared}
use Rattle.rules.proofs.Positions.{position_cons, position_map}

-- ---- a list of what was made of another one

same_position : {X : Type 0} (p q : X → Bool) (same : (x : X) → p x ≡ q x) (xs : List X) → position p xs ≡ position q xs
same_position p q same [] = refl
same_position p q same (x ∷ xs) =
    position_cons p x xs ∙ ap (λ b. cond b (Some 0) (option_map (λ i. i + 1) (position p xs))) (same x)
    ∙ ap (λ o. cond (q x) (Some 0) (option_map (λ i. i + 1) o)) (same_position p q same xs) ∙ sym (position_cons q x xs)

clash_map_from : {X Y : Type 0} (f : X → Y) (R : Y → Y → Bool) (S : X → X → Bool) (same : (x y : X) → R (f x) (f y) ≡ S x y) (before behind : List X)
    → first_clash_from R (map f before) (map f behind) ≡ first_clash_from S before behind
clash_map_from f R S same before [] = refl
clash_map_from f R S same before (x ∷ behind) =
    let rest = first_clash_from R (map f before ++ f x ∷ []) (map f behind) in
    ap (λ n. clash_or n (position (R (f x)) (map f before)) rest) (length-map before f)
    ∙ ap (λ o. clash_or (length before) o rest) (position_map f (R (f x)) before ∙ same_position (λ y. R (f x) (f y)) (S x) (same x) before)
    ∙ ap (clash_or (length before) (position (S x) before)) (
    ap (λ l. first_clash_from R l (map f behind)) (sym (map-append f before (x ∷ []))) ∙ clash_map_from f R S same (before ++ x ∷ []) behind)

-- ---- strokes with the places of their edges' ends touch as the edges do

by_box : (p m n b : Bool) → (p ≡ true → b ≡ true) → (p ≡ false → n ≡ (b && n)) → cond p m n ≡ (b && cond p m n)
by_box true m n b h k = ap (λ c. c && m) (sym (h refl))
by_box false m n b h k = k refl

same_number : (u v : ℕ) → (u == v) ≡ true → u ≡ v
same_number u v h = grind (arith, nat_tests)

module _ (ps : List Point) (e f : Edge) where
  at : ℕ → Point
  at v = vertex_of ps v

  boxed : ℕ → ℕ → Type 0
  boxed u v = boxes_meet (at e.from) (at e.to) (at u) (at v) ≡ true

  pub touch_by_box : touch (place_of ps) e f ≡ strokes_touch (stroke_of ps e) (stroke_of ps f)
  unfolding at boxed
  touch_by_box =
      let near = boxes_meet (at e.from) (at e.to) (at f.from) (at f.to) in
      by_box (e.from == f.from) _ _ near (λ h. subst (λ v. boxed v f.to) (same_number _ _ h) (starts_shared (at e.from) (at e.to) (at f.to))) (λ h0.
      by_box (e.from == f.to) _ _ near (λ h. subst (λ v. boxed f.from v) (same_number _ _ h) (start_is_end (at e.from) (at e.to) (at f.from))) (λ h1.
      by_box (e.to == f.from) _ _ near (λ h. subst (λ v. boxed v f.to) (same_number _ _ h) (end_is_start (at e.from) (at e.to) (at f.to))) (λ h2.
      by_box (e.to == f.to) _ _ near (λ h. subst (λ v. boxed f.from v) (same_number _ _ h) (ends_shared (at e.from) (at e.to) (at f.from))) (λ h3.
      apart_never_meet (at e.from) (at e.to) (at f.from) (at f.to)))))

touching : (ps : List Point) (es : List Edge) → first_clash_in strokes_touch (strokes_of ps es) ≡ first_clash_in (touch (place_of ps)) (first_listed [] es)
touching ps es = clash_map_from (stroke_of ps) strokes_touch (touch (place_of ps)) (λ e f. sym (touch_by_box ps e f)) [] (first_listed [] es)

-- the front of the slice has the strokes of the first i edges
pub record Drawn (ps : List Point) (es : List Edge) (ss : List Stroke) (n i : ℕ) : Type 0 where
  pub drawn : strokes_of ps es ≡ take n ss ++ map (stroke_of ps) (first_listed (take i es) (drop i es))
  pub room : n ≤ length ss

-- ---- what is told

counted : (room n : ℕ) (m : ℕ) → Ok n ≡ cond (nat_lt room m) (Err TableTooShort) (Ok m) → nat_lt room m ≡ false
counted room n m h = elim (nat_lt room m) as (λ b. ◌≡◌ {A = Result ℕ Cause} (Ok n) (cond b (Err TableTooShort) (Ok m)) → b ≡ false) [ true ↦ λ e. cc | false ↦ λ e. refl ] h

pub strokes_told : (room n : ℕ) (ps : List Point) (es : List Edge) (ss : List Stroke) → Ok n ≡ room_said room (strokes_of ps es) → ss ≡ strokes_of ps es
    → Ok (later_of (first_clash_in strokes_touch ss)) ≡ strokes_said room ps es
strokes_told room n ps es ss h e =
    let fits = counted room n (length (strokes_of ps es)) h in
    let fewer = ap (nat_lt room) (sym (length-map (first_listed [] es) (stroke_of ps))) ∙ fits in
    ap (λ c. Ok (later_of c)) (ap (first_clash_in strokes_touch) e ∙ touching ps es)
    ∙ sym (cond-false _ _ _ fewer)
