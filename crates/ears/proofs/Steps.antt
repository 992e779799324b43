-- The steps of a loop that cuts a polygon: the corners that are left stand in front of one list, the triangles that are made in front of another.
use Rattle.std.proofs.Common.{◌≡◌, ℕ, suc, ◌+◌, ◌-◌, ◌<◌, ◌≤◌, List, [], ◌∷◌, ◌++◌, length, map, take, drop, set, remove, Option, Some, None, option_map, option_and_then, sym, refl, ap, ap₂, ◌∙◌, append_assoc, ne_eqb, arith}
use Rattle.std.specs.List.{copy_within}
use Rattle.std.proofs.lemmas.List.{drop-set-lt, length-drop, length-take, map_push, take-append-le, take_all, take_at, take_more_set}
use Rattle.std.proofs.lemmas.Bool.{and_left, cond-false}
use Rattle.std.proofs.lemmas.List.Edits.{length-remove}
use Rattle.plane.specs.Points.{GridPoint}
use Rattle.tiling.specs.Triangles.{Triangle}
use Rattle.plane.specs.declared.Corners.{Corners}
use Rattle.ears.specs.Cutting.{EarCutOff, LastCut, front_of, ear_off, triangle_of}
use Rattle.ears.specs.Ears.{cut_by, cut_of, first_ear, last_cut, triangle_at}

-- ---- a corner goes, and those behind it come forward

pub shifted : (xs ys : List ℕ) (i : ℕ) → i < length xs → ys ≡ copy_within xs (i + 1) (length xs) i → take (length xs - 1) ys ≡ remove xs i
shifted xs ys i inside e =
    let next : i + 1 ≡ suc i = omega arith in
    let all : take (length xs - (i + 1)) (drop (i + 1) xs) ≡ drop (suc i) xs = ap₂ (λ n k. take n (drop k xs)) refl next ∙ take_all (length xs - (i + 1)) (drop (suc i) xs) (omega (arith, length-drop (suc i) xs)) in
    let long : length (remove xs i) ≡ length xs - 1 = omega (arith, length-remove xs i inside) in
    ap (take (length xs - 1)) (e ∙ ap (λ l. (take i xs ++ l) ++ drop (i + (length xs - (i + 1))) xs) all) ∙ take_at (remove xs i) _ (length xs - 1) long

-- and its triangle was the ear's
pub off : (at : ℕ → GridPoint) (cs new : List ℕ) (i : ℕ) (t : Corners) → Some i ≡ first_ear at cs → triangle_of t ≡ triangle_at cs i → take (length cs - 1) new ≡ remove cs i
    → ear_off at cs ≡ Some (triangle_of t, take (length cs - 1) new)
off at cs new i t found corners left = ap (option_map (λ i. (triangle_at cs i, remove cs i))) (sym found) ∙ ap₂ (λ u l. Some (u, l)) (sym corners) (sym left)

-- ---- what is made so far

none_made : (cut : Option (List Triangle)) (table : List Corners) (r : Option ℕ) → cut ≡ None → r ≡ None → cut ≡ front_of table r
none_made cut table r none e = none ∙ ap (front_of table) (sym e)

-- triangles made before those that follow, if they do
abbrev pub ahead : List Triangle → Option (List Triangle) → Option (List Triangle)
ahead ts o = option_map (λ us. ts ++ us) o

ahead_none : (o : Option (List Triangle)) → ahead [] o ≡ o
ahead_none None = refl
ahead_none (Some us) = refl

ahead_more : (ts : List Triangle) (t : Triangle) (o : Option (List Triangle)) → ahead ts (option_map (λ us. t ∷ us) o) ≡ ahead (ts ++ t ∷ []) o
ahead_more ts t None = refl
ahead_more ts t (Some us) = ap Some (sym (append_assoc ts (t ∷ []) us))

module _ (at : ℕ → GridPoint) where
  cut_by_off : (n : ℕ) (cs : List ℕ) → cut_by at (suc n) cs ≡ option_and_then (λ s. option_map (λ us. s.0 ∷ us) (cut_by at n s.1)) (ear_off at cs)
  unfolding cut_by
  cut_by_off n cs = go (first_ear at cs)
    where
      go : (o : Option ℕ) → option_and_then (λ i. option_map (λ us. triangle_at cs i ∷ us) (cut_by at n (remove cs i))) o
          ≡ option_and_then (λ (s : Triangle × List ℕ). option_map (λ us. s.0 ∷ us) (cut_by at n s.1)) (option_map (λ i. (triangle_at cs i, remove cs i)) o)
      go None = refl
      go (Some i) = refl

  pub short : (cs : List ℕ) → length cs < 3 → cut_of at cs ≡ None
  unfolding cut_of cut_by
  short cs h =
      let none : length cs - 3 ≡ 0 = omega arith in
      ap (λ n. cut_by at n cs) none ∙ cond-false _ _ _ (and_left _ _ (ne_eqb (length cs) 3 (λ e. omega arith)))

  -- the cut of all corners is what is made so far, and then the cut of those that are left
  pub record Sofar (old ring : List ℕ) (before table : List Corners) (made : ℕ) : Type 0 where
    pub same : cut_of at old ≡ ahead (map triangle_of (take made table)) (cut_by at (length old - 3 - made) (take (length old - made) ring))
    pub behind : drop (length old - 2) table ≡ drop (length old - 2) before

  pub start : (old : List ℕ) (table : List Corners) → Sofar old old table table 0
  unfolding cut_of
  start old table =
      let n : length old - 3 ≡ length old - 3 - 0 = omega arith in
      record { same = sym (ahead_none _) ∙ ap₂ (λ n l. ahead [] (cut_by at n l)) n (sym (take_all (length old - 0) old (omega arith))); behind = refl }

  module _ (old ring : List ℕ) (before table : List Corners) (made : ℕ) (sofar : Sofar old ring before table made) (long : length ring ≡ length old) where
    abbrev front : List ℕ
    front = take (length old - made) ring

    front_long : length front ≡ length old - made
    front_long = omega (arith, length-take (length old - made) ring)

    pub next : (new : List ℕ) (t : Corners) → made < length old - 3 → made < length table → length new ≡ length front → EarCutOff at front new (Some t)
        → Sofar old (new ++ drop (length old - made) ring) before (set table made t) (made + 1)
    next new t inside room whole cut =
        let n : ℕ = length old - 3 - (made + 1) in
        let steps : length old - 3 - made ≡ suc n = omega arith in
        let fewer : length front - 1 ≡ length old - (made + 1) = omega (arith, front_long) in
        let left : take (length front - 1) new ≡ take (length old - (made + 1)) (new ++ drop (length old - made) ring) =
        ap (λ k. take k new) fewer ∙ sym (take-append-le (length old - (made + 1)) new (drop (length old - made) ring) (omega (arith, front_long))) in
        let one : cut_by at (length old - 3 - made) front ≡ option_map (λ us. triangle_of t ∷ us) (cut_by at n (take (length front - 1) new)) =
        ap (λ k. cut_by at k front) steps ∙ cut_by_off n front ∙ ap (option_and_then (λ s. option_map (λ us. s.0 ∷ us) (cut_by at n s.1))) cut in
        let put : map triangle_of (take made table) ++ triangle_of t ∷ [] ≡ map triangle_of (take (made + 1) (set table made t)) =
        sym (ap (map triangle_of) (take_more_set table made t room) ∙ map_push triangle_of (take made table) t) in
        record {
          same = sofar.same ∙ ap (ahead (map triangle_of (take made table))) one ∙ ahead_more (map triangle_of (take made table)) (triangle_of t) _
              ∙ ap₂ (λ ts l. ahead ts (cut_by at n l)) put left;
          behind = drop-set-lt (length old - 2) table made t (omega (arith, inside)) ∙ sofar.behind;
        }

    pub stuck : (r : Option ℕ) → made < length old - 3 → EarCutOff at front ring None → r ≡ None → cut_of at old ≡ front_of table r
    stuck r inside none answer =
        let n : ℕ = length old - 3 - (made + 1) in
        let steps : length old - 3 - made ≡ suc n = omega arith in
        none_made _ table r
        (sofar.same ∙ ap (ahead (map triangle_of (take made table)))
        (ap (λ k. cut_by at k front) steps ∙ cut_by_off n front ∙ ap (option_and_then (λ s. option_map (λ us. s.0 ∷ us) (cut_by at n s.1))) none))
        answer

    -- the last three corners
    rest : made ≡ length old - 3 → 3 ≤ length old → cut_of at old ≡ ahead (map triangle_of (take made table)) (last_cut at (take 3 ring))
    unfolding cut_by
    rest all several =
        let none : length old - 3 - made ≡ 0 = omega arith in
        let three : length old - made ≡ 3 = omega arith in
        sofar.same ∙ ap₂ (λ n k. ahead (map triangle_of (take made table)) (cut_by at n (take k ring))) none three

    pub bent : (r : Option ℕ) → length old - 3 ≤ made → made ≤ length old - 3 → 3 ≤ length old → LastCut at (take 3 ring) None → r ≡ None → cut_of at old ≡ front_of table r
    bent r from to several none answer = none_made _ table r (rest (omega arith) several ∙ ap (ahead (map triangle_of (take made table))) none) answer

    pub ended : (t : Corners) → length old - 3 ≤ made → made ≤ length old - 3 → 3 ≤ length old → length old - 2 ≤ length table → LastCut at (take 3 ring) (Some t)
        → cut_of at old ≡ Some (map triangle_of (take (length old - 2) (set table (length old - 3) t)))
    ended t from to several room cut =
        let all : made ≡ length old - 3 = omega arith in
        let at_last : length old - 3 < length table = omega arith in
        let count : length old - 3 + 1 ≡ length old - 2 = omega arith in
        let put : take (length old - 2) (set table (length old - 3) t) ≡ take (length old - 3) table ++ t ∷ [] =
        ap (λ k. take k (set table (length old - 3) t)) (sym count) ∙ take_more_set table (length old - 3) t at_last in
        rest all several ∙ ap₂ (λ k o. ahead (map triangle_of (take k table)) o) all cut ∙ ap Some (sym (ap (map triangle_of) put ∙ map_push triangle_of (take (length old - 3) table) t))

    -- what stands behind the triangles stays, also when the last one is made
    pub stays : drop (length old - 2) table ≡ drop (length old - 2) before
    stays = sofar.behind

    pub stays_last : (t : Corners) → 3 ≤ length old → drop (length old - 2) (set table (length old - 3) t) ≡ drop (length old - 2) before
    stays_last t several = drop-set-lt (length old - 2) table (length old - 3) t (omega (arith, several)) ∙ sofar.behind

-- for the loop that cuts a polygon
pub ruleset cutting = (short, next, stuck, bent, ended, stays, stays_last)
