-- A polygon that is cut at its ears: where its list begins does not matter, so an ear can be cut off at any position.
use Rattle.std.proofs.Common.{◌≡◌, ℕ, zero, suc, ◌+◌, ◌-◌, ◌<◌, ◌≤◌, Bool, true, false, cond, ◌&&◌, ◌==◌, drop-cons, eq-eqb, eqb-true, ne_eqb, ℤ, List, [], ◌∷◌, ◌++◌, length, get_or, take, drop, remove, Option, Some, None, option_map, option_and_then, pos, ◌<ℤ◌, int_lt, sym, refl, ap, ap₂, ◌∙◌, subst, inl, inr, append_assoc, append-nil, arith}
use Rattle.std.proofs.lemmas.Bool.{and_parts, cases_eq, cond-false, cond-true}
use Rattle.std.proofs.lemmas.List.{drop_all, get_or-append_right, get_or-drop, get_or-take, get_or_append_left, length-drop, length-take, take_all, take_more, take-append-drop, length-append}
use Rattle.std.proofs.lemmas.List.Edits.{length-remove}
use Rattle.plane.specs.Edges.{In, edge}
use Rattle.plane.specs.Points.{GridPoint}
use Rattle.plane.proofs.Signs.{lin}
use Rattle.tiling.specs.Cuts.{Cut, ear, last, turn}
use Rattle.tiling.specs.Lemmas.{CutSides}
use Rattle.tiling.specs.Triangles.{AllLeftward, Leftward, Triangle, triangle}
use Rattle.tiling.proofs.Cuts.{cut_sides}
use Rattle.ears.specs.Cutting.{CutInto, CutIsCut}
use Rattle.ears.specs.Ears.{after, before, cut_by, cut_of, first_ear, is_ear, is_left, last_cut, triangle_at}
use Rattle.ears.proofs.Searches.{found_in}

-- ---- rotation

-- a list that begins elsewhere
turned : (xs ys : List ℕ) (ts : List Triangle) → Cut (ys ++ xs) ts → Cut (xs ++ ys) ts
turned [] ys ts k = subst (λ l. Cut l ts) (append-nil ys) k
turned (v ∷ xs) ys ts k =
    turn v (xs ++ ys) ts (subst (λ l. Cut l ts) (sym (append_assoc xs ys (v ∷ [])))
    (turned xs (ys ++ v ∷ []) ts (subst (λ l. Cut l ts) (sym (append_assoc ys (v ∷ []) xs)) k)))

-- the corner b put back between the two parts of a list; the list from behind b on goes from c to a
put_back : (xs ys m : List ℕ) (a b c : ℕ) (ts : List Triangle) → ys ++ xs ≡ c ∷ (m ++ a ∷ []) → Cut (xs ++ ys) ts → Cut (xs ++ b ∷ ys) (triangle a b c ∷ ts)
put_back xs ys m a b c ts round k =
    let behind : Cut (c ∷ (m ++ a ∷ [])) ts = subst (λ l. Cut l ts) round (turned ys xs ts k) in
    let whole : Cut (b ∷ (ys ++ xs)) (triangle a b c ∷ ts) =
    subst (λ l. Cut (b ∷ l) (triangle a b c ∷ ts)) (sym round) (turned (b ∷ c ∷ m) (a ∷ []) (triangle a b c ∷ ts) (ear a b c m ts (turn a (c ∷ m) ts behind))) in
    turned xs (b ∷ ys) (triangle a b c ∷ ts) whole

-- ---- the neighbours of a position are the ends of what lies behind it, round to it again

ends : (l : List ℕ) → 2 ≤ length l → (m : List ℕ) × (l ≡ get_or l 0 0 ∷ (m ++ get_or l (length l - 1) 0 ∷ []))
ends [] h = absurd (omega arith)
ends (x ∷ l) h =
    let n : ℕ = length l - 1 in
    let inside : n < length l = omega arith in
    let all : n + 1 ≡ length l = omega arith in
    let at : suc n ≡ length (x ∷ l) - 1 = omega arith in
    (take n l, ap (λ r. x ∷ r) (sym (take_all (n + 1) l (omega arith)) ∙ take_more l n 0 inside) ∙ ap (λ k. x ∷ (take n l ++ get_or (x ∷ l) k 0 ∷ [])) at)

module _ (cs : List ℕ) (i : ℕ) (inside : i < length cs) (several : 3 ≤ length cs) where
  round : List ℕ
  round = drop (suc i) cs ++ take i cs

  long : length round ≡ length cs - 1
  unfolding round
  long = omega (arith, length-append (drop (suc i) cs) (take i cs), length-drop (suc i) cs, length-take i cs)

  first_round : get_or round 0 0 ≡ get_or cs (after (length cs) i) 0
  unfolding round
  first_round =
      elim (cases_eq (i + 1) (length cs)) [
        | inl e ↦ (
            let nothing : drop (suc i) cs ≡ [] = drop_all (suc i) cs (omega arith) in
            ap (λ l. get_or (l ++ take i cs) 0 0) nothing ∙ get_or-take i cs 0 0 (omega arith)
            ∙ ap (λ k. get_or cs k 0) (sym (cond-true ((i + 1) == length cs) 0 (i + 1) (eq-eqb (i + 1) (length cs) e))))
        | inr n ↦ (
            let some : 0 < length (drop (suc i) cs) = omega (arith, length-drop (suc i) cs) in
            let next : suc i + 0 ≡ i + 1 = omega arith in
            get_or_append_left (drop (suc i) cs) (take i cs) 0 0 some ∙ get_or-drop (suc i) cs 0 0
            ∙ ap (λ k. get_or cs k 0) (next ∙ sym (cond-false ((i + 1) == length cs) 0 (i + 1) (ne_eqb (i + 1) (length cs) n))))
      ]

  last_round : get_or round (length round - 1) 0 ≡ get_or cs (before (length cs) i) 0
  unfolding round
  last_round =
      elim (cases_eq i 0) [
        | inl e ↦ (
            let last : length round - 1 < length (drop (suc i) cs) = omega (arith, long, length-drop (suc i) cs) in
            let at : suc i + (length round - 1) ≡ length cs - 1 = omega (arith, long) in
            get_or_append_left (drop (suc i) cs) (take i cs) 0 (length round - 1) last ∙ get_or-drop (suc i) cs (length round - 1) 0
            ∙ ap (λ k. get_or cs k 0) (at ∙ sym (cond-true (i == 0) (length cs - 1) (i - 1) (eq-eqb i 0 e))))
        | inr n ↦ (
            let past : length (drop (suc i) cs) ≤ length round - 1 = omega (arith, long, length-drop (suc i) cs) in
            let at : length round - 1 - length (drop (suc i) cs) ≡ i - 1 = omega (arith, long, length-drop (suc i) cs) in
            get_or-append_right (drop (suc i) cs) (take i cs) (length (drop (suc i) cs)) (length round - 1) 0 refl past
            ∙ ap (λ k. get_or (take i cs) k 0) at ∙ get_or-take i cs (i - 1) 0 (omega arith)
            ∙ ap (λ k. get_or cs k 0) (sym (cond-false (i == 0) (length cs - 1) (i - 1) (ne_eqb i 0 n))))
      ]

  -- a corner cut off with its triangle, whatever its position
  cut_off : (ts : List Triangle) → Cut (remove cs i) ts → Cut cs (triangle_at cs i ∷ ts)
  unfolding round
  cut_off ts k =
      let b : ℕ = get_or cs i 0 in
      let r = ends round (omega (arith, long)) in
      let whole : take i cs ++ b ∷ drop (suc i) cs ≡ cs = ap (λ l. take i cs ++ l) (sym (drop-cons cs i 0 inside)) ∙ take-append-drop i cs in
      subst (λ l. Cut l (triangle_at cs i ∷ ts)) whole
      (put_back (take i cs) (drop (suc i) cs) r.0 _ b _ ts (r.1 ∙ ap₂ (λ c a. c ∷ (r.0 ++ a ∷ [])) first_round last_round) k)

-- ---- the whole cut

abbrev Corners_in : List ℕ → List Triangle → Type 0
Corners_in cs ts = (t : Triangle) → In t ts → In t.a cs × In t.b cs × In t.c cs

corners_in : (cs : List ℕ) (ts : List Triangle) → Cut cs ts → Corners_in cs ts
corners_in cs ts k t i =
    let s : CutSides cs ts = cut_sides cs ts k in
    let ab = s.corners (edge t.a t.b) (t, i, inl refl) in
    let bc = s.corners (edge t.b t.c) (t, i, inr (inl refl)) in
    (ab.0, ab.1, bc.1)

above_0 : (d : ℤ) → int_lt (pos 0) d ≡ true → pos 0 <ℤ d
above_0 d h = grind lin

module _ (at : ℕ → GridPoint) where
  leftward : (t : Triangle) → is_left at t ≡ true → Leftward at t
  leftward t h = above_0 _ h

  first_left : (t : Triangle) (ts : List Triangle) → is_left at t ≡ true → AllLeftward at ts → AllLeftward at (t ∷ ts)
  first_left t ts h l u (inl e) = subst (Leftward at) (sym e) (leftward t h)
  first_left t ts h l u (inr i) = l u i

  last_three : (cs : List ℕ) → length cs ≡ 3 → is_left at (triangle_at cs 1) ≡ true → CutInto at cs (triangle_at cs 1 ∷ [])
  last_three [] n h = absurd (omega arith)
  last_three (a ∷ []) n h = absurd (omega arith)
  last_three (a ∷ b ∷ []) n h = absurd (omega arith)
  last_three (a ∷ b ∷ c ∷ []) n h =
      record {
        cut = last a b c;
        leftward = first_left (triangle a b c) [] h (λ t i. absurd i);
        count = omega arith;
        within = corners_in (a ∷ b ∷ c ∷ []) (triangle a b c ∷ []) (last a b c);
      }
  last_three (a ∷ b ∷ c ∷ d ∷ cs) n h = absurd (omega arith)

  ear_left : (cs : List ℕ) (i : ℕ) → is_ear at cs i ≡ true → is_left at (triangle_at cs i) ≡ true
  unfolding is_ear
  ear_left cs i h = (and_parts _ _ h).0

  more : (cs : List ℕ) (i : ℕ) (ts : List Triangle) → 4 ≤ length cs → first_ear at cs ≡ Some i → CutInto at (remove cs i) ts → CutInto at cs (triangle_at cs i ∷ ts)
  more cs i ts several found rest =
      let r = found_in (is_ear at cs) (length cs) 0 i found in
      let inside : i < length cs = omega (arith, r.1) in
      let k = cut_off cs i inside (omega arith) ts rest.cut in
      record {
        cut = k;
        leftward = first_left (triangle_at cs i) ts (ear_left cs i r.0) rest.leftward;
        count = omega (arith, rest.count, length-remove cs i inside);
        within = corners_in cs (triangle_at cs i ∷ ts) k;
      }

  cut_last : (cs : List ℕ) (ts : List Triangle) → last_cut at cs ≡ Some ts → CutInto at cs ts
  cut_last cs ts e = go (length cs == 3 && is_left at (triangle_at cs 1)) refl e
    where
      go : (b : Bool) → (length cs == 3 && is_left at (triangle_at cs 1)) ≡ b → cond b (Some (triangle_at cs 1 ∷ [])) None ≡ Some ts → CutInto at cs ts
      go true h f =
          let same : triangle_at cs 1 ∷ [] ≡ ts = cc in
          let p = and_parts (length cs == 3) (is_left at (triangle_at cs 1)) h in
          subst (CutInto at cs) same (last_three cs (eqb-true _ _ p.0) p.1)
      go false h f = cc

  -- a polygon of n corners more than three
  cut_more : (n : ℕ) (cs : List ℕ) (ts : List Triangle) → length cs ≡ suc n + 3
      → ((i : ℕ) (us : List Triangle) → i < length cs → cut_by at n (remove cs i) ≡ Some us → CutInto at (remove cs i) us)
      → option_and_then (λ i. option_map (λ us. triangle_at cs i ∷ us) (cut_by at n (remove cs i))) (first_ear at cs) ≡ Some ts → CutInto at cs ts
  cut_more n cs ts long rest e = go (first_ear at cs) refl e
    where
      joined : (i : ℕ) → first_ear at cs ≡ Some i → (o : Option (List Triangle)) → cut_by at n (remove cs i) ≡ o
          → option_map (λ us. triangle_at cs i ∷ us) o ≡ Some ts → CutInto at cs ts
      joined i found None h f = cc
      joined i found (Some us) h f =
          let same : triangle_at cs i ∷ us ≡ ts = cc in
          let inside : i < length cs = omega (arith, (found_in (is_ear at cs) (length cs) 0 i found).1) in
          subst (CutInto at cs) same (more cs i us (omega arith) found (rest i us inside h))

      go : (o : Option ℕ) → first_ear at cs ≡ o
          → option_and_then (λ i. option_map (λ us. triangle_at cs i ∷ us) (cut_by at n (remove cs i))) o ≡ Some ts → CutInto at cs ts
      go None h f = cc
      go (Some i) h f = joined i h (cut_by at n (remove cs i)) refl f

  cut_by_is_cut : (n : ℕ) (cs : List ℕ) (ts : List Triangle) → length cs - 3 ≡ n → cut_by at n cs ≡ Some ts → CutInto at cs ts
  unfolding cut_by
  cut_by_is_cut zero cs ts long e = cut_last cs ts e
  cut_by_is_cut (suc n) cs ts long e =
      cut_more n cs ts (omega arith) (λ i us inside f. cut_by_is_cut n (remove cs i) us (omega (arith, length-remove cs i inside)) f) e

pub cut_is_cut : CutIsCut
unfolding cut_of
cut_is_cut at cs ts e = cut_by_is_cut at (length cs - 3) cs ts refl e
