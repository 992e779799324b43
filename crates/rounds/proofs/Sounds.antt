-- What is found when one vertex after another is looked at.
use Rattle.std.proofs.Common.{◌≡◌, ℕ, zero, suc, ◌+◌, ◌-◌, ◌<◌, ◌≤◌, ◌⊎◌, Bool, true, false, not, cond, ◌&&◌, ◌||◌, List, [], ◌∷◌, ◌++◌, length, get_or, nat_le, set, replicate, Option, Some, None, Ok, Err, Result, is_some, refl, sym, ap, subst, ◌∙◌, append_assoc, inl, inr, arith}
use Rattle.std.specs.List.{list_any}
use Rattle.std.proofs.lemmas.Bool.{and_parts, cases_order, true≢false}
use Rattle.std.proofs.lemmas.Bool.Decides.{nat_tests}
use Rattle.std.proofs.lemmas.List.{append-nil, get_or-set_other, get_or-set_same, length-append, length-map, length-replicate}
use Rattle.plane.specs.Points.{GridPoint}
use Rattle.tiling.specs.Triangles.{Triangle}
use Rattle.ears.specs.Ears.{cut_of}
use Rattle.ears.proofs.Rotations.{cut_is_cut}
use Rattle.fans.specs.declared.around.Turned.{Turned}
use Rattle.fans.specs.Fans.{fan_of, is_whole, ring_of}
use Rattle.nodes.specs.declared.node.Node.{Node}
use Rattle.rounds.specs.declared.held.Held.{Held}
use Rattle.rounds.specs.Choices.{Found, closed, closed_fan, chosen_too, is_choice, is_marked, judge, look, look_on, nothing_found, passed}
use Rattle.rounds.specs.Near.{IsFew, Sound, closing_near, closings_near, look_near, near}

-- ---- the corners of a fan that are marked

pub any_marked : (marks : List Bool) (links : List Turned) → list_any (is_marked marks) (ring_of links) ≡ list_any (λ (t : Turned). is_marked marks t.next) links
any_marked marks [] = refl
any_marked marks (t ∷ links) = ap (λ b. is_marked marks t.next || b) (any_marked marks links)

-- ---- the nodes that close the holes of the first so many

module _ (at : ℕ → GridPoint) (held : List Held) where
  abbrev pub closing_at : List Bool → ℕ → List Node
  closing_at marks v = cond (is_marked marks v) (closing_near at held v) []

  closings_next : (marks : List Bool) (n v : ℕ) → closings_near at held marks (suc n) v ≡ closings_near at held marks n v ++ closing_at marks (v + n)
  unfolding closings_near
  closings_next marks zero v = append-nil _ ∙ ap (closing_at marks) (omega arith)
  closings_next marks (suc n) v =
      ap (λ ns. closing_at marks v ++ ns) (closings_next marks n (v + 1) ∙ ap (λ u. closings_near at held marks n (v + 1) ++ closing_at marks u) (omega arith))
      ∙ sym (append_assoc (closing_at marks v) (closings_near at held marks n (v + 1)) (closing_at marks (v + suc n)))

  closings_more : (marks : List Bool) (n v : ℕ) → closings_near at held marks (n + 1) v ≡ closings_near at held marks n v ++ closing_at marks (v + n)
  closings_more marks n v = let e : n + 1 ≡ suc n = omega arith in ap (λ k. closings_near at held marks k v) e ∙ closings_next marks n v

  closings_same : (marks others : List Bool) (n v : ℕ) → ((u : ℕ) → u < v + n → is_marked others u ≡ is_marked marks u)
      → closings_near at held others n v ≡ closings_near at held marks n v
  unfolding closings_near
  closings_same marks others zero v h = refl
  closings_same marks others (suc n) v h =
      ap (λ b. cond b (closing_near at held v) [] ++ closings_near at held others n (v + 1)) (h v (omega arith))
      ∙ ap (λ ns. cond (is_marked marks v) (closing_near at held v) [] ++ ns) (closings_same marks others n (v + 1) (λ u l. h u (omega arith)))

  -- ---- one vertex more

  module _ (n : ℕ) (f : Found) (s : Sound at held n f) where
    -- it is not marked
    unmarked : (left : ℕ) → left ≤ f.left + 1 → Sound at held (n + 1) (record { marks = f.marks; chosen = f.chosen; left = left; fresh = f.fresh })
    unmarked left l =
        let none : is_marked f.marks (4 + n) ≡ false = s.later (4 + n) (omega arith) in
        let chosen = s.chosen in
        let before = s.left in
        record {
          later = λ u h. s.later u (omega arith);
          few = s.few;
          fresh =
              ap length (closings_more f.marks n 4 ∙ ap (λ b. closings_near at held f.marks n 4 ++ cond b (closing_near at held (4 + n)) []) none ∙ append-nil _)
              ∙ s.fresh;
          most = s.most;
          chosen = omega arith;
          left = omega arith;
        }

    -- it is marked: its fan has so many nodes, and so many close its hole
    module _ (k : ℕ) (inside : 4 + n < length f.marks) (three : 3 ≤ k) (eight : k ≤ 8) (few : IsFew (fan_of (near held (4 + n))))
        (count : length (closing_near at held (4 + n)) ≡ k - 2) where
      abbrev marks : List Bool
      marks = set f.marks (4 + n) true

      here : is_marked marks (4 + n) ≡ true
      here = get_or-set_same f.marks (4 + n) true false inside

      other : (u : ℕ) → (u < 4 + n) ⊎ (4 + n < u) → is_marked marks u ≡ is_marked f.marks u
      other u h = get_or-set_other f.marks (4 + n) u true false (omega (arith, h))

      few_at : (u : ℕ) → (u ≡ 4 + n) ⊎ ((u < 4 + n) ⊎ (4 + n < u)) → is_marked marks u ≡ true → IsFew (fan_of (near held u))
      few_at u (inl same) h = rw same few
      few_at u (inr apart) h = s.few u (sym (other u apart) ∙ h)

      marked : Sound at held (n + 1) (chosen_too (4 + n) k f)
      marked =
          let chosen = s.chosen in
          let left = s.left in
          let most = s.most in
          let before = s.fresh in
          record {
            later = λ u h. other u (inr (omega arith)) ∙ s.later u (omega arith);
            few = λ u h. few_at u (cases_order u (4 + n)) h;
            fresh =
                ap length
                (closings_more marks n 4
                ∙ ap (λ b. closings_near at held marks n 4 ++ cond b (closing_near at held (4 + n)) []) here
                ∙ ap (λ ns. ns ++ closing_near at held (4 + n)) (closings_same f.marks marks n 4 (λ u l. other u (inl l))))
                ∙ length-append _ _ ∙ ap (λ m. m + length (closing_near at held (4 + n))) s.fresh ∙ ap (λ m. f.fresh + m) count;
            most = omega arith;
            chosen = omega arith;
            left = omega arith;
          }

    -- whatever is found at it
    module _ (g : Found) (inside : 4 + n < length f.marks) where
      as_chosen : (ts es : List Turned) → near held (4 + n) ≡ ts → fan_of ts ≡ Some es → is_choice at f.marks ts es ≡ true
          → chosen_too (4 + n) (length ts) f ≡ g → Sound at held (n + 1) g
      as_chosen ts es around fan choice same =
          let p = and_parts ((nat_le 3 (length ts) && nat_le (length ts) 8) && is_whole ts es) _ choice in
          let q = and_parts (nat_le 3 (length ts) && nat_le (length ts) 8) (is_whole ts es) p.0 in
          let r = and_parts (nat_le 3 (length ts)) (nat_le (length ts) 8) q.0 in
          let least = r.0 in
          let most = r.1 in
          let whole = q.1 in
          let cut = (and_parts (is_some (cut_of at (ring_of es))) (not (list_any (is_marked f.marks) (ring_of es))) p.1).0 in
          let three : 3 ≤ length ts = grind (arith, nat_tests) in
          let eight : length ts ≤ 8 = grind (arith, nat_tests) in
          let all : length es ≡ length ts = grind (arith, nat_tests) in
          let fan_here : fan_of (near held (4 + n)) ≡ Some es = ap fan_of around ∙ fan in
          let few : IsFew (Some es) = omega arith in
          subst (Sound at held (n + 1)) same
          (marked (length ts) inside three eight (subst IsFew (sym fan_here) few)
          (ap (λ o. length (closed_fan at [] [] o)) fan_here ∙ told (cut_of at (ring_of es)) refl cut all))
        where
          told : (o : Option (List Triangle)) → cut_of at (ring_of es) ≡ o → is_some (cut_of at (ring_of es)) ≡ true → length es ≡ length ts
              → length (closed at [] [] es (cut_of at (ring_of es))) ≡ length ts - 2
          told None e h l = cc
          told (Some us) e h l =
              let count = (cut_is_cut at (ring_of es) us e).count in
              let ring : length (ring_of es) ≡ length es = length-map es (λ (t : Turned). t.next) in
              ap (λ o. length (closed at [] [] es o)) e ∙ length-map us _ ∙ omega arith

      judged : (ts es : List Turned) → near held (4 + n) ≡ ts → fan_of ts ≡ Some es → (b : Bool) → is_choice at f.marks ts es ≡ b
          → cond b (chosen_too (4 + n) (length ts) f) (passed f) ≡ g → Sound at held (n + 1) g
      judged ts es around fan true choice same = as_chosen ts es around fan choice same
      judged ts es around fan false choice same = subst (Sound at held (n + 1)) same (unmarked (f.left + 1) (omega arith))

      with_fan : (ts : List Turned) (o : Option (List Turned)) → near held (4 + n) ≡ ts → fan_of ts ≡ o → Ok g ≡ judge at (4 + n) ts f o
          → Sound at held (n + 1) g
      with_fan ts None around fan h = cc
      with_fan ts (Some es) around fan h = judged ts es around fan (is_choice at f.marks ts es) refl cc

      with_around : (ts : List Turned) → near held (4 + n) ≡ ts → Ok g ≡ look at (4 + n) ts f → Sound at held (n + 1) g
      with_around [] around h = let same : f ≡ g = cc in subst (Sound at held (n + 1)) same (unmarked f.left (omega arith))
      with_around (t ∷ ts) around h = with_fan (t ∷ ts) (fan_of (t ∷ ts)) around refl h

-- ---- all of them, one after another

-- what is found up to here leaves as much as there was
pub record Looked (at : ℕ → GridPoint) (held : List Held) (n i : ℕ) (f : Found) : Type 0 where
  pub same : look_near at held n 4 (nothing_found (n + 4)) ≡ look_near at held (n - i) (4 + i) f
  pub sound : Sound at held i f
  pub long : length f.marks ≡ n + 4

module _ (at : ℕ → GridPoint) (held : List Held) where
  none_marked : (n u : ℕ) → get_or (replicate n false) u false ≡ false
  none_marked zero u = refl
  none_marked (suc n) zero = refl
  none_marked (suc n) (suc u) = none_marked n u

  none_sound : (n : ℕ) → Sound at held 0 (nothing_found (n + 4))
  unfolding closings_near
  none_sound n =
      record {
        later = λ u h. none_marked (n + 4) u;
        few = λ u h. absurd (true≢false (sym h ∙ none_marked (n + 4) u));
        fresh = refl;
        most = omega arith;
        chosen = omega arith;
        left = omega arith;
      }

  pub looked_none : (n : ℕ) (f : Found) → nothing_found (n + 4) ≡ f → Looked at held n 0 f
  looked_none n f h =
      subst (Looked at held n 0) h
      (record {
        same = ap (λ k. look_near at held k 4 (nothing_found (n + 4))) (omega arith);
        sound = none_sound n;
        long = length-replicate (n + 4) false;
      })

  module _ (n i : ℕ) (f : Found) (l : Looked at held n i f) where
    looked_on : i < n → (r : Result Found ℕ) → r ≡ look at (4 + i) (near held (4 + i)) f
        → look_near at held n 4 (nothing_found (n + 4)) ≡ look_on at r (look_near at held (n - (i + 1)) (4 + (i + 1)))
    unfolding look_near
    looked_on more r h =
        let steps : n - i ≡ suc (n - (i + 1)) = omega arith in
        let next : 4 + i + 1 ≡ 4 + (i + 1) = omega arith in
        l.same ∙ ap (λ k. look_near at held k (4 + i) f) steps
        ∙ ap (λ v. look_on at (look at (4 + i) (near held (4 + i)) f) (look_near at held (n - (i + 1)) v)) next
        ∙ ap (λ r. look_on at r (look_near at held (n - (i + 1)) (4 + (i + 1)))) (sym h)

    pub looked_more : (g : Found) → i < n → Ok g ≡ look at (4 + i) (near held (4 + i)) f → length g.marks ≡ n + 4 → Looked at held n (i + 1) g
    looked_more g more h long =
        let width = l.long in
        record {
          same = looked_on more (Ok g) h;
          sound = with_around at held i f l.sound g (omega arith) (near held (4 + i)) refl h;
          long = long;
        }

    pub looked_skip : i < n → near held (4 + i) ≡ [] → Looked at held n (i + 1) f
    looked_skip more none = looked_more f more (sym (ap (λ ts. look at (4 + i) ts f) none)) l.long

    pub looked_ends : (v : ℕ) → i < n → Err v ≡ look at (4 + i) (near held (4 + i)) f → look_near at held n 4 (nothing_found (n + 4)) ≡ Err v
    looked_ends v more h = looked_on more (Err v) h

    pub looked_all : n ≤ i → i ≤ n → (look_near at held n 4 (nothing_found (n + 4)) ≡ Ok f) × Sound at held n f
    unfolding look_near
    looked_all past within =
        let none : n - i ≡ 0 = omega arith in
        let end : i ≡ n = omega arith in
        (l.same ∙ ap (λ k. look_near at held k (4 + i) f) none, subst (λ k. Sound at held k f) end l.sound)
