-- The fan, one entry after another.
use Rattle.std.proofs.Common.{◌≡◌, ℕ, zero, suc, ◌+◌, ◌-◌, ◌<◌, ◌≤◌, ◌==◌, Bool, true, false, cond, List, [], ◌∷◌, ◌++◌, length, map, take, drop, set, append_assoc, Some, None, Option, refl, sym, ap, ◌∙◌, subst, inl, inr, arith}
use Rattle.std.specs.Option.{option_map}
use Rattle.std.proofs.lemmas.Bool.Decides.{nat_tests}
use Rattle.std.proofs.lemmas.List.{drop-set-lt, length-set, length-take-le, take_more_set}
use Rattle.std.proofs.lemmas.List.Quantifiers.{position-Some}
use Rattle.std.proofs.lemmas.Option.{none-some, same_Some}
use Rattle.plane.specs.declared.Edge.{Edge}
use Rattle.plane.specs.Edges.{In, edge, links}
use Rattle.tiling.specs.Triangles.{fan, triangle}
use Rattle.fans.specs.declared.around.Turned.{Turned}
use Rattle.plane.specs.declared.Corners.{Corners}
use Rattle.fans.specs.Around.{turn}
use Rattle.fans.specs.Fans.{FanCloses, TurnedIsNode, entry, fan_from, fan_of, goes_on, onto, opening, ring_of, triangles_of, turns_of}

-- ---- what is done so far, and the fan that follows it

abbrev pub ahead : List Turned → Option (List Turned) → Option (List Turned)
ahead done fan = option_map (λ ts. done ++ ts) fan

ahead_none : (fan : Option (List Turned)) → ahead [] fan ≡ fan
ahead_none None = refl
ahead_none (Some ts) = refl

ahead_more : (done : List Turned) (t : Turned) (fan : Option (List Turned)) → ahead done (onto t fan) ≡ ahead (done ++ t ∷ []) fan
ahead_more done t None = refl
ahead_more done t (Some ts) = ap Some (sym (append_assoc done (t ∷ []) ts))

pub record Followed (ts before links : List Turned) (i at : ℕ) : Type 0 where
  pub inside : i < length ts → at < length ts
  pub same : fan_of ts ≡ ahead (take i links) (fan_from ts (length ts - i) at)
  pub room : length ts ≤ length links
  pub behind : (k : ℕ) → i ≤ k → drop k links ≡ drop k before

pub followed_none : (ts links : List Turned) → length ts ≤ length links → Followed ts links links 0 0
followed_none ts links h =
    record { inside = λ l. l; same = sym (ahead_none _) ∙ ap (λ n. ahead [] (fan_from ts n 0)) (omega arith); room = h; behind = λ k l. refl }

module _ (ts before links : List Turned) (i at : ℕ) (f : Followed ts before links i at) (more : i < length ts) where
  on : fan_of ts ≡ ahead (take i links) (goes_on (entry ts at) (fan_from ts (length ts - (i + 1))) (opening ts (entry ts at).last))
  unfolding fan_from
  on = let n : length ts - i ≡ suc (length ts - (i + 1)) = omega arith in f.same ∙ ap (λ n. ahead (take i links) (fan_from ts n at)) n

  pub followed_broken : None ≡ opening ts (entry ts at).last → fan_of ts ≡ None
  followed_broken h = on ∙ ap (λ o. ahead (take i links) (goes_on (entry ts at) (fan_from ts (length ts - (i + 1))) o)) (sym h)

  pub followed_back : (j : ℕ) → Some j ≡ opening ts (entry ts at).last → j ≡ 0 → fan_of ts ≡ Some (take (i + 1) (set links i (entry ts at)))
  followed_back j h z =
      let room = f.room in
      let inside : i < length links = omega arith in
      on ∙ ap (λ o. ahead (take i links) (goes_on (entry ts at) (fan_from ts (length ts - (i + 1))) o)) (sym h ∙ ap Some z)
      ∙ ap Some (sym (take_more_set links i (entry ts at) inside))

  -- what stands behind stays, when an entry more is written
  pub followed_rest : (k : ℕ) → i < k → drop k (set links i (entry ts at)) ≡ drop k before
  followed_rest k l = drop-set-lt k links i (entry ts at) l ∙ f.behind k (omega (arith, l))

  pub followed_more : (j : ℕ) → Some j ≡ opening ts (entry ts at).last → (j ≡ 0 → ⊥) → Followed ts before (set links i (entry ts at)) (i + 1) j
  followed_more j h n =
      let room = f.room in
      let inside : i < length links = omega arith in
      let no : (j == 0) ≡ false = grind (arith, nat_tests) in
      record {
        inside = λ l. (position-Some (λ (t : Turned). t.next == (entry ts at).last) ts j (turn 0 0 0) (sym h)).0;
        same =
            on ∙ ap (λ o. ahead (take i links) (goes_on (entry ts at) (fan_from ts (length ts - (i + 1))) o)) (sym h)
            ∙ ap (λ b. ahead (take i links) (cond b (Some (entry ts at ∷ [])) (onto (entry ts at) (fan_from ts (length ts - (i + 1)) j)))) no
            ∙ ahead_more (take i links) (entry ts at) _
            ∙ ap (λ l. ahead l (fan_from ts (length ts - (i + 1)) j)) (sym (take_more_set links i (entry ts at) inside));
        room = rw length-set room;
        behind = λ k l. followed_rest k (omega (arith, l));
      }

pub followed_all : (ts before links : List Turned) (i at : ℕ) → Followed ts before links i at → length ts ≤ i → fan_of ts ≡ None
unfolding fan_from
followed_all ts before links i at f h = let z : length ts - i ≡ 0 = omega arith in f.same ∙ ap (λ n. ahead (take i links) (fan_from ts n at)) z

pub written : (links : List Turned) (i : ℕ) (t : Turned) → i < length links → length (take (i + 1) (set links i t)) ≡ i + 1
written links i t h = length-take-le (i + 1) (set links i t) (rw length-set (omega arith))

-- ---- the way of a fan, by the places of its entries

-- from place i the fan goes on to the places of the list, and from the last of them is back
abbrev pub IsWay : List Turned → ℕ → List ℕ → Type 0
IsWay ts i [] = opening ts (entry ts i).last ≡ Some 0
IsWay ts i (j ∷ ps) = (opening ts (entry ts i).last ≡ Some j) × (j ≡ 0 → ⊥) × IsWay ts j ps

pub record Way (ts : List Turned) (i : ℕ) (es : List Turned) : Type 0 where
  pub places : List ℕ
  pub way : IsWay ts i places
  pub entries : map (entry ts) (i ∷ places) ≡ es

module _ (ts : List Turned) (n i : ℕ) (es : List Turned) (next : (j : ℕ) (rest : List Turned) → fan_from ts n j ≡ Some rest → Way ts j rest) where
  rest_way : (j : ℕ) (fan : Option (List Turned)) → opening ts (entry ts i).last ≡ Some j → (j ≡ 0 → ⊥) → fan_from ts n j ≡ fan
      → onto (entry ts i) fan ≡ Some es → Way ts i es
  rest_way j None o z f h = absurd (none-some es h)
  rest_way j (Some rest) o z f h =
      let w = next j rest f in
      record { places = j ∷ w.places; way = (o, z, w.way); entries = ap (λ l. entry ts i ∷ l) w.entries ∙ same_Some _ _ h }

  step_way : (j : ℕ) (back : Bool) → (j == 0) ≡ back → opening ts (entry ts i).last ≡ Some j
      → cond back (Some (entry ts i ∷ [])) (onto (entry ts i) (fan_from ts n j)) ≡ Some es → Way ts i es
  step_way j true b o h =
      let z : j ≡ 0 = grind (arith, nat_tests) in
      record { places = []; way = o ∙ ap Some z; entries = same_Some _ _ h }
  step_way j false b o h = rest_way j (fan_from ts n j) o (grind (arith, nat_tests)) refl h

  any_way : (o : Option ℕ) → opening ts (entry ts i).last ≡ o → goes_on (entry ts i) (fan_from ts n) o ≡ Some es → Way ts i es
  any_way None o h = absurd (none-some es h)
  any_way (Some j) o h = step_way j (j == 0) refl o h

way_from : (ts : List Turned) (n i : ℕ) (es : List Turned) → fan_from ts n i ≡ Some es → Way ts i es
unfolding fan_from
way_from ts zero i es h = absurd (none-some es h)
way_from ts (suc n) i es h = any_way ts n i es (λ j rest f. way_from ts n j rest f) (opening ts (entry ts i).last) refl h

pub way_of : (ts es : List Turned) → fan_of ts ≡ Some es → Way ts 0 es
way_of ts es h = way_from ts (length ts) 0 es h

-- the fan goes on to an entry that turns to the corner
pub opens : (ts : List Turned) (q j : ℕ) → opening ts q ≡ Some j → (j < length ts) × ((entry ts j).next ≡ q)
opens ts q j h =
    let p = position-Some (λ (t : Turned). t.next == q) ts j (turn 0 0 0) h in
    let e = p.1 in
    (p.0, grind (arith, nat_tests))

-- ---- the triangle of a node

module _ (v k : ℕ) (c : Corners) (t : Turned) where
  is_turn : (u p q : ℕ) → (u == v) ≡ true → turn k p q ≡ t → triangle v t.next t.last ≡ triangle u p q
  is_turn u p q h e = let same : u ≡ v = grind (arith, nat_tests) in λ i. triangle (sym same i) ((sym e i).next) ((sym e i).last)

  third_turn : (b : Bool) → (c.c == v) ≡ b → cond b (Some (turn k c.a c.b)) None ≡ Some t → In (triangle v t.next t.last) (turns_of c)
  third_turn true h e = inr (inr (inl (is_turn c.c c.a c.b h (same_Some _ _ e))))
  third_turn false h e = absurd (none-some t e)

  second_turn : (b : Bool) → (c.b == v) ≡ b → cond b (Some (turn k c.c c.a)) (cond (c.c == v) (Some (turn k c.a c.b)) None) ≡ Some t
      → In (triangle v t.next t.last) (turns_of c)
  second_turn true h e = inr (inl (is_turn c.b c.c c.a h (same_Some _ _ e)))
  second_turn false h e = third_turn (c.c == v) refl e

  first_turn : (b : Bool) → (c.a == v) ≡ b
      → cond b (Some (turn k c.b c.c)) (cond (c.b == v) (Some (turn k c.c c.a)) (cond (c.c == v) (Some (turn k c.a c.b)) None)) ≡ Some t
      → In (triangle v t.next t.last) (turns_of c)
  first_turn true h e = inl (is_turn c.a c.b c.c h (same_Some _ _ e))
  first_turn false h e = second_turn (c.b == v) refl e

pub turned_is_node : TurnedIsNode
turned_is_node v k c t h = first_turn v k c t (c.a == v) refl h

-- ---- the triangles of a fan

turned_edge : Turned → Edge
turned_edge t = edge t.next t.last

way_closes : (ts : List Turned) (i : ℕ) (ps : List ℕ) → IsWay ts i ps
    → links (ring_of (map (entry ts) (i ∷ ps)) ++ (entry ts 0).next ∷ []) ≡ map turned_edge (map (entry ts) (i ∷ ps))
unfolding turned_edge
way_closes ts i [] o = let e = (opens ts _ 0 o).1 in ap (λ q. edge (entry ts i).next q ∷ []) e
way_closes ts i (j ∷ ps) w =
    let e = (opens ts _ j w.0).1 in
    ap (λ q. edge (entry ts i).next q ∷ links (ring_of (map (entry ts) (j ∷ ps)) ++ (entry ts 0).next ∷ [])) e
    ∙ ap (λ l. turned_edge (entry ts i) ∷ l) (way_closes ts j ps w.2)

map_again : (v : ℕ) (es : List Turned) → map (λ (e : Edge). triangle v e.from e.to) (map turned_edge es) ≡ triangles_of v es
unfolding turned_edge
map_again v [] = refl
map_again v (t ∷ es) = ap (λ l. triangle v t.next t.last ∷ l) (map_again v es)

pub fan_closes : FanCloses
fan_closes v ts es h =
    let w = way_of ts es h in
    subst (λ l. triangles_of v l ≡ fan v (ring_of l)) w.entries
    (sym (map_again v (map (entry ts) (0 ∷ w.places))) ∙ sym (ap (map (λ (e : Edge). triangle v e.from e.to)) (way_closes ts 0 w.places w.way)))
