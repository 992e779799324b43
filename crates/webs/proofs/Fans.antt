-- In a web the fan of a vertex closes: where an entry ends, exactly one begins, so the way through them comes back to where it began.
use Rattle.std.proofs.Common.{◌≡◌, ℕ, zero, suc, ◌+◌, ◌-◌, ◌<◌, ◌≤◌, ◌==◌, Bool, true, false, cond, List, [], ◌∷◌, length, map, Some, None, Option, is_some, sym, refl, ap, ◌∙◌, subst, inl, inr, arith, eq-eqb}
use Rattle.std.specs.List.{range_with_len}
use Rattle.std.proofs.lemmas.Bool.{both_ways, cases_eq, cases_order}
use Rattle.std.proofs.lemmas.List.{length-map}
use Rattle.std.proofs.lemmas.Option.{none-some, same_Some}
use Rattle.plane.specs.declared.Edge.{Edge}
use Rattle.plane.specs.Edges.{In, Once, edge}
use Rattle.tiling.specs.Cells.{Subdivision}
use Rattle.tiling.specs.Order.{InOrder}
use Rattle.tiling.specs.Triangles.{Triangle, corners, sides, triangle}
use Rattle.tiling.proofs.Borders.{frame}
use Rattle.tiling.proofs.Lists.{in_map}
use Rattle.tiling.proofs.Sheets.{in_get_or}
use Rattle.tiling.proofs.Turning.{Same}
use Rattle.nodes.specs.declared.node.Node.{Node}
use Rattle.fans.specs.declared.around.Turned.{Turned}
use Rattle.fans.specs.Around.{around, turn, turned_at}
use Rattle.fans.specs.Fans.{entry, fan_from, fan_of, goes_on, onto, opening}
use Rattle.fans.proofs.Fans.{opens}
use Rattle.fans.proofs.Tallies.{around_tells}
use Rattle.hierarchy.specs.Layers.{triangle_of}
use Rattle.hierarchy.proofs.Corners.{has_turn, turned_same}
use Rattle.hierarchy.proofs.Elements.{all_at, filter_in, in_filter, in_range, map_in}
use Rattle.rules.proofs.Elements.{all_in, none_passes}
use Rattle.webs.proofs.Distinct.{once_filter, once_map, once_of_map, once_place, once_within, range_in, range_long, range_once}
use Rattle.webs.proofs.Sides.{LiveSide, Web, one_side, side_proper, side_twin}

frame_low : (e : Edge) → In e frame → e.to < 4
frame_low e (inl h) = let q = ap (λ (x : Edge). x.to) h in omega arith
frame_low e (inr (inl h)) = let q = ap (λ (x : Edge). x.to) h in omega arith
frame_low e (inr (inr (inl h))) = let q = ap (λ (x : Edge). x.to) h in omega arith
frame_low e (inr (inr (inr (inl h)))) = let q = ap (λ (x : Edge). x.to) h in omega arith
frame_low e (inr (inr (inr (inr n)))) = absurd n

-- a side begins at a corner
pub side_from : (x : Triangle) (e : Edge) → In e (sides x) → In e.from (corners x)
side_from x e (inl h) = inl (ap (λ (y : Edge). y.from) h)
side_from x e (inr (inl h)) = inr (inl (ap (λ (y : Edge). y.from) h))
side_from x e (inr (inr (inl h))) = inr (inr (inl (ap (λ (y : Edge). y.from) h)))
side_from x e (inr (inr (inr m))) = absurd m

module _ (s : Subdivision) (o : InOrder s) (nodes : List Node) (live : List ℕ) (W : Web s (triangle_of nodes) live) (once : Once live) (alive : (k : ℕ) → In k live → k < length nodes)
    (v : ℕ) where
  abbrev tri : ℕ → Triangle
  tri = triangle_of nodes

  abbrev ts : List Turned
  ts = around nodes live v

  abbrev n : ℕ
  n = length ts

  -- ---- entries and nodes

  entry_turns : (t : Turned) → In t ts → turned_at nodes v t.node ≡ Some t
  entry_turns t i = all_at (λ (t : Turned). turned_at nodes v t.node ≡ Some t) ts (around_tells nodes live v).1 t i

  entry_live : (t : Turned) → In t ts → In t.node live
  entry_live t i =
      (in_filter (λ k. is_some (turned_at nodes v k)) t.node live (subst (λ (l : List ℕ). In t.node l) (around_tells nodes live v).0 (in_map (λ (t : Turned). t.node) t ts i))).0

  entry_same : (t : Turned) → In t ts → Same s.at (tri t.node) (triangle v t.next t.last)
  entry_same t i = turned_same nodes v t.node t (entry_turns t i) s.at

  node_entry : (k : ℕ) → In k live → In v (corners (tri k)) → (t : Turned) × In t ts × (t.node ≡ k)
  node_entry k i c =
      map_in (λ (t : Turned). t.node) k ts
      (subst (λ (l : List ℕ). In k l) (sym (around_tells nodes live v).0) (filter_in (λ k. is_some (turned_at nodes v k)) k live i (has_turn nodes v k (alive k i) c)))

  entry_side : (t : Turned) → In t ts → (e : Edge) → In e (sides (triangle v t.next t.last)) → LiveSide s o tri live W e
  entry_side t i e j = (t.node, entry_live t i, (entry_same t i).sides_from e j)

  same_node : (t u : Turned) → In t ts → In u ts → t.node ≡ u.node → t ≡ u
  same_node t u i j e = same_Some t u (sym (entry_turns t i) ∙ ap (turned_at nodes v) e ∙ entry_turns u j)

  same_last : (t u : Turned) → In t ts → In u ts → t.last ≡ u.last → t ≡ u
  same_last t u i j e =
      same_node t u i j
      (one_side s o tri live W (edge t.last v) t.node u.node (entry_live t i) (entry_live u j) ((entry_same t i).sides_from _ (inr (inr (inl refl))))
      (subst (λ w. In (edge w v) (sides (tri u.node))) (sym e) ((entry_same u j).sides_from _ (inr (inr (inl refl))))))

  entries_once : Once ts
  entries_once = once_of_map (λ (t : Turned). t.node) ts (subst Once (sym (around_tells nodes live v).0) (once_filter (λ k. is_some (turned_at nodes v k)) live once))

  module _ (inner : 4 ≤ v) where
    -- where an entry ends, another begins
    next_entry : (t : Turned) → In t ts → (u : Turned) × In u ts × (u.next ≡ t.last)
    next_entry t i = elim (side_twin s o tri live W (edge t.last v) (entry_side t i (edge t.last v) (inr (inr (inl refl))))) [
      | inr j ↦ (let l = frame_low (edge t.last v) j in absurd (omega arith))
      | inl w ↦ found w.0 w.1 w.2
    ]
      where
        which : (u : Turned) → In u ts → In (edge v t.last) (sides (triangle v u.next u.last)) → u.next ≡ t.last
        which u j (inl h) = sym (ap (λ (y : Edge). y.to) h)
        which u j (inr (inl h)) = absurd (side_proper s o tri live W (edge v u.next) (entry_side u j _ (inl refl)) (ap (λ (y : Edge). y.from) h))
        which u j (inr (inr (inl h))) = absurd (side_proper s o tri live W (edge u.last v) (entry_side u j _ (inr (inr (inl refl)))) (sym (ap (λ (y : Edge). y.from) h)))
        which u j (inr (inr (inr m))) = absurd m

        found : (k : ℕ) → In k live → In (edge v t.last) (sides (tri k)) → (u : Turned) × In u ts × (u.next ≡ t.last)
        found k j m =
            let u = node_entry k j (side_from (tri k) (edge v t.last) m) in
            let x = (entry_same u.0 u.1).sides_to (edge v t.last) (subst (λ l. In (edge v t.last) (sides (tri l))) (sym u.2) m) in
            (u.0, u.1, which u.0 u.1 x)

    -- ---- from place to place

    at_place : (i : ℕ) → i < n → In (entry ts i) ts
    at_place i l = in_get_or (turn 0 0 0) ts i l

    opening_some : (o : Option ℕ) (q : ℕ) → opening ts q ≡ o → (u : Turned) → In u ts → u.next ≡ q → (j : ℕ) × (opening ts q ≡ Some j)
    opening_some (Some j) q e u i h = (j, e)
    opening_some None q e u i h =
        absurd (both_ways (u.next == q) (all_in (λ (t : Turned). (t.next == q) ≡ false) ts (none_passes (λ (t : Turned). t.next == q) ts e) u i) (eq-eqb u.next q h))

    onward : (i : ℕ) → i < n → (j : ℕ) × (opening ts (entry ts i).last ≡ Some j)
    onward i l = let u = next_entry (entry ts i) (at_place i l) in opening_some (opening ts (entry ts i).last) (entry ts i).last refl u.0 u.1 u.2

    or_0 : Option ℕ → ℕ
    or_0 None = 0
    or_0 (Some j) = j

    step : ℕ → ℕ
    unfolding or_0
    step i = or_0 (opening ts (entry ts i).last)

    step_is : (i : ℕ) → i < n → opening ts (entry ts i).last ≡ Some (step i)
    unfolding step or_0
    step_is i l = let r = onward i l in r.1 ∙ ap Some (sym (ap or_0 r.1))

    step_in : (i : ℕ) → i < n → step i < n
    step_in i l = (opens ts _ _ (step_is i l)).0

    step_once : (i j : ℕ) → i < n → j < n → step i ≡ step j → i ≡ j
    step_once i j l m e =
        let a = (opens ts _ _ (step_is i l)).1 in
        let b = (opens ts _ _ (step_is j m)).1 in
        once_place (turn 0 0 0) ts entries_once i j l m
        (same_last (entry ts i) (entry ts j) (at_place i l) (at_place j m) (sym a ∙ ap (λ k. (entry ts k).next) e ∙ b))

    -- the place after so many steps from the first
    orbit : ℕ → ℕ
    orbit zero = 0
    orbit (suc a) = step (orbit a)

    orbit_in : 0 < n → (a : ℕ) → orbit a < n
    unfolding orbit
    orbit_in h zero = h
    orbit_in h (suc a) = step_in (orbit a) (orbit_in h a)

    -- two places of the way that are one: it was back before
    cancel : 0 < n → (a d : ℕ) → orbit a ≡ orbit (a + d) → orbit d ≡ 0
    unfolding orbit
    cancel h zero d e = let q : d ≡ 0 + d = omega arith in ap orbit q ∙ sym e
    cancel h (suc a) d e =
        let q : suc a + d ≡ suc (a + d) = omega arith in
        cancel h a d (step_once (orbit a) (orbit (a + d)) (orbit_in h a) (orbit_in h (a + d)) (e ∙ ap orbit q))

    -- a fan that is not back within so many entries
    not_back : 0 < n → (m a : ℕ) → fan_from ts m (orbit a) ≡ None → (b : ℕ) → a < b → b ≤ a + m → orbit b ≡ 0 → ⊥
    unfolding orbit fan_from
    not_back h zero a e b i j q = absurd (omega arith)
    not_back h (suc m) a e b i j q =
        go (step (orbit a) == 0) refl
        (ap (λ o. goes_on (entry ts (orbit a)) (fan_from ts m) o) (sym (step_is (orbit a) (orbit_in h a))) ∙ e)
        (λ f k l. not_back h m (suc a) f b k l q)
      where
        onto_none : (t : Turned) (r : Option (List Turned)) → onto t r ≡ None → r ≡ None
        onto_none t None f = refl
        onto_none t (Some es) f = cc

        go : (back : Bool) → (step (orbit a) == 0) ≡ back → goes_on (entry ts (orbit a)) (fan_from ts m) (Some (step (orbit a))) ≡ None
            → (fan_from ts m (step (orbit a)) ≡ None → suc a < b → b ≤ suc a + m → ⊥) → ⊥
        go true c f next = none-some _ (sym (closed))
          where
            closed : ◌≡◌ {A = Option (List Turned)} (Some (entry ts (orbit a) ∷ [])) None
            closed = sym (ap (λ x. cond x (Some (entry ts (orbit a) ∷ [])) (onto (entry ts (orbit a)) (fan_from ts m (step (orbit a))))) c) ∙ f
        go false c f next =
            let g = onto_none (entry ts (orbit a)) _ (sym (ap (λ x. cond x (Some (entry ts (orbit a) ∷ [])) (onto (entry ts (orbit a)) (fan_from ts m (step (orbit a))))) c) ∙ f) in
            elim (cases_eq b (suc a)) [
              | inl d ↦ both_ways (step (orbit a) == 0) c (eq-eqb (step (orbit a)) 0 (ap orbit (sym d) ∙ q))
              | inr d ↦ next g (omega arith) (omega arith)
            ]

    -- so it is back: else the places after 0 to n steps would be n + 1 of n
    pub fan_closes : 0 < n → (es : List Turned) × (fan_of ts ≡ Some es)
    unfolding orbit
    fan_closes h = go (fan_of ts) refl
      where
        twice : (a b : ℕ) → a < b → b ≤ n → orbit a ≡ orbit b → fan_of ts ≡ None → ⊥
        twice a b l m e f =
            let q : b ≡ a + (b - a) = omega arith in
            not_back h n 0 f (b - a) (omega arith) (omega arith) (cancel h a (b - a) (e ∙ ap orbit q))

        one : fan_of ts ≡ None → (a b : ℕ) → In a (range_with_len 0 (n + 1)) → In b (range_with_len 0 (n + 1)) → orbit a ≡ orbit b → a ≡ b
        one e a b i j q =
            let k = in_range a 0 (n + 1) i in
            let l = in_range b 0 (n + 1) j in
            elim (cases_order a b) [
              | inl d ↦ d
              | inr (inl m) ↦ absurd (twice a b m (omega arith) q e)
              | inr (inr m) ↦ absurd (twice b a m (omega arith) (sym q) e)
            ]

        too_many : fan_of ts ≡ None → ⊥
        too_many e =
            let places = map orbit (range_with_len 0 (n + 1)) in
            let l = once_within places (range_with_len 0 n) (once_map orbit (range_with_len 0 (n + 1)) (range_once 0 (n + 1)) (one e))
            (λ p i. let a = map_in orbit p (range_with_len 0 (n + 1)) i in subst (λ q. In q (range_with_len 0 n)) a.2 (range_in (orbit a.0) 0 n (omega arith) (omega (arith, orbit_in h a.0)))) in
            let long = length-map (range_with_len 0 (n + 1)) orbit in
            omega (arith, l, long, range_long 0 n, range_long 0 (n + 1))

        go : (r : Option (List Turned)) → fan_of ts ≡ r → (es : List Turned) × (fan_of ts ≡ Some es)
        go (Some es) e = (es, e)
        go None e = absurd (too_many e)
