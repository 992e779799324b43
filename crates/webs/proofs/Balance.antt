-- A round takes two live nodes away with each vertex that it chooses, and makes at most six: so the nodes of every layer are counted.
use Rattle.std.proofs.Common.{◌≡◌, ℕ, zero, suc, ◌+◌, ◌*◌, ◌<◌, ◌≤◌, Bool, true, false, cond, not, ◌&&◌, List, [], ◌∷◌, length, None, Ok, is_some, sym, refl, ap, ◌∙◌, subst, inl, inr, arith, eqb-true, length-append}
use Rattle.std.specs.List.{filter, range_with_len}
use Rattle.std.proofs.lemmas.Bool.{and_from, and_parts, both_ways, cases_eq, or_cases}
use Rattle.std.proofs.lemmas.List.{get_or-append-add, length-map}
use Rattle.plane.specs.Edges.{In}
use Rattle.plane.specs.Points.{GridPoint, place_of}
use Rattle.tiling.specs.Triangles.{corners}
use Rattle.tiling.proofs.Cuts.{kept as cut_kept}
use Rattle.tiling.proofs.Lists.{in_left, in_map, in_right}
use Rattle.tiling.proofs.Rings.{ring_from}
use Rattle.ears.proofs.Rotations.{cut_is_cut}
use Rattle.nodes.specs.declared.node.Node.{Node}
use Rattle.nodes.specs.Nodes.{blank}
use Rattle.fans.specs.declared.around.Turned.{Turned}
use Rattle.fans.specs.Around.{around, left_from, nodes_of, turned_at}
use Rattle.fans.specs.Fans.{ring_of}
use Rattle.fans.proofs.Tallies.{around_tells}
use Rattle.sheet.specs.Legal.{LegalSheet}
use Rattle.sheet.specs.Sheets.{Sheet, points_of}
use Rattle.rules.specs.Rules.{first_broken}
use Rattle.rounds.specs.Choices.{Found, closing, closings, goes, hole_node, is_marked, look_all, rounded_live, rounded_nodes}
use Rattle.hierarchy.specs.Layers.{Layers, bottom, node_at, round, shape, triangle_of}
use Rattle.hierarchy.specs.Theorems.{Made}
use Rattle.hierarchy.proofs.Corners.{has_turn, turn_has}
use Rattle.hierarchy.proofs.Counts.{counted, has_live, live_from, live_to}
use Rattle.hierarchy.proofs.Elements.{filter_in, in_filter, place_in}
use Rattle.hierarchy.proofs.Growth.{Kept, node_before}
use Rattle.hierarchy.proofs.Holes.{noted}
use Rattle.hierarchy.proofs.Looks.{Seen, closes, seen}
use Rattle.hierarchy.proofs.Shares.{no_marked_corner, one_corner}
use Rattle.hierarchy.proofs.TakesOut.{round_takes_out}
use Rattle.hierarchy.proofs.Theorems.{ground_nodes, keeps}
use Rattle.webs.proofs.Bottoms.{Balanced, bottom_balanced, left_counted}
use Rattle.webs.proofs.Distinct.{once_filter, once_within, range_in, range_long, range_once}
use Rattle.webs.proofs.Fans.{side_from}
use Rattle.webs.proofs.Totals.{counted_cover, filter_length, filter_split, swap_count, total, total_same}

module _ (s : Sheet) (legal : LegalSheet s) (none : first_broken s ≡ None) where
  abbrev at : ℕ → GridPoint
  at = place_of (points_of s)

  -- ---- a round

  module _ (nodes : List Node) (live made : List ℕ) (r : ℕ) (l : Layers s nodes live made r) (f : Found) (e : look_all at nodes live (length s.inner) ≡ Ok f)
      (B : Balanced s nodes live) where
    M : Made s nodes live made r
    M = record { legal = legal; checked = none; layers = l }

    K : Kept at (length s.inner + 4) (ground_nodes s nodes live made r M).0 nodes live made r
    K = keeps s nodes live made r M

    S : Seen at nodes live (length s.inner) f
    S = seen at nodes live (length s.inner) f e

    abbrev marked : ℕ → Bool
    marked w = is_marked f.marks w

    abbrev takes : ℕ → ℕ → Bool
    takes w k = is_some (turned_at nodes w k)

    abbrev gone : ℕ → Bool
    gone k = goes at nodes live f.marks k

    abbrev inner : List ℕ
    inner = range_with_len 4 (length s.inner)

    abbrev fresh : List Node
    fresh = closings at nodes live f.marks (length s.inner) 4

    -- a live node goes with one chosen corner
    chosen_corner : (k : ℕ) → gone k ≡ true → (u : ℕ) × In u (corners (triangle_of nodes k)) × (marked u ≡ true)
    chosen_corner k h = elim (or_cases _ _ h) [
      | inl t ↦ ((node_at nodes k).a, inl refl, t)
      | inr t ↦ elim (or_cases _ _ t) [ inl q ↦ ((node_at nodes k).b, inr (inl refl), q) | inr q ↦ ((node_at nodes k).c, inr (inr (inl refl)), q) ]
    ]

    abbrev taken : ℕ → ℕ → Bool
    taken w k = marked w && takes w k

    one_takes : (k : ℕ) → In k live → (b : Bool) → gone k ≡ b → length (filter (λ w. taken w k) inner) ≡ cond b 1 0
    one_takes k i true g =
        let u = chosen_corner k g in
        let t = has_turn nodes u.0 k (K.alive k i) u.1 in
        let y = S.within u.0 u.2 in
        let a = once_within (u.0 ∷ []) (filter (λ w. taken w k) inner) ((λ j. j), tt)
        (λ w. elim [ inl q ↦ subst (λ x. In x (filter (λ w. taken w k) inner)) (sym q) (filter_in (λ w. taken w k) u.0 inner (range_in u.0 4 (length s.inner) y.0 y.1) (and_from _ _ u.2 t)) | inr m ↦ absurd m ]) in
        let b = once_within (filter (λ w. taken w k) inner) (u.0 ∷ []) (once_filter (λ w. taken w k) inner (range_once 4 (length s.inner)))
        (λ w j. let p = and_parts _ _ (in_filter (λ w. taken w k) w inner j).1 in inl (one_corner at nodes live f.marks S.choice k i u.0 w u.2 t p.0 p.1)) in
        omega arith
    one_takes k i false g =
        let b = once_within (filter (λ w. taken w k) inner) [] (once_filter (λ w. taken w k) inner (range_once 4 (length s.inner)))
        (λ w j. let p = and_parts _ _ (in_filter (λ w. taken w k) w inner j).1 in no_marked_corner at nodes live f.marks k g w (turn_has nodes w k p.1) p.0) in
        omega arith

    going : length (filter gone live) ≡ total (λ w. length (filter (taken w) live)) inner
    going =
        filter_length gone live
        ∙ total_same (λ k. cond (gone k) 1 0) (λ k. length (filter (λ w. taken w k) inner)) live (λ k i. sym (one_takes k i (gone k) refl))
        ∙ sym (swap_count taken inner live)

    -- a chosen vertex takes all its live nodes, and two fewer close its hole
    takes_all : (w : ℕ) (b : Bool) → marked w ≡ b → length (filter (λ k. b && takes w k) live) ≡ cond b (length (around nodes live w)) 0
    takes_all w true m = sym (sym (length-map (around nodes live w) (λ (t : Turned). t.node)) ∙ ap length (around_tells nodes live w).0)
    takes_all w false m = nothing live
      where
        nothing : (l : List ℕ) → length (filter (λ k. false) l) ≡ 0
        nothing [] = refl
        nothing (x ∷ l) = nothing l

    hole_count : (w : ℕ) (m : marked w ≡ true) → (length (closing at nodes live w) + 2 ≡ length (around nodes live w)) × (length (around nodes live w) ≤ 8)
    hole_count w m =
        let c = S.choice w m in
        let a = ap length (closes at nodes live f.marks w c) ∙ length-map c.ts (hole_node at nodes live (nodes_of c.es)) in
        let b = (cut_is_cut at (ring_of c.es) c.ts c.cut).count in
        let d = length-map c.es (λ (t : Turned). t.next) in
        let g = eqb-true _ _ c.whole in
        let most = c.most in
        (omega arith, omega arith)

    one_hole : (w : ℕ) (b : Bool) → marked w ≡ b → (length (cond b (closing at nodes live w) []) + 2 * cond b 1 0 ≡ length (filter (λ k. b && takes w k) live)) × (length (cond b (closing at nodes live w) []) ≤ 6 * cond b 1 0)
    one_hole w true m = let h = hole_count w m in let a = h.0 in let c = h.1 in let t = takes_all w true m in (omega arith, omega arith)
    one_hole w false m = let t = takes_all w false m in (omega arith, omega arith)

    holes : (k v : ℕ) → (length (closings at nodes live f.marks k v) + 2 * counted marked k v ≡ total (λ w. length (filter (taken w) live)) (range_with_len v k))
        × (length (closings at nodes live f.marks k v) ≤ 6 * counted marked k v)
    unfolding closings
    holes zero v = (omega arith, omega arith)
    holes (suc k) v =
        let a = holes k (v + 1) in
        let a₀ = a.0 in
        let a₁ = a.1 in
        let b = one_hole v (marked v) refl in
        let b₀ = b.0 in
        let b₁ = b.1 in
        let c = length-append (cond (marked v) (closing at nodes live v) []) (closings at nodes live f.marks k (v + 1)) in
        (omega arith, omega arith)

    abbrev now : List Node
    now = rounded_nodes at nodes live (length s.inner) f.marks

    abbrev now_live : List ℕ
    now_live = rounded_live at nodes live f

    now_count : length now_live + 2 * f.chosen ≡ length live
    now_count =
        let a = filter_split gone live in
        let b = going in
        let c = (holes (length s.inner) 4).0 in
        let d = length-append (filter (λ k. not (gone k)) live) (range_with_len (length nodes) f.fresh) in
        let g = range_long (length nodes) f.fresh in
        let h = S.fresh in
        let i = S.chosen in
        omega arith

    now_nodes : length now ≤ length nodes + 6 * f.chosen
    now_nodes =
        let a = length-append nodes fresh in
        let b = (holes (length s.inner) 4).1 in
        let i = S.chosen in
        omega arith

    -- ---- a vertex that is left and not chosen is still left

    in_closings : (x : Node) (u : ℕ) → marked u ≡ true → In x (closing at nodes live u) → (k v : ℕ) → v ≤ u → u < v + k → In x (closings at nodes live f.marks k v)
    unfolding closings
    in_closings x u m i zero v a b = absurd (omega arith)
    in_closings x u m i (suc k) v a b = elim (cases_eq u v) [
      | inl q ↦ in_left x (cond (marked v) (closing at nodes live v) []) (closings at nodes live f.marks k (v + 1)) (subst (λ c. In x (cond c (closing at nodes live v) [])) (sym (subst (λ w. marked w ≡ true) q m)) (subst (λ w. In x (closing at nodes live w)) q i))
      | inr d ↦ in_right x (cond (marked v) (closing at nodes live v) []) (closings at nodes live f.marks k (v + 1)) (in_closings x u m i k (v + 1) (omega arith) (omega arith))
    ]

    stays : (w : ℕ) → 4 ≤ w → w < 4 + length s.inner → has_live nodes live w ≡ true → marked w ≡ false → has_live now now_live w ≡ true
    stays w a b h m =
        let k = live_from nodes live w h in
        let c = turn_has nodes w k.0 k.2 in
        go k.0 k.1 c k.2 (gone k.0) refl
      where
        keep : (k : ℕ) → In k live → In w (corners (triangle_of nodes k)) → gone k ≡ false → has_live now now_live w ≡ true
        keep k i c g =
            let l = K.alive k i in
            let grown = length-append nodes fresh in
            live_to now now_live w k (in_left k (filter (λ k. not (gone k)) live) (range_with_len (length nodes) f.fresh) (filter_in (λ k. not (gone k)) k live i (ap not g)))
            (has_turn now w k (omega arith) (subst (λ (x : Node). In w (corners (shape x))) (sym (node_before nodes fresh k l)) c))

        renew : (k : ℕ) → In k live → In w (corners (triangle_of nodes k)) → is_some (turned_at nodes w k) ≡ true → gone k ≡ true → has_live now now_live w ≡ true
        renew k i c t g =
            let u = chosen_corner k g in
            let ch = S.choice u.0 u.2 in
            let apart : w ≡ u.0 → ⊥ = λ q. both_ways (marked w) m (subst (λ x. marked x ≡ true) (sym q) u.2) in
            let rim = noted at nodes live f.marks u.0 ch k i (has_turn nodes u.0 k (K.alive k i) u.1) w c apart in
            let d = ring_from w (ring_of ch.es) rim in
            let side = cut_kept (ring_of ch.es) ch.ts (cut_is_cut at (ring_of ch.es) ch.ts ch.cut).cut d.0 d.1 in
            let x = hole_node at nodes live (nodes_of ch.es) side.0 in
            let y = S.within u.0 u.2 in
            let j = in_closings x u.0 u.2 (subst (λ ns. In x ns) (sym (closes at nodes live f.marks u.0 ch)) (in_map (hole_node at nodes live (nodes_of ch.es)) side.0 ch.ts side.1)) (length s.inner) 4 y.0 y.1 in
            let p = place_in blank x fresh j in
            let q = p.1 in
            let grown = length-append nodes fresh in
            let z = S.fresh in
            let is : node_at now (length nodes + p.0) ≡ x = get_or-append-add nodes fresh p.0 blank ∙ p.2 in
            live_to now now_live w (length nodes + p.0)
            (in_right (length nodes + p.0) (filter (λ k. not (gone k)) live) (range_with_len (length nodes) f.fresh) (range_in (length nodes + p.0) (length nodes) f.fresh (omega arith) (omega arith)))
            (has_turn now w (length nodes + p.0) (omega arith) (subst (λ (v : Node). In w (corners (shape v))) (sym is) (subst (λ v. In v (corners side.0)) d.2 (side_from side.0 d.0 side.2))))

        go : (k : ℕ) → In k live → In w (corners (triangle_of nodes k)) → is_some (turned_at nodes w k) ≡ true → (b : Bool) → gone k ≡ b → has_live now now_live w ≡ true
        go k i c t false g = keep k i c g
        go k i c t true g = renew k i c t g

    now_left : left_from now now_live (length s.inner) 4 + f.chosen ≡ left_from nodes live (length s.inner) 4
    now_left =
        let a = counted_cover (has_live now now_live) marked (has_live nodes live) (length s.inner) 4 stays in
        let b = left_counted now now_live (length s.inner) 4 in
        let c = left_counted nodes live (length s.inner) 4 in
        let d = (round_takes_out s nodes live made r M f e).1 in
        let g = S.chosen in
        omega arith

    round_balanced : Balanced s now now_live
    round_balanced =
        let a = now_count in
        let b = now_nodes in
        let c = now_left in
        let d = B.count in
        let g = B.room in
        record { count = omega arith; room = omega arith }

  -- ---- every layer

  pub balanced : (nodes : List Node) (live made : List ℕ) (r : ℕ) → Layers s nodes live made r → Balanced s nodes live
  balanced nodes live made r (bottom ns e) = bottom_balanced s legal none ns e
  balanced nodes live made r (round olds was dates q l f h) = round_balanced olds was dates q l f h (balanced olds was dates q l)
