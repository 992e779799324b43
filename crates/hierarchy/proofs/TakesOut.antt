-- A round takes out the vertices that it chose: a vertex with a live node after it had one before, and is not chosen.
use Rattle.std.proofs.Common.{◌≡◌, ℕ, ◌+◌, ◌≤◌, true, not, List, length, Ok, subst, inl, inr, arith, length-append}
use Rattle.std.specs.List.{filter, range_with_len}
use Rattle.std.proofs.lemmas.Bool.{eqb-true, lt-ltb, not-true}
use Rattle.plane.specs.Edges.{In}
use Rattle.plane.specs.Points.{GridPoint, place_of}
use Rattle.tiling.specs.Triangles.{corners}
use Rattle.tiling.proofs.Lists.{in_split}
use Rattle.nodes.specs.declared.node.Node.{Node}
use Rattle.fans.specs.Around.{degree, left_from}
use Rattle.fans.specs.Fans.{ring_of}
use Rattle.sheet.specs.Sheets.{points_of}
use Rattle.rounds.specs.Choices.{Found, closings, goes, is_marked, look_all, rounded_live, rounded_nodes}
use Rattle.hierarchy.specs.Layers.{node_at, shape, triangle_of}
use Rattle.hierarchy.specs.Falls.{RoundTakesOut}
use Rattle.hierarchy.proofs.Corners.{has_turn, turn_has}
use Rattle.hierarchy.proofs.Counts.{counted_apart, has_live, live_from, live_to}
use Rattle.hierarchy.proofs.Elements.{in_filter, in_range}
use Rattle.hierarchy.proofs.Growth.{Kept, new, new_at, node_before}
use Rattle.hierarchy.proofs.Holes.{closing_corner, not_noted, noted_corner}
use Rattle.hierarchy.proofs.Looks.{Seen, seen}
use Rattle.hierarchy.proofs.Shares.{no_marked_corner, one_corner}
use Rattle.hierarchy.proofs.Theorems.{ground_nodes, keeps}

module _ (at : ℕ → GridPoint) (vertices : ℕ) (ns nodes : List Node) (live made : List ℕ) (r : ℕ) (h : Kept at vertices ns nodes live made r) (n : ℕ) (f : Found)
    (e : look_all at nodes live n ≡ Ok f) where
  found : Seen at nodes live n f
  found = seen at nodes live n f e

  abbrev now : List Node
  now = rounded_nodes at nodes live n f.marks

  abbrev now_live : List ℕ
  now_live = rounded_live at nodes live f

  -- ---- a vertex with a live node after the round had one before, and is not chosen

  record Stays (w : ℕ) : Type 0 where
    before : has_live nodes live w ≡ true
    unmarked : is_marked f.marks w ≡ true → ⊥

  -- a corner of an old node that is still live
  old_stays : (w k : ℕ) → In k (filter (λ k. not (goes at nodes live f.marks k)) live) → In w (corners (triangle_of now k)) → Stays w
  old_stays w k i c =
      let j = in_filter (λ k. not (goes at nodes live f.marks k)) k live i in
      let l = h.alive k j.0 in
      let o = subst (λ x. In w (corners (shape x))) (node_before nodes (closings at nodes live f.marks n 4) k l) c in
      record { before = live_to nodes live w k j.0 (has_turn nodes w k l o); unmarked = no_marked_corner at nodes live f.marks k (not-true _ j.1) w o }

  -- a corner of a new node was noted around a chosen vertex; another chosen vertex shares no live node with that one
  new_stays : (w k : ℕ) → In k (range_with_len (length nodes) f.fresh) → In w (corners (triangle_of now k)) → Stays w
  new_stays w k i c =
      let g = length-append nodes (closings at nodes live f.marks n 4) in
      let a = found.fresh in
      let b = in_range k (length nodes) f.fresh i in
      let x = new at vertices ns nodes live made r h n f e (node_at now k) (new_at at vertices ns nodes live made r h n f e k b.0 (omega arith)) in
      let noted = closing_corner at nodes live f.marks x.v x.choice (node_at now k) x.made_there w c in
      let o = noted_corner at nodes live f.marks x.v x.choice w noted in
      let t = has_turn nodes w o.0 (h.alive o.0 o.1) o.3 in
      record {
        before = live_to nodes live w o.0 o.1 t;
        unmarked = λ m.
            let same = one_corner at nodes live f.marks found.choice o.0 o.1 x.v w x.chosen o.2 m t in
            not_noted at nodes live f.marks x.v x.choice h.leftward (subst (λ u. In u (ring_of x.choice.es)) same noted);
      }

  stays : (w : ℕ) → has_live now now_live w ≡ true → Stays w
  stays w l =
      let k = live_from now now_live w l in
      let c = turn_has now w k.0 k.2 in
      elim (in_split k.0 (filter (λ k. not (goes at nodes live f.marks k)) live) (range_with_len (length nodes) f.fresh) k.1) [
        | inl i ↦ old_stays w k.0 i c
        | inr i ↦ new_stays w k.0 i c
      ]

  -- ---- a chosen vertex had a live node

  chosen_left : (w : ℕ) → is_marked f.marks w ≡ true → has_live nodes live w ≡ true
  chosen_left w m =
      let c = found.choice w m in
      let least = c.least in
      let all = eqb-true _ _ c.whole in
      lt-ltb 0 (degree nodes live w) (omega arith)

  takes_out : left_from now now_live n 4 + f.chosen ≤ left_from nodes live n 4
  takes_out =
      let a = counted_apart (has_live now now_live) (is_marked f.marks) (has_live nodes live)
      (λ w l. (stays w l).before) chosen_left (λ w l. (stays w l).unmarked) n 4 in
      let b = found.chosen in
      omega arith

pub round_takes_out : RoundTakesOut
round_takes_out s nodes live made rounds m f e =
    let at = place_of (points_of s) in
    let kept = keeps s nodes live made rounds m in
    let ns = (ground_nodes s nodes live made rounds m).0 in (
      (seen at nodes live (length s.inner) f e).left,
      takes_out at (length s.inner + 4) ns nodes live made rounds kept (length s.inner) f e,
    )
