-- Closed triangles: what they hold, how a point is nudged into one, and lists of triangles that cover the same.
use Rattle.std.proofs.Common.{◌≡◌, ℕ, ◌⊎◌, List, ◌++◌, ℤ, pos, ◌≤ℤ◌, ◌<ℤ◌, sym, ◌∙◌, inl, inr}
use Rattle.std.specs.List.{flat_map}
use Rattle.std.proofs.lemmas.Int.{by_lt_z}
use Rattle.plane.specs.declared.Edge.{Edge}
use Rattle.plane.specs.Crossings.{edge_crossing}
use Rattle.plane.specs.Edges.{In, sum_of}
use Rattle.plane.specs.Points.{GridPoint, Spot}
use Rattle.plane.proofs.Passings.{crossing_back}
use Rattle.plane.proofs.Signs.{lin}
use Rattle.tiling.specs.Cuts.{Cut}
use Rattle.tiling.specs.Lemmas.{Odd}
use Rattle.tiling.specs.Triangles.{AllLeftward, Leftward, Triangle, around, fan, side_at, sides, turns}
use Rattle.tiling.proofs.Counting.{triangle_counts}
use Rattle.tiling.proofs.Cuts.{cut_sum}
use Rattle.tiling.proofs.Fans.{fan_sum}
use Rattle.tiling.proofs.Lists.{in_joined, in_left, in_right, sum_has, sum_some}
use Rattle.tiling.proofs.Nudging.{has_middle, nears_left, nudge}

pub crossing_odd : (at : ℕ → GridPoint) (p : Spot) → Odd (edge_crossing at p)
crossing_odd at p e = crossing_back (at e.from) (at e.to) p

module _ (at : ℕ → GridPoint) where
  -- p is not to the right of any of these edges, and to the left of all of them
  abbrev pub NotRight : List Edge → Spot → Type 0
  NotRight es p = (e : Edge) → In e es → pos 0 ≤ℤ side_at at p e

  abbrev pub Left : List Edge → Spot → Type 0
  Left es p = (e : Edge) → In e es → pos 0 <ℤ side_at at p e

  -- ---- the count of one triangle

  module _ (t : Triangle) (k : Leftward at t) (p : Spot) (z : pos 0 <ℤ p.Z) where
    pub turns_bit : (turns at p t ≡ pos 0) ⊎ (turns at p t ≡ pos 1)
    turns_bit = (triangle_counts at t k p z).bit

    pub turns_low : pos 0 ≤ℤ turns at p t
    turns_low = elim turns_bit [ inl e ↦ omega lin | inr e ↦ omega lin ]

    pub inside_counts : Left (sides t) p → turns at p t ≡ pos 1
    inside_counts = (triangle_counts at t k p z).inside

    pub counted_held : pos 0 <ℤ turns at p t → NotRight (sides t) p
    counted_held h e i = by_lt_z (side_at at p e) (pos 0)
        (λ (n : side_at at p e <ℤ pos 0). let q = (triangle_counts at t k p z).outside e i n in absurd (omega lin))
        (λ (n : pos 0 ≤ℤ side_at at p e). n)

  -- ---- a point of the closed triangle, nudged into it

  pub record Entered (t : Triangle) (es : List Edge) (p : Spot) : Type 0 where
    pub q : Spot
    pub scaled : pos 0 <ℤ q.Z
    pub counted : turns at q t ≡ pos 1
    pub stays_left : (e : Edge) → In e es → pos 0 <ℤ side_at at p e → pos 0 <ℤ side_at at q e

  pub enter : (t : Triangle) → Leftward at t → (es : List Edge) (p : Spot) → pos 0 <ℤ p.Z → NotRight (sides t) p → Entered t es p
  enter t k es p z h =
      let m = has_middle at t k in
      let n = nudge at (sides t ++ es) p m.0 z m.1 in
      record {
        q = n.0;
        scaled = n.1.scaled;
        counted = inside_counts t k n.0 n.1.scaled (λ e i. nears_left n.1 e (in_left e (sides t) es i) (h e i) (m.2 e i));
        stays_left = λ e i. n.1.left e (in_right e (sides t) es i);
      }

  -- ---- what is covered inside is covered on the border too

  module _ (es : List Edge) (g : Spot) (onward : pos 0 <ℤ g.Z) (within : Left es g) (cs : List Triangle) (k : AllLeftward at cs)
      (counted : (q : Spot) → pos 0 <ℤ q.Z → Left es q → pos 0 <ℤ sum_of (turns at q) cs) where
    pub covers : (p : Spot) → pos 0 <ℤ p.Z → NotRight es p → (c : Triangle) × In c cs × NotRight (sides c) p
    covers p z h =
        let n = nudge at (es ++ flat_map sides cs) p g z onward in
        let q = n.0 in
        let z' = n.1.scaled in
        let r = sum_some (turns at q) cs (counted q z' (λ e i. nears_left n.1 e (in_left e es (flat_map sides cs) i) (h e i) (within e i))) in
        let held = counted_held r.0 (k r.0 r.1) q z' r.2 in (
          r.0,
          r.1,
          λ e i. by_lt_z (side_at at p e) (pos 0)
              (λ (l : side_at at p e <ℤ pos 0).
              let m = n.1.right e (in_right e es (flat_map sides cs) (in_joined sides e r.0 cs r.1 i)) l in
              let j = held e i in
              absurd (omega lin))
              (λ (l : pos 0 ≤ℤ side_at at p e). l),
        )

  -- two lists of triangles with the same sums: what a closed one of the first holds, a closed one of the second holds
  pub same_sums_cover : (ts cs : List Triangle) → AllLeftward at ts → AllLeftward at cs → ((f : Edge → ℤ) → Odd f → sum_of (around f) ts ≡ sum_of (around f) cs)
      → (t : Triangle) → In t ts → (p : Spot) → pos 0 <ℤ p.Z → NotRight (sides t) p → (c : Triangle) × In c cs × NotRight (sides c) p
  same_sums_cover ts cs k l same t i p z h =
      let m = has_middle at t (k t i) in
      covers (sides t) m.0 m.1 m.2 cs l
      (λ q y n.
      let e = inside_counts t (k t i) q y n in
      let j = sum_has (turns at q) ts (λ u o. turns_low u (k u o) q y) t i in
      let s = same (edge_crossing at q) (crossing_odd at q) in
      omega lin)
      p z h

  -- the triangles that close the hole around v, and the fan of v
  pub fan_covers : (v : ℕ) (ring : List ℕ) (ts : List Triangle) → Cut ring ts → AllLeftward at (fan v ring) → AllLeftward at ts
      → (t : Triangle) → In t ts → (p : Spot) → pos 0 <ℤ p.Z → NotRight (sides t) p → (c : Triangle) × In c (fan v ring) × NotRight (sides c) p
  fan_covers v ring ts cut k l = same_sums_cover ts (fan v ring) l k (λ f odd. sym (cut_sum f odd ring ts cut) ∙ sym (fan_sum f odd v ring))
