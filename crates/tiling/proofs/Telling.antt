-- A triangle of a cut that holds a point tells the cell that holds it.
use Rattle.std.proofs.Common.{◌≡◌, ℕ, ◌<◌, Bool, true, false, cond, ◌⊎◌, List, [], length, ℤ, pos, ◌≤ℤ◌, ◌<ℤ◌, sym, refl, ap, ◌∙◌, subst, inl, inr}
use Rattle.std.proofs.lemmas.Int.{by_lt_z}
use Rattle.std.proofs.lemmas.Bool.{both_ways}
use Rattle.plane.specs.declared.Edge.{Edge}
use Rattle.plane.specs.Crossings.{crossing_sum}
use Rattle.plane.specs.Edges.{In, back, edge}
use Rattle.plane.specs.Points.{Spot}
use Rattle.plane.proofs.Signs.{lin}
use Rattle.tiling.specs.Cells.{Cell, Subdivision, cell_holds, drawn, face, listed, vertex}
use Rattle.plane.specs.Edges.{outside}
use Rattle.tiling.specs.Lemmas.{SideOf}
use Rattle.tiling.specs.Order.{InOrder, Triangulated, loop_of}
use Rattle.tiling.specs.Theorems.{edge_named, told_by}
use Rattle.tiling.specs.Triangles.{Leftward, Triangle, side_at, sides}
use Rattle.tiling.proofs.Covering.{Left, NotRight, inside_counts, turns_bit}
use Rattle.tiling.proofs.Cuts.{cut_sides}
use Rattle.tiling.proofs.Holding.{Clear, Drawn, above_int_same, drawn_true, edge_held, face_held, on_back, int_same_of_same, true_drawn, vertex_held}
use Rattle.tiling.proofs.Lists.{in_left}
use Rattle.tiling.proofs.Overlaps.{InEdge, OnEdge, Tiles, between_only, inside_only, only_side, share, side_held, side_on}
use Rattle.tiling.proofs.Segments.{between_back, common_corner, in_side}
use Rattle.tiling.proofs.Sheets.{all, all_of, in_get_or, inner, listed_inner, loop_counts, loop_inner, owner, tiles}
use Rattle.tiling.proofs.Turning.{Seen, every, seen_ab, seen_bc, seen_ca}

module _ (s : Subdivision) (triangles : ℕ → List Triangle) (o : InOrder s) (g : Triangulated s triangles) (p : Spot) (z : pos 0 <ℤ p.Z) where
  abbrev T : Tiles s.at (all s triangles o g)
  T = tiles s triangles o g

  -- where p is on a listed edge, a triangle with that side holds it
  touched : (e : Edge) → In e (listed s) → OnEdge s.at e p
      → (x : Edge) × ((x ≡ e) ⊎ (x ≡ back e)) × (SideOf x (all s triangles o g) × OnEdge s.at x p)
  touched e i h = elim (listed_inner s o e i) [
    | inl j ↦ (e, inl refl, (owner s triangles o g e j, h))
    | inr j ↦ (back e, inr refl, (owner s triangles o g (back e) j, on_back s.at e p h))
  ]

  module _ (l : ℕ) (in-loops : l < length s.loops) (t : Triangle) (i : In t (triangles l)) where
    here : In t (all s triangles o g)
    here = all_of s triangles o g l in-loops t i

    k : Leftward s.at t
    k = g.leftward l in-loops t i

    -- strictly inside a triangle, p is in the face of its loop
    inside_face : Left s.at (sides t) p → cell_holds s (face l) p ≡ true
    inside_face h =
        face_held s p l (loop_counts s triangles o g p z l in-loops t i (inside_counts s.at t k p z h))
        (λ e j d.
        let r = touched e j d in
        let u = r.2.0.0 in
        let k' = T.leftward u r.2.0.1 in
        let q = inside_only T p z u t r.2.0.1 here (side_held s.at u k' r.0 r.2.0.2 p z r.2.1) h in
        let a = h r.0 (subst (λ (w : Triangle). In r.0 (sides w)) q r.2.0.2) in
        let b = side_on s.at u k' r.0 r.2.0.2 p r.2.1 in
        off (side_at s.at p r.0) b a)
      where
        off : (u : ℤ) → u ≡ pos 0 → pos 0 <ℤ u → ⊥
        off u a b = omega lin

    -- in an open side that is no edge of the sheet, it is too: the triangle on the other side is of the same cut
    hidden_face : (e : Edge) → In e (sides t) → InEdge s.at e p → drawn s e.from e.to ≡ false → cell_holds s (face l) p ≡ true
    hidden_face e m b n = elim ((cut_sides (loop_of s l) (triangles l) (g.cut l in-loops)).twins e (t, i, m)) [
      | inl r ↦ absurd (undrawn (inl (in_left e (inner s) outside (loop_inner s l in-loops e r))))
      | inr r ↦ beside r.0 r.1 r.2
    ]
      where
        undrawn : Drawn s e.from e.to → ⊥
        undrawn d = both_ways (drawn s e.from e.to) n (true_drawn s e.from e.to d)

        beside : (t' : Triangle) → In t' (triangles l) → In (back e) (sides t') → cell_holds s (face l) p ≡ true
        beside t' i' m' = face_held s p l counted clear
          where
            k' : Leftward s.at t'
            k' = g.leftward l in-loops t' i'

            here' : In t' (all s triangles o g)
            here' = all_of s triangles o g l in-loops t' i'

            counted : crossing_sum s.at (loop_of s l) p ≡ pos 1
            counted =
                let q = share s.at t t' k k' e m m' p z b in
                elim (turns_bit s.at t k p z) [
                  | inr a ↦ loop_counts s triangles o g p z l in-loops t i a
                  | inl a ↦ loop_counts s triangles o g p z l in-loops t' i' (omega lin)
                ]

            -- a listed edge through p is a side of t or of t', so it is e
            only : (u : Triangle) → In u (all s triangles o g) → (x : Edge) → In x (sides u) → OnEdge s.at x p → (x ≡ e) ⊎ (x ≡ back e)
            only u a x c d =
                let k'' = T.leftward u a in
                let w = side_on s.at u k'' x c p d in
                elim (between_only T p z u t t' e a here here' (side_held s.at u k'' x c p z d) m m' b) [
                  | inl q ↦ inl (only_side s.at t k e m p b x (subst (λ (y : Triangle). In x (sides y)) q c) w)
                  | inr q ↦ inr (only_side s.at t' k' (back e) m' p (between_back b) x (subst (λ (y : Triangle). In x (sides y)) q c) w)
                ]

            listed_e : (x y : Edge) → In y (listed s) → (x ≡ y) ⊎ (x ≡ back y) → (x ≡ e) ⊎ (x ≡ back e) → Drawn s e.from e.to
            listed_e x y j (inl c) (inl d) = inl (subst (λ (w : Edge). In w (listed s)) (sym c ∙ d) j)
            listed_e x y j (inl c) (inr d) = inr (subst (λ (w : Edge). In w (listed s)) (sym c ∙ d) j)
            listed_e x y j (inr c) (inl d) = inr (subst (λ (w : Edge). In w (listed s)) (sym (ap back c) ∙ ap back d) j)
            listed_e x y j (inr c) (inr d) = inl (subst (λ (w : Edge). In w (listed s)) (sym (ap back c) ∙ ap back d) j)

            clear : Clear s p
            clear y j d = let r = touched y j d in undrawn (listed_e r.0 y j r.1 (only r.2.0.0 r.2.0.1 r.0 r.2.0.2 r.2.1))

    -- ---- by which sides p is on

    -- the cell that an open side tells
    side_cell : (e : Edge) → In e (sides t) → InEdge s.at e p → (b : Bool) → drawn s e.from e.to ≡ b → cell_holds s (cond b (edge_named e.from e.to) (face l)) p ≡ true
    side_cell e m h true d = edge_held s p e.from e.to (drawn_true s e.from e.to d) h
    side_cell e m h false d = hidden_face e m h d

    -- where two sides meet, p is their corner
    corner_cell : (e : Edge) → In e (sides t) → (v : Seen s.at t e) → side_at s.at p e ≡ pos 0 → side_at s.at p (edge v.c e.from) ≡ pos 0 → cell_holds s (vertex e.from) p ≡ true
    corner_cell e m v a b =
        vertex_held s p e.from (o.named (loop_of s l) (in_get_or [] s.loops l in-loops) e.from ((cut_sides (loop_of s l) (triangles l) (g.cut l in-loops)).corners e (t, i, m)).0)
        (common_corner (s.at e.from) (s.at e.to) (s.at v.c) p z (v.leftward k) a b)

    open_cell : (e : Edge) → In e (sides t) → (v : Seen s.at t e) → side_at s.at p e ≡ pos 0 → pos 0 <ℤ side_at s.at p (edge e.to v.c) → pos 0 <ℤ side_at s.at p (edge v.c e.from)
        → cell_holds s (cond (drawn s e.from e.to) (edge_named e.from e.to) (face l)) p ≡ true
    open_cell e m v a b c = side_cell e m (in_side (s.at e.from) (s.at e.to) (s.at v.c) p (v.leftward k) a b c) (drawn s e.from e.to) refl

    pub tells : NotRight s.at (sides t) p → cell_holds s (told_by s l t p) p ≡ true
    tells h =
        sign ab (h (edge t.a t.b) m₁)
        (λ i₁. let q₁ = int_same_of_same ab (pos 0) i₁ in sign ca (h (edge t.c t.a) m₃)
        (λ i₃. let q₃ = int_same_of_same ca (pos 0) i₃ in by_cell (vertex t.a) (cc) (corner_cell (edge t.a t.b) m₁ (seen_ab s.at t) i₁ i₃))
        (λ j₃. let q₃ = above_int_same ca j₃ in sign bc (h (edge t.b t.c) m₂)
        (λ i₂. let q₂ = int_same_of_same bc (pos 0) i₂ in by_cell (vertex t.b) (cc) (corner_cell (edge t.b t.c) m₂ (seen_bc s.at t) i₂ i₁))
        (λ j₂. let q₂ = above_int_same bc j₂ in by_cell (sided t.a t.b) (cc) (open_cell (edge t.a t.b) m₁ (seen_ab s.at t) i₁ j₂ j₃))))
        (λ j₁. let q₁ = above_int_same ab j₁ in sign bc (h (edge t.b t.c) m₂)
        (λ i₂. let q₂ = int_same_of_same bc (pos 0) i₂ in sign ca (h (edge t.c t.a) m₃)
        (λ i₃. let q₃ = int_same_of_same ca (pos 0) i₃ in by_cell (vertex t.c) (cc) (corner_cell (edge t.c t.a) m₃ (seen_ca s.at t) i₃ i₂))
        (λ j₃. let q₃ = above_int_same ca j₃ in by_cell (sided t.b t.c) (cc) (open_cell (edge t.b t.c) m₂ (seen_bc s.at t) i₂ j₃ j₁)))
        (λ j₂. let q₂ = above_int_same bc j₂ in sign ca (h (edge t.c t.a) m₃)
        (λ i₃. let q₃ = int_same_of_same ca (pos 0) i₃ in by_cell (sided t.c t.a) (cc) (open_cell (edge t.c t.a) m₃ (seen_ca s.at t) i₃ j₁ j₂))
        (λ j₃. let q₃ = above_int_same ca j₃ in by_cell (face l) (cc) (inside_face (every s.at (λ e. pos 0 <ℤ side_at s.at p e) t (edge t.a t.b) (seen_ab s.at t) j₁ j₂ j₃)))))
      where
        ab : ℤ
        ab = side_at s.at p (edge t.a t.b)

        bc : ℤ
        bc = side_at s.at p (edge t.b t.c)

        ca : ℤ
        ca = side_at s.at p (edge t.c t.a)

        m₁ : In (edge t.a t.b) (sides t)
        m₁ = inl refl

        m₂ : In (edge t.b t.c) (sides t)
        m₂ = inr (inl refl)

        m₃ : In (edge t.c t.a) (sides t)
        m₃ = inr (inr (inl refl))

        sign : {P : Type 0} (d : ℤ) → pos 0 ≤ℤ d → (d ≡ pos 0 → P) → (pos 0 <ℤ d → P) → P
        sign d low x y = by_lt_z (pos 0) d y (λ (n : d ≤ℤ pos 0). x (omega lin))

        sided : ℕ → ℕ → Cell
        sided u v = cond (drawn s u v) (edge_named u v) (face l)

        by_cell : (c : Cell) → told_by s l t p ≡ c → cell_holds s c p ≡ true → cell_holds s (told_by s l t p) p ≡ true
        by_cell c e r = subst (λ (x : Cell). cell_holds s x p ≡ true) (sym e) r
