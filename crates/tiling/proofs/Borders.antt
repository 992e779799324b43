-- On which side of the four border edges a point of the sheet and each vertex is.
use Rattle.std.proofs.Common.{◌≡◌, ℕ, zero, suc, ◌<◌, ◌⊎◌, List, [], ◌∷◌, ℤ, pos, ◌-ℤ◌, ◌*ℤ◌, ◌≤ℤ◌, ◌<ℤ◌, sym, refl, subst, inl, inr, arith}
use Rattle.plane.specs.declared.Edge.{Edge}
use Rattle.plane.specs.Edges.{In, edge, ring_edges}
use Rattle.plane.specs.Points.{Spot, spot_at}
use Rattle.plane.proofs.Signs.{lin, right->, times-++, times->>}
use Rattle.tiling.specs.Cells.{Subdivision}
use Rattle.tiling.specs.Order.{InOrder}
use Rattle.tiling.specs.Triangles.{side_at}
use Rattle.tiling.proofs.Rectangles.{bottom, left, right, top}

-- the border, taken to the left
abbrev pub frame : List Edge
frame = ring_edges (0 ∷ 1 ∷ 2 ∷ 3 ∷ [])

each : (P : Edge → Type 0) → P (edge 0 1) → P (edge 1 2) → P (edge 2 3) → P (edge 3 0) → (e : Edge) → In e frame → P e
each P h i j k e (inl q) = subst P (sym q) h
each P h i j k e (inr (inl q)) = subst P (sym q) i
each P h i j k e (inr (inr (inl q))) = subst P (sym q) j
each P h i j k e (inr (inr (inr (inl q)))) = subst P (sym q) k
each P h i j k e (inr (inr (inr (inr n)))) = absurd n

pub weak : {u v : ℤ} → u <ℤ v → u ≤ℤ v
weak h = omega lin

module _ (s : Subdivision) (o : InOrder s) where
  abbrev w : ℤ
  w = s.width

  abbrev h : ℤ
  h = s.height

  module _ (p : Spot) where
    side_01 : side_at s.at p (edge 0 1) ≡ w *ℤ p.Y
    side_01 = rw (o.corner_0, o.corner_1) (bottom w h p)

    side_12 : side_at s.at p (edge 1 2) ≡ h *ℤ (w *ℤ p.Z -ℤ p.X)
    side_12 = rw (o.corner_1, o.corner_2) (right w h p)

    side_23 : side_at s.at p (edge 2 3) ≡ w *ℤ (h *ℤ p.Z -ℤ p.Y)
    side_23 = rw (o.corner_2, o.corner_3) (top w h p)

    side_30 : side_at s.at p (edge 3 0) ≡ h *ℤ p.X
    side_30 = rw (o.corner_3, o.corner_0) (left w h p)

    -- a point of the closed sheet is not to the right of a border edge
    pub frame_low : pos 0 ≤ℤ p.X → p.X ≤ℤ (w *ℤ p.Z) → pos 0 ≤ℤ p.Y → p.Y ≤ℤ (h *ℤ p.Z) → (e : Edge) → In e frame → pos 0 ≤ℤ side_at s.at p e
    frame_low i j k l =
        each (λ e. pos 0 ≤ℤ side_at s.at p e)
        (rw side_01 (times-++ w p.Y (weak o.wide) k)) (rw side_12 (times-++ h (w *ℤ p.Z -ℤ p.X) (weak o.high) (omega lin)))
        (rw side_23 (times-++ w (h *ℤ p.Z -ℤ p.Y) (weak o.wide) (omega lin))) (rw side_30 (times-++ h p.X (weak o.high) i))

    -- what is strictly inside is to the left of them, and the other way round
    pub record Within : Type 0 where
      pub from_left : pos 0 <ℤ p.X
      pub to_right : p.X <ℤ (w *ℤ p.Z)
      pub from_below : pos 0 <ℤ p.Y
      pub to_above : p.Y <ℤ (h *ℤ p.Z)

    left_01 : pos 0 <ℤ p.Y → pos 0 <ℤ side_at s.at p (edge 0 1)
    left_01 k = rw side_01 (times->> w p.Y o.wide k)

    left_12 : p.X <ℤ (w *ℤ p.Z) → pos 0 <ℤ side_at s.at p (edge 1 2)
    left_12 k = rw side_12 (times->> h (w *ℤ p.Z -ℤ p.X) o.high (omega lin))

    left_23 : p.Y <ℤ (h *ℤ p.Z) → pos 0 <ℤ side_at s.at p (edge 2 3)
    left_23 k = rw side_23 (times->> w (h *ℤ p.Z -ℤ p.Y) o.wide (omega lin))

    left_30 : pos 0 <ℤ p.X → pos 0 <ℤ side_at s.at p (edge 3 0)
    left_30 k = rw side_30 (times->> h p.X o.high k)

    pub frame_left : Within → (e : Edge) → In e frame → pos 0 <ℤ side_at s.at p e
    frame_left i = each (λ e. pos 0 <ℤ side_at s.at p e) (left_01 i.from_below) (left_12 i.to_right) (left_23 i.to_above) (left_30 i.from_left)

    pub left_frame : ((e : Edge) → In e frame → pos 0 <ℤ side_at s.at p e) → Within
    left_frame i =
        record {
          from_left = right-> h p.X (weak o.high) (rw side_30 at (i (edge 3 0) (inr (inr (inr (inl refl))))));
          to_right = less p.X (w *ℤ p.Z) (right-> h (w *ℤ p.Z -ℤ p.X) (weak o.high) (rw side_12 at (i (edge 1 2) (inr (inl refl)))));
          from_below = right-> w p.Y (weak o.wide) (rw side_01 at (i (edge 0 1) (inl refl)));
          to_above = less p.Y (h *ℤ p.Z) (right-> w (h *ℤ p.Z -ℤ p.Y) (weak o.wide) (rw side_23 at (i (edge 2 3) (inr (inr (inl refl))))));
        }
      where
        less : (u v : ℤ) → pos 0 <ℤ (v -ℤ u) → u <ℤ v
        less u v k = omega lin

  -- ---- vertices

  -- a vertex is off each border line, or an end of that border edge
  record Placed (v : ℕ) : Type 0 where
    off_bottom : (pos 0 <ℤ (s.at v).y) ⊎ ((v ≡ 0) ⊎ (v ≡ 1))
    off_right : ((s.at v).x <ℤ w) ⊎ ((v ≡ 1) ⊎ (v ≡ 2))
    off_top : ((s.at v).y <ℤ h) ⊎ ((v ≡ 2) ⊎ (v ≡ 3))
    off_left : (pos 0 <ℤ (s.at v).x) ⊎ ((v ≡ 3) ⊎ (v ≡ 0))

  placed : (v : ℕ) → v < s.vertices → Placed v
  placed zero k = record { off_bottom = inr (inl refl); off_right = inl (rw o.corner_0 o.wide); off_top = inl (rw o.corner_0 o.high); off_left = inr (inr refl) }
  placed (suc zero) k = record { off_bottom = inr (inr refl); off_right = inr (inl refl); off_top = inl (rw o.corner_1 o.high); off_left = inl (rw o.corner_1 o.wide) }
  placed (suc (suc zero)) k = record { off_bottom = inl (rw o.corner_2 o.high); off_right = inr (inr refl); off_top = inr (inl refl); off_left = inl (rw o.corner_2 o.wide) }
  placed (suc (suc (suc zero))) k = record { off_bottom = inl (rw o.corner_3 o.high); off_right = inl (rw o.corner_3 o.wide); off_top = inr (inr refl); off_left = inr (inl refl) }
  placed (suc (suc (suc (suc v)))) k =
      let i = o.inner (suc (suc (suc (suc v)))) (omega arith) k in
      record { off_bottom = inl i.below; off_right = inl i.right; off_top = inl i.above; off_left = inl i.left }

  abbrev pub Beyond : ℕ → Edge → Type 0
  Beyond v e = (pos 0 <ℤ side_at s.at (spot_at (s.at v)) e) ⊎ ((v ≡ e.from) ⊎ (v ≡ e.to))

  pub beyond : (v : ℕ) → v < s.vertices → (e : Edge) → In e frame → Beyond v e
  beyond v k =
      let q = placed v k in
      let p = spot_at (s.at v) in
      each (λ e. Beyond v e)
      (⊎_left (left_01 p) q.off_bottom) (⊎_left (λ i. left_12 p (one w i)) q.off_right)
      (⊎_left (λ i. left_23 p (one h i)) q.off_top) (⊎_left (left_30 p) q.off_left)
    where
      ⊎_left : {A B C : Type 0} → (A → B) → A ⊎ C → B ⊎ C
      ⊎_left f (inl x) = inl (f x)
      ⊎_left f (inr y) = inr y

      one : (u : ℤ) {v : ℤ} → v <ℤ u → v <ℤ (u *ℤ pos 1)
      one u i = omega lin
