-- Triangles that count no point twice: which of them reach a point that is strictly inside one, or in the common side of two.
use Rattle.std.proofs.Common.{◌≡◌, ℕ, ◌⊎◌, List, ◌++◌, ℤ, pos, ◌+ℤ◌, ◌≤ℤ◌, ◌<ℤ◌, sym, subst, inl, inr}
use Rattle.std.proofs.lemmas.Int.{by_lt_z}
use Rattle.plane.specs.declared.Edge.{Edge}
use Rattle.plane.specs.Crossings.{edge_crossing}
use Rattle.plane.specs.Edges.{In, back, edge, sum_of}
use Rattle.plane.specs.Points.{GridPoint, Spot, area}
use Rattle.plane.proofs.Determinants.{identities}
use Rattle.plane.proofs.Signs.{lin, times->>}
use Rattle.tiling.specs.Triangles.{AllLeftward, Leftward, Triangle, side_at, sides, turns}
use Rattle.tiling.proofs.Covering.{Entered, Left, NotRight, enter, inside_counts, turns_bit, turns_low}
use Rattle.tiling.proofs.Lists.{in_left, in_right, sum_two}
use Rattle.tiling.proofs.OpenSides.{open_side}
use Rattle.tiling.proofs.Segments.{At, Between, between_back, between_bc, between_ca, end_on, in_side, start_on}
use Rattle.tiling.proofs.Turning.{Seen, every, seen}

module _ (at : ℕ → GridPoint) where
  -- p is in the open edge, or on the edge with its ends
  abbrev pub InEdge : Edge → Spot → Type 0
  InEdge e p = Between (at e.from) (at e.to) p

  abbrev pub OnEdge : Edge → Spot → Type 0
  OnEdge e p = At (at e.from) p ⊎ (At (at e.to) p ⊎ InEdge e p)

  -- ---- one side of one triangle

  module _ (t : Triangle) (k : Leftward at t) (e : Edge) (i : In e (sides t)) (p : Spot) where
    abbrev view : Seen at t e
    view = seen at t e i

    pub next_left : InEdge e p → pos 0 <ℤ side_at at p (edge e.to view.c)
    next_left = between_bc (at e.from) (at e.to) (at view.c) p (view.leftward k)

    pub last_left : InEdge e p → pos 0 <ℤ side_at at p (edge view.c e.from)
    last_left = between_ca (at e.from) (at e.to) (at view.c) p (view.leftward k)

    -- in the open side e no other side is reached
    pub only_side : InEdge e p → (x : Edge) → In x (sides t) → side_at at p x ≡ pos 0 → x ≡ e
    only_side h x j q = elim (view.three x j) [
      | inl r ↦ r
      | inr (inl r) ↦ absurd (off (side_at at p x) q (subst (λ (y : Edge). pos 0 <ℤ side_at at p y) (sym r) (next_left h)))
      | inr (inr r) ↦ absurd (off (side_at at p x) q (subst (λ (y : Edge). pos 0 <ℤ side_at at p y) (sym r) (last_left h)))
    ]
      where
        off : (u : ℤ) → u ≡ pos 0 → pos 0 <ℤ u → ⊥
        off u a b = omega lin

    -- on the side e, p is on its line
    pub side_on : OnEdge e p → side_at at p e ≡ pos 0
    side_on (inl h) = start_on (at e.from) (at e.to) p h
    side_on (inr (inl h)) = end_on (at e.to) (at e.from) p h
    side_on (inr (inr h)) = h.on

    held_by : (pos 0 ≤ℤ side_at at p e) × (pos 0 ≤ℤ side_at at p (edge e.to view.c)) × (pos 0 ≤ℤ side_at at p (edge view.c e.from)) → NotRight at (sides t) p
    held_by h = every at (λ x. pos 0 ≤ℤ side_at at p x) t e view h.0 h.1 h.2

    -- and the closed triangle holds it
    pub side_held : pos 0 <ℤ p.Z → OnEdge e p → NotRight at (sides t) p
    side_held z h = held_by (go h)
      where
        total : pos 0 <ℤ (side_at at p e +ℤ side_at at p (edge e.to view.c) +ℤ side_at at p (edge view.c e.from))
        total =
            rw (identities.sides (at e.from) (at e.to) (at view.c) p)
            (times->> p.Z (area (at e.from) (at e.to) (at view.c)) z (view.leftward k))

        go : OnEdge e p → (pos 0 ≤ℤ side_at at p e) × (pos 0 ≤ℤ side_at at p (edge e.to view.c)) × (pos 0 ≤ℤ side_at at p (edge view.c e.from))
        go (inl j) = let a = side_on h in let b = end_on (at e.from) (at view.c) p j in let c = total in (omega lin, omega lin, omega lin)
        go (inr (inl j)) = let a = side_on h in let b = start_on (at e.to) (at view.c) p j in let c = total in (omega lin, omega lin, omega lin)
        go (inr (inr j)) = let a = side_on h in let b = next_left j in let c = last_left j in (omega lin, omega lin, omega lin)

  -- ---- two triangles on both sides of an edge

  module _ (t t' : Triangle) (k : Leftward at t) (k' : Leftward at t') (e : Edge) (i : In e (sides t)) (i' : In (back e) (sides t')) (p : Spot) (z : pos 0 <ℤ p.Z) where
    pub share : InEdge e p → turns at p t +ℤ turns at p t' ≡ pos 1
    share h =
        let v = seen at t e i in
        let v' = seen at t' (back e) i' in
        let a = v.around_is (edge_crossing at p) in
        let b = v'.around_is (edge_crossing at p) in
        let s = open_side (at e.from) (at e.to) (at v.c) (at v'.c) p z (v.leftward k) (v'.leftward k') h in
        omega lin

-- ---- triangles that count no point twice

pub record Tiles (at : ℕ → GridPoint) (ts : List Triangle) : Type 0 where
  pub leftward : AllLeftward at ts
  pub once : (p : Spot) → pos 0 <ℤ p.Z → sum_of (turns at p) ts ≤ℤ pos 1

module _ {at : ℕ → GridPoint} {ts : List Triangle} (T : Tiles at ts) where
  only : (p : Spot) → pos 0 <ℤ p.Z → (s t : Triangle) → In s ts → In t ts → turns at p s ≡ pos 1 → turns at p t ≡ pos 1 → s ≡ t
  only p z s t i j e f =
      elim (sum_two (turns at p) ts (λ u k. turns_low at u (T.leftward u k) p z) s t i j) [
        | inl q ↦ q
        | inr q ↦ (let h = T.once p z in absurd (omega lin))
      ]

  -- a point strictly inside a triangle is in no other closed one
  pub inside_only : (p : Spot) → pos 0 <ℤ p.Z → (s t : Triangle) → In s ts → In t ts → NotRight at (sides s) p → Left at (sides t) p → s ≡ t
  inside_only p z s t i j h k =
      let n = enter at s (T.leftward s i) (sides t) p z h in
      only n.q n.scaled s t i j n.counted (inside_counts at t (T.leftward t j) n.q n.scaled (λ e m. n.stays_left e m (k e m)))

  -- a point in the open common side of two is in no other closed one
  pub between_only : (p : Spot) → pos 0 <ℤ p.Z → (s t t' : Triangle) (e : Edge) → In s ts → In t ts → In t' ts → NotRight at (sides s) p
      → In e (sides t) → In (back e) (sides t') → InEdge at e p → (s ≡ t) ⊎ (s ≡ t')
  between_only p z s t t' e i j j' h m m' b =
      by_lt_z (pos 0) (side_at at q e)
      (λ (x : pos 0 <ℤ side_at at q e). inl (one t j (inside t j m x next last)))
      (λ (x : side_at at q e ≤ℤ pos 0). by_lt_z (side_at at q e) (pos 0)
      (λ (y : side_at at q e <ℤ pos 0). inr (one t' j' (inside t' j' m' (let a = identities.turned (at e.to) (at e.from) q in omega lin) next' last')))
      (λ (y : pos 0 ≤ℤ side_at at q e).
      let c = share at t t' (T.leftward t j) (T.leftward t' j') e m m' q n.scaled
      (in_side (at e.from) (at e.to) (at v.c) q (v.leftward (T.leftward t j)) (omega lin) next last) in
      elim (turns_bit at t (T.leftward t j) q n.scaled) [ inr f ↦ inl (one t j f) | inl f ↦ inr (one t' j' (omega lin)) ]))
    where
      n : Entered at s (sides t ++ sides t') p
      n = enter at s (T.leftward s i) (sides t ++ sides t') p z h

      q : Spot
      q = n.q

      one : (u : Triangle) → In u ts → turns at q u ≡ pos 1 → s ≡ u
      one u a c = only q n.scaled s u i a n.counted c

      v : Seen at t e
      v = seen at t e m

      v' : Seen at t' (back e)
      v' = seen at t' (back e) m'

      inside : (u : Triangle) (a : In u ts) {x : Edge} (c : In x (sides u)) → pos 0 <ℤ side_at at q x → pos 0 <ℤ side_at at q (edge x.to (seen at u x c).c) → pos 0 <ℤ side_at at q (edge (seen at u x c).c x.from) → turns at q u ≡ pos 1
      inside u a {x} c d f g = inside_counts at u (T.leftward u a) q n.scaled (every at (λ y. pos 0 <ℤ side_at at q y) u x (seen at u x c) d f g)

      next : pos 0 <ℤ side_at at q (edge e.to v.c)
      next = n.stays_left _ (in_left _ (sides t) (sides t') v.second) (next_left at t (T.leftward t j) e m p b)

      last : pos 0 <ℤ side_at at q (edge v.c e.from)
      last = n.stays_left _ (in_left _ (sides t) (sides t') v.third) (last_left at t (T.leftward t j) e m p b)

      next' : pos 0 <ℤ side_at at q (edge e.from v'.c)
      next' = n.stays_left _ (in_right _ (sides t) (sides t') v'.second) (next_left at t' (T.leftward t' j') (back e) m' p (between_back b))

      last' : pos 0 <ℤ side_at at q (edge v'.c e.to)
      last' = n.stays_left _ (in_right _ (sides t) (sides t') v'.third) (last_left at t' (T.leftward t' j') (back e) m' p (between_back b))
