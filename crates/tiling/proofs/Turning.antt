-- A triangle may be begun at any of its corners; so one argument, on its first side, serves all three.
use Rattle.std.proofs.Common.{◌≡◌, ℕ, ◌⊎◌, ℤ, pos, ◌+ℤ◌, ◌<ℤ◌, sym, refl, ◌∙◌, subst, inl, inr}
use Rattle.plane.specs.declared.Edge.{Edge}
use Rattle.plane.specs.Edges.{In, edge}
use Rattle.plane.specs.Points.{GridPoint, area}
use Rattle.plane.proofs.Signs.{lin}
use Rattle.tiling.specs.Triangles.{Leftward, Triangle, around, sides, triangle}
use Rattle.tiling.proofs.Segments.{area_turn}

module _ (at : ℕ → GridPoint) where
  abbrev pub area_of : Triangle → ℤ
  area_of t = area (at t.a) (at t.b) (at t.c)

  -- the same triangle, begun elsewhere
  pub record Same (t u : Triangle) : Type 0 where
    pub area_is : area_of t ≡ area_of u
    pub around_is : (f : Edge → ℤ) → around f t ≡ around f u
    pub sides_to : (e : Edge) → In e (sides t) → In e (sides u)
    pub sides_from : (e : Edge) → In e (sides u) → In e (sides t)

  pub same : (t : Triangle) → Same t t
  same t = record { area_is = refl; around_is = λ f. refl; sides_to = λ e i. i; sides_from = λ e i. i }

  abbrev pub next : Triangle → Triangle
  next t = triangle t.b t.c t.a

  pub same_next : (t u : Triangle) → Same t u → Same t (next u)
  same_next t u s =
      record {
        area_is = s.area_is ∙ area_turn (at u.a) (at u.b) (at u.c);
        around_is = λ f. s.around_is f ∙ cycle (f (edge u.a u.b)) (f (edge u.b u.c)) (f (edge u.c u.a));
        sides_to = λ e i. to e (s.sides_to e i);
        sides_from = λ e i. s.sides_from e (from e i);
      }
    where
      cycle : (x y z : ℤ) → x +ℤ (y +ℤ (z +ℤ pos 0)) ≡ y +ℤ (z +ℤ (x +ℤ pos 0))
      cycle x y z = omega lin

      to : (e : Edge) → In e (sides u) → In e (sides (triangle u.b u.c u.a))
      to e (inl h) = inr (inr (inl h))
      to e (inr (inl h)) = inl h
      to e (inr (inr (inl h))) = inr (inl h)
      to e (inr (inr (inr n))) = absurd n

      from : (e : Edge) → In e (sides (triangle u.b u.c u.a)) → In e (sides u)
      from e (inl h) = inr (inl h)
      from e (inr (inl h)) = inr (inr (inl h))
      from e (inr (inr (inl h))) = inl h
      from e (inr (inr (inr n))) = absurd n

  -- t, begun at its side e: c is the corner across from e
  pub record Seen (t : Triangle) (e : Edge) : Type 0 where
    pub c : ℕ
    pub leftward : Leftward at t → pos 0 <ℤ area (at e.from) (at e.to) (at c)
    pub around_is : (f : Edge → ℤ) → around f t ≡ around f (triangle e.from e.to c)
    pub three : (x : Edge) → In x (sides t) → (x ≡ e) ⊎ ((x ≡ edge e.to c) ⊎ (x ≡ edge c e.from))
    pub second : In (edge e.to c) (sides t)
    pub third : In (edge c e.from) (sides t)

  abbrev pub see : (t u : Triangle) → Same t u → Seen t (edge u.a u.b)
  see t u s =
      record {
        c = u.c;
        leftward = λ k. subst (λ (x : ℤ). pos 0 <ℤ x) s.area_is k;
        around_is = s.around_is;
        three = λ x i. only x (s.sides_to x i);
        second = s.sides_from (edge u.b u.c) (inr (inl refl));
        third = s.sides_from (edge u.c u.a) (inr (inr (inl refl)));
      }
    where
      only : (x : Edge) → In x (sides u) → (x ≡ edge u.a u.b) ⊎ ((x ≡ edge u.b u.c) ⊎ (x ≡ edge u.c u.a))
      only x (inl q) = inl q
      only x (inr (inl q)) = inr (inl q)
      only x (inr (inr (inl q))) = inr (inr q)
      only x (inr (inr (inr n))) = absurd n

  abbrev pub seen_ab : (t : Triangle) → Seen t (edge t.a t.b)
  seen_ab t = see t t (same t)

  abbrev pub seen_bc : (t : Triangle) → Seen t (edge t.b t.c)
  seen_bc t = see t (next t) (same_next t t (same t))

  abbrev pub seen_ca : (t : Triangle) → Seen t (edge t.c t.a)
  seen_ca t = see t (next (next t)) (same_next t (next t) (same_next t t (same t)))

  pub seen : (t : Triangle) (e : Edge) → In e (sides t) → Seen t e
  seen t e (inl h) = subst (λ (x : Edge). Seen t x) (sym h) (seen_ab t)
  seen t e (inr (inl h)) = subst (λ (x : Edge). Seen t x) (sym h) (seen_bc t)
  seen t e (inr (inr (inl h))) = subst (λ (x : Edge). Seen t x) (sym h) (seen_ca t)
  seen t e (inr (inr (inr n))) = absurd n

  -- what holds of e and of the two other sides holds of all
  pub every : (P : Edge → Type 0) (t : Triangle) (e : Edge) (s : Seen t e) → P e → P (edge e.to s.c) → P (edge s.c e.from) → (x : Edge) → In x (sides t) → P x
  every P t e s i j k x h = elim (s.three x h) [ inl q ↦ subst P (sym q) i | inr r ↦ elim r [ inl q ↦ subst P (sym q) j | inr q ↦ subst P (sym q) k ] ]
