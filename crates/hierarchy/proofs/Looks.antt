-- What looking at the vertices of a round finds: which are chosen, and how many nodes close their holes.
use Rattle.std.proofs.Common.{◌≡◌, ℕ, zero, suc, ◌+◌, ◌-◌, ◌<◌, ◌≤◌, ◌⊎◌, Bool, true, false, cond, List, [], ◌∷◌, ◌++◌, length, map, nat_lt, replicate, set, Some, None, Option, Ok, Err, Result, is_some, sym, refl, ap, ◌∙◌, subst, inl, inr, arith, length-append, get_or-set_other, get_or-set_same}
use Rattle.std.specs.List.{list_any}
use Rattle.std.proofs.lemmas.Bool.{and_parts, both_ways, cases_eq, cases_lt, cond-false, cond-true, eqb-true, false_from_ne_true, leb-true, lt-ltb, not-true, true≢false}
use Rattle.std.proofs.lemmas.List.{length-map, length-replicate, length-set}
use Rattle.std.proofs.lemmas.List.Folds.{list_any_at}
use Rattle.plane.specs.Edges.{In}
use Rattle.plane.specs.Points.{GridPoint}
use Rattle.tiling.specs.Triangles.{Triangle}
use Rattle.ears.specs.Ears.{cut_of}
use Rattle.ears.proofs.Rotations.{cut_is_cut}
use Rattle.nodes.specs.declared.node.Node.{Node}
use Rattle.fans.specs.declared.around.Turned.{Turned}
use Rattle.fans.specs.Around.{around, left_from, nodes_of}
use Rattle.fans.specs.Fans.{fan_of, is_whole, ring_of}
use Rattle.rounds.specs.Choices.{Found, chosen_too, closed, closed_fan, closing, closings, hole_node, is_choice, is_marked, judge, look, look_all, look_from, look_on, nothing_found, passed}
use Rattle.hierarchy.proofs.Counts.{counted}
use Rattle.hierarchy.proofs.Elements.{place_in}

some_from : {X : Type 0} (o : Option X) → is_some o ≡ true → (x : X) × (o ≡ Some x)
some_from (Some x) h = (x, refl)
some_from None h = absurd (true≢false (sym h))

none_marked : (n w : ℕ) → is_marked (replicate n false) w ≡ false
none_marked zero w = refl
none_marked (suc n) zero = refl
none_marked (suc n) (suc w) = none_marked n w

none_in : (test : ℕ → Bool) (l : List ℕ) → list_any test l ≡ false → (u : ℕ) → In u l → test u ≡ false
none_in test l h u i = false_from_ne_true (test u)
    (λ t. let r = place_in u u l i in both_ways (list_any test l) h (list_any_at test l r.0 u r.1 (ap test r.2 ∙ t)))

module _ (at : ℕ → GridPoint) (nodes : List Node) (live : List ℕ) where
  -- vertex v is chosen: its fan holds all its live nodes, and of the noted corners, which can be cut, none before v is chosen
  pub record Choice (marks : List Bool) (v : ℕ) : Type 0 where
    pub es : List Turned
    pub ts : List Triangle
    pub fan : fan_of (around nodes live v) ≡ Some es
    pub whole : is_whole (around nodes live v) es ≡ true
    pub least : 3 ≤ length es
    pub most : length es ≤ 8
    pub cut : cut_of at (ring_of es) ≡ Some ts
    pub clear : (u : ℕ) → In u (ring_of es) → u < v → is_marked marks u ≡ false

  -- its hole is closed by the triangles of the cut
  pub closes : (marks : List Bool) (v : ℕ) (c : Choice marks v) → closing at nodes live v ≡ map (hole_node at nodes live (nodes_of c.es)) c.ts
  closes marks v c = ap (closed_fan at nodes live) c.fan ∙ ap (closed at nodes live c.es) c.cut

  closing_count : (marks : List Bool) (v : ℕ) → Choice marks v → length (closing at nodes live v) ≡ length (around nodes live v) - 2
  closing_count marks v c =
      let a = ap length (closes marks v c) ∙ length-map c.ts (hole_node at nodes live (nodes_of c.es)) in
      let b = (cut_is_cut at (ring_of c.es) c.ts c.cut).count in
      let d = length-map c.es (λ (t : Turned). t.next) in
      let e = eqb-true _ _ c.whole in
      omega arith

  -- ---- one vertex

  -- it is passed, or it is chosen
  abbrev Stepped : Found → Found → ℕ → Type 0
  Stepped f h v =
      ((h.marks ≡ f.marks) × (h.fresh ≡ f.fresh) × (h.chosen ≡ f.chosen))
      ⊎ (Choice f.marks v × (h.marks ≡ set f.marks v true) × (h.fresh ≡ f.fresh + (length (around nodes live v) - 2)) × (h.chosen ≡ f.chosen + 1))

  same_found : (f h : Found) (v : ℕ) → (f.marks ≡ h.marks) → (f.fresh ≡ h.fresh) → (f.chosen ≡ h.chosen) → Stepped f h v
  same_found f h v m n c = inl (sym m, sym n, sym c)

  judged : (f h : Found) (v : ℕ) (ts es : List Turned) → around nodes live v ≡ ts → fan_of ts ≡ Some es
      → (b : Bool) → is_choice at f.marks ts es ≡ b → cond b (chosen_too v (length ts) f) (passed f) ≡ h → Stepped f h v
  judged f h v ts es a e false c q = same_found f h v (ap (λ (g : Found). g.marks) q) (ap (λ (g : Found). g.fresh) q) (ap (λ (g : Found). g.chosen) q)
  judged f h v ts es a e true c q =
      let r = and_parts _ _ c in
      let r₀ = and_parts _ _ r.0 in
      let r₁ = and_parts _ _ r.1 in
      let sizes = and_parts _ _ r₀.0 in
      let least : 3 ≤ length ts = leb-true _ _ sizes.0 in
      let most : length ts ≤ 8 = leb-true _ _ sizes.1 in
      let size : length es ≡ length ts = eqb-true _ _ r₀.1 in
      let cut = some_from _ r₁.0 in
      inr (
        record {
          es = es;
          ts = cut.0;
          fan = ap fan_of a ∙ e;
          whole = ap (λ l. is_whole l es) a ∙ r₀.1;
          least = omega arith;
          most = omega arith;
          cut = cut.1;
          clear = λ u i l. none_in (is_marked f.marks) (ring_of es) (not-true _ r₁.1) u i;
        },
        sym (ap (λ (g : Found). g.marks) q),
        sym (ap (λ (g : Found). g.fresh) q) ∙ ap (λ l. f.fresh + (length l - 2)) (sym a),
        sym (ap (λ (g : Found). g.chosen) q),
      )

  found_same : (f h : Found) → ◌≡◌ {A = Result Found ℕ} (Ok f) (Ok h) → f ≡ h
  found_same f h e = cc

  judged_any : (f h : Found) (v : ℕ) (ts : List Turned) → around nodes live v ≡ ts → (o : Option (List Turned)) → fan_of ts ≡ o → judge at v ts f o ≡ Ok h → Stepped f h v
  judged_any f h v ts a None e q = cc
  judged_any f h v ts a (Some es) e q = judged f h v ts es a e (is_choice at f.marks ts es) refl (found_same _ _ q)

  stepped : (f h : Found) (v : ℕ) (ts : List Turned) → around nodes live v ≡ ts → look at v ts f ≡ Ok h → Stepped f h v
  stepped f h v [] a q = let s = found_same _ _ q in same_found f h v (ap (λ (g : Found). g.marks) s) (ap (λ (g : Found). g.fresh) s) (ap (λ (g : Found). g.chosen) s)
  stepped f h v (t ∷ ts) a q = judged_any f h v (t ∷ ts) a (fan_of (t ∷ ts)) refl q

  -- ---- the vertices from one on

  record Looked (f g : Found) (v k : ℕ) : Type 0 where
    below : (w : ℕ) → w < v → is_marked g.marks w ≡ is_marked f.marks w
    above : (w : ℕ) → v + k ≤ w → is_marked g.marks w ≡ false
    choice : (w : ℕ) → v ≤ w → is_marked g.marks w ≡ true → Choice g.marks w
    fresh : g.fresh ≡ f.fresh + length (closings at nodes live g.marks k v)
    chosen : g.chosen ≡ f.chosen + counted (is_marked g.marks) k v

  abbrev Unmarked : Found → ℕ → Type 0
  Unmarked f v = (w : ℕ) → v ≤ w → is_marked f.marks w ≡ false

  module _ (k v : ℕ) (f h g : Found) (u : Unmarked f v) (l : v + suc k ≤ length f.marks) (n : Looked h g (v + 1) k) where
    closings_are : (b : Bool) → is_marked g.marks v ≡ b
        → length (closings at nodes live g.marks (suc k) v) ≡ length (cond b (closing at nodes live v) []) + length (closings at nodes live g.marks k (v + 1))
    unfolding closings
    closings_are b e =
        ap (λ b. length (cond b (closing at nodes live v) [] ++ closings at nodes live g.marks k (v + 1))) e
        ∙ length-append (cond b (closing at nodes live v) []) (closings at nodes live g.marks k (v + 1))

    joined : Stepped f h v → Looked f g v (suc k)
    joined (inl s) =
        let here : is_marked g.marks v ≡ false = n.below v (omega arith) ∙ ap (λ ms. is_marked ms v) s.0 ∙ u v (omega arith) in
        record {
          below = λ w i. n.below w (omega arith) ∙ ap (λ ms. is_marked ms w) s.0;
          above = λ w i. n.above w (omega arith);
          choice = λ w i e. elim (cases_eq w v) [
            | inl q ↦ absurd (both_ways (is_marked g.marks v) here (ap (is_marked g.marks) (sym q) ∙ e))
            | inr q ↦ n.choice w (omega arith) e
          ];
          fresh = let a = closings_are false here in let b = n.fresh in let c = s.1 in omega arith;
          chosen = let a : cond {A = ℕ} (is_marked g.marks v) 1 0 ≡ 0 = cond-false _ 1 0 here in let b = n.chosen in let c = s.2 in omega arith;
        }
    joined (inr s) =
        let here : is_marked g.marks v ≡ true = n.below v (omega arith) ∙ ap (λ ms. is_marked ms v) s.1 ∙ get_or-set_same f.marks v true false (omega arith) in
        let c = s.0 in
        let earlier = λ (w : ℕ) (i : w < v). n.below w (omega arith) ∙ ap (λ ms. is_marked ms w) s.1 ∙ get_or-set_other f.marks v w true false (omega arith) in
        record {
          below = earlier;
          above = λ w i. n.above w (omega arith);
          choice = λ w i e. elim (cases_eq w v) [
            | inl q ↦ subst (Choice g.marks) (sym q) (record {
              es = c.es;
              ts = c.ts;
              fan = c.fan;
              whole = c.whole;
              least = c.least;
              most = c.most;
              cut = c.cut;
              clear = λ x j m. earlier x m ∙ c.clear x j m;
            })
            | inr q ↦ n.choice w (omega arith) e
          ];
          fresh = let a = closings_are true here in let b = n.fresh in let d = s.2 in let e = closing_count f.marks v c in omega arith;
          chosen = let a : cond {A = ℕ} (is_marked g.marks v) 1 0 ≡ 1 = cond-true _ 1 0 here in let b = n.chosen in let d = s.3 in omega arith;
        }

  on_ok : (r : Result Found ℕ) (rest : Found → Result Found ℕ) (g : Found) → look_on at r rest ≡ Ok g → (h : Found) × (r ≡ Ok h) × (rest h ≡ Ok g)
  on_ok (Ok h) rest g e = (h, refl, e)
  on_ok (Err v) rest g e = cc

  marks_kept : (f h : Found) (v : ℕ) → Stepped f h v → length h.marks ≡ length f.marks
  marks_kept f h v (inl s) = ap length s.0
  marks_kept f h v (inr s) = ap length s.1 ∙ length-set f.marks v true

  still_unmarked : (f h : Found) (v : ℕ) → Unmarked f v → Stepped f h v → Unmarked h (v + 1)
  still_unmarked f h v u (inl s) w i = ap (λ ms. is_marked ms w) s.0 ∙ u w (omega arith)
  still_unmarked f h v u (inr s) w i = ap (λ ms. is_marked ms w) s.1 ∙ get_or-set_other f.marks v w true false (omega arith) ∙ u w (omega arith)

  looked : (k v : ℕ) (f g : Found) → Unmarked f v → v + k ≤ length f.marks → look_from at nodes live k v f ≡ Ok g → Looked f g v k
  unfolding look_from closings
  looked zero v f g u l e =
      let s = found_same _ _ e in
      record {
        below = λ w i. ap (λ (x : Found). is_marked x.marks w) (sym s);
        above = λ w i. ap (λ (x : Found). is_marked x.marks w) (sym s) ∙ u w (omega arith);
        choice = λ w i t. absurd (both_ways (is_marked g.marks w) (ap (λ (x : Found). is_marked x.marks w) (sym s) ∙ u w i) t);
        fresh = ap (λ (x : Found). x.fresh) (sym s) ∙ omega arith;
        chosen = ap (λ (x : Found). x.chosen) (sym s) ∙ omega arith;
      }
  looked (suc k) v f g u l e =
      let r = on_ok (look at v (around nodes live v) f) (look_from at nodes live k (v + 1)) g e in
      let s = stepped f r.0 v (around nodes live v) refl r.1 in
      let m = marks_kept f r.0 v s in
      joined k v f r.0 g u l (looked k (v + 1) r.0 g (still_unmarked f r.0 v u s) (omega arith) r.2) s

  -- ---- how many are left

  one_left : (f h : Found) (v : ℕ) (ts : List Turned) (b : Bool) → cond b (chosen_too v (length ts) f) (passed f) ≡ h → h.left ≡ f.left + 1
  one_left f h v ts true q = sym (ap (λ (g : Found). g.left) q)
  one_left f h v ts false q = sym (ap (λ (g : Found). g.left) q)

  judged_left : (f h : Found) (v : ℕ) (ts : List Turned) (o : Option (List Turned)) → judge at v ts f o ≡ Ok h → h.left ≡ f.left + 1
  judged_left f h v ts None q = cc
  judged_left f h v ts (Some es) q = one_left f h v ts (is_choice at f.marks ts es) (found_same _ _ q)

  -- a vertex with a live node is left
  stepped_left : (f h : Found) (v : ℕ) (ts : List Turned) → look at v ts f ≡ Ok h → h.left ≡ f.left + cond (nat_lt 0 (length ts)) 1 0
  stepped_left f h v [] q = let s = ap (λ (g : Found). g.left) (found_same _ _ q) in omega arith
  stepped_left f h v (t ∷ ts) q =
      let s = judged_left f h v (t ∷ ts) (fan_of (t ∷ ts)) q in
      let one : cond {A = ℕ} (nat_lt 0 (length (t ∷ ts))) 1 0 ≡ 1 = cond-true _ 1 0 (lt-ltb 0 (length (t ∷ ts)) (omega arith)) in
      omega arith

  looked_left : (k v : ℕ) (f g : Found) → look_from at nodes live k v f ≡ Ok g → g.left ≡ f.left + left_from nodes live k v
  unfolding look_from
  looked_left zero v f g e = let s = ap (λ (x : Found). x.left) (found_same _ _ e) in omega arith
  looked_left (suc k) v f g e =
      let r = on_ok (look at v (around nodes live v) f) (look_from at nodes live k (v + 1)) g e in
      let a = stepped_left f r.0 v (around nodes live v) r.1 in
      let b = looked_left k (v + 1) r.0 g r.2 in
      omega arith

  -- ---- all of them

  -- what a round with n inner vertices finds
  pub record Seen (n : ℕ) (g : Found) : Type 0 where
    pub within : (w : ℕ) → is_marked g.marks w ≡ true → (4 ≤ w) × (w < 4 + n)
    pub choice : (w : ℕ) → is_marked g.marks w ≡ true → Choice g.marks w
    pub fresh : g.fresh ≡ length (closings at nodes live g.marks n 4)
    pub chosen : g.chosen ≡ counted (is_marked g.marks) n 4
    pub left : g.left ≡ left_from nodes live n 4

  pub seen : (n : ℕ) (g : Found) → look_all at nodes live n ≡ Ok g → Seen n g
  seen n g e =
      let k = looked n 4 (nothing_found (n + 4)) g (λ w i. none_marked (n + 4) w) (omega (arith, length-replicate (n + 4) false)) e in
      let inside : (w : ℕ) → is_marked g.marks w ≡ true → 4 ≤ w = λ w t. elim (cases_lt w 4) [
        | inl i ↦ absurd (both_ways (is_marked g.marks w) (k.below w i ∙ none_marked (n + 4) w) t)
        | inr i ↦ i
      ] in
      record {
        within = λ w t. (inside w t, elim (cases_lt w (4 + n)) [ inl i ↦ i | inr i ↦ absurd (both_ways (is_marked g.marks w) (k.above w i) t) ]);
        choice = λ w t. k.choice w (inside w t) t;
        fresh = k.fresh ∙ omega arith;
        chosen = k.chosen ∙ omega arith;
        left = looked_left n 4 (nothing_found (n + 4)) g e ∙ omega arith;
      }
