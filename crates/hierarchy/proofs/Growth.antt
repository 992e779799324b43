-- What every round keeps: the nodes turn left, the live ones have the sum of the border, and children cover their node.
use Rattle.std.proofs.Common.{◌≡◌, ℕ, zero, suc, ◌+◌, ◌-◌, ◌<◌, ◌≤◌, Bool, true, false, cond, not, List, [], ◌∷◌, ◌++◌, length, get_or, replicate, ℤ, pos, ◌<ℤ◌, Ok, sym, refl, ap, ◌∙◌, subst, inl, inr, arith, length-append}
use Rattle.std.specs.List.{filter, range_with_len}
use Rattle.std.proofs.lemmas.Bool.{cases_lt}
use Rattle.std.proofs.lemmas.List.{get_or-append-add, get_or-append_right, get_or-replicate, get_or_append_left, length-map, length-replicate}
use Rattle.plane.specs.declared.Edge.{Edge}
use Rattle.plane.specs.Edges.{In, sum_of}
use Rattle.plane.specs.Points.{GridPoint, Spot}
use Rattle.plane.proofs.Signs.{lin}
use Rattle.tiling.specs.Lemmas.{Odd}
use Rattle.tiling.specs.Triangles.{Leftward, Triangle, around, closed_holds, corners}
use Rattle.tiling.proofs.Borders.{frame}
use Rattle.tiling.proofs.Lists.{in_split, sum-++}
use Rattle.tiling.proofs.Sheets.{in_get_or}
use Rattle.nodes.specs.declared.node.Node.{Node}
use Rattle.nodes.specs.Nodes.{blank}
use Rattle.fans.specs.declared.around.Turned.{Turned}
use Rattle.fans.specs.Around.{nodes_of}
use Rattle.rounds.specs.Choices.{Found, closing, closings, goes, hole_node, is_marked, look_all, rounded_live, rounded_nodes}
use Rattle.hierarchy.specs.Layers.{child, node_at, shape, triangle_of}
use Rattle.hierarchy.specs.Theorems.{Ascends}
use Rattle.hierarchy.proofs.Elements.{in_filter, in_range, place_in, sum_range, sum_same, sum_split, where_true}
use Rattle.hierarchy.proofs.Holes.{closing_corner, closing_covered, closing_leftward, closing_node, fan_live, noted_corner}
use Rattle.hierarchy.proofs.Looks.{Choice, Seen, seen}
use Rattle.hierarchy.proofs.Shares.{closings_from, closings_sum, shares, taken_once}

-- ---- numbers that ascend

ascends_from : (a b : ℕ) (l : List ℕ) → a ≤ b → Ascends b l → Ascends a l
ascends_from a b [] h s = tt
ascends_from a b (k ∷ l) h s = let i = s.0 in (omega arith, s.1)

pub ascends_range : (a n : ℕ) → Ascends a (range_with_len a n)
ascends_range a zero = tt
ascends_range a (suc n) = (omega arith, ascends_range (a + 1) n)

ascends_filter : (test : ℕ → Bool) (a : ℕ) (l : List ℕ) → Ascends a l → Ascends a (filter test l)
ascends_filter test a [] s = tt
ascends_filter test a (k ∷ l) s = go (test k) (ascends_filter test (k + 1) l s.1)
  where
    go : (b : Bool) → Ascends (k + 1) (filter test l) → Ascends a (cond b (k ∷ filter test l) (filter test l))
    go true i = (s.0, i)
    go false i = let j = s.0 in ascends_from a (k + 1) (filter test l) (omega arith) i

ascends_joined : (a b : ℕ) (l m : List ℕ) → a ≤ b → Ascends a l → ((k : ℕ) → In k l → k < b) → Ascends b m → Ascends a (l ++ m)
ascends_joined a b [] m h s i t = ascends_from a b m h t
ascends_joined a b (k ∷ l) m h s i t = let j = i k (inl refl) in (s.0, ascends_joined (k + 1) b l m (omega arith) s.1 (λ x y. i x (inr y)) t)

-- ---- a node with children

-- node k, of so many nodes, made in so many rounds, has children: they have lower numbers, are made earlier, and cover it
pub record Parent (at : ℕ → GridPoint) (nodes : List Node) (made : List ℕ) (k : ℕ) (n : Node) : Type 0 where
  pub least : 0 < n.count
  pub most : n.count ≤ 8
  pub lower : (i : ℕ) → i < n.count → child n i < k
  pub earlier : (i : ℕ) → i < n.count → get_or made (child n i) 0 < get_or made k 0
  pub covers : (p : Spot) → pos 0 <ℤ p.Z → closed_holds at (shape n) p ≡ true
      → (i : ℕ) × (i < n.count) × (closed_holds at (triangle_of nodes (child n i)) p ≡ true)

pub node_before : (nodes more : List Node) (k : ℕ) → k < length nodes → node_at (nodes ++ more) k ≡ node_at nodes k
node_before nodes more k l = get_or_append_left nodes more blank k l

still_parent : (at : ℕ → GridPoint) (nodes more : List Node) (made later : List ℕ) (k : ℕ) (n : Node) → length made ≡ length nodes → k < length nodes
    → Parent at nodes made k n → Parent at (nodes ++ more) (made ++ later) k n
still_parent at nodes more made later k n e l h =
    record {
      least = h.least;
      most = h.most;
      lower = h.lower;
      earlier = λ i j.
          let a = h.lower i j in
          let b = h.earlier i j in
          let c = get_or_append_left made later 0 (child n i) (omega arith) in
          let d = get_or_append_left made later 0 k (omega arith) in
          omega arith;
      covers = λ p z g.
          let r = h.covers p z g in
          let a = h.lower r.0 r.1 in
          (r.0, r.1, subst (λ m. closed_holds at (shape m) p ≡ true) (sym (node_before nodes more (child n r.0) (omega arith))) r.2);
    }

-- ---- what is kept

pub record Kept (at : ℕ → GridPoint) (vertices : ℕ) (ns nodes : List Node) (live made : List ℕ) (r : ℕ) : Type 0 where
  pub leftward : (k : ℕ) → k < length nodes → Leftward at (triangle_of nodes k)
  pub named : (k : ℕ) → k < length nodes → (u : ℕ) → In u (corners (triangle_of nodes k)) → u < vertices
  pub ascending : Ascends 0 live
  pub alive : (k : ℕ) → In k live → k < length nodes
  pub total : (f : Edge → ℤ) → Odd f → sum_of (λ k. around f (triangle_of nodes k)) live ≡ sum_of f frame
  pub dated : length made ≡ length nodes
  pub past : (k : ℕ) → k < length nodes → get_or made k 0 ≤ r
  pub grown : length ns ≤ length nodes
  pub first : (k : ℕ) → k < length ns → node_at nodes k ≡ node_at ns k
  pub later : (k : ℕ) → length ns ≤ k → k < length nodes → Parent at nodes made k (node_at nodes k)

module _ (at : ℕ → GridPoint) (vertices : ℕ) (ns nodes : List Node) (live made : List ℕ) (r : ℕ) (h : Kept at vertices ns nodes live made r) (n : ℕ) (f : Found)
    (e : look_all at nodes live n ≡ Ok f) where
  found : Seen at nodes live n f
  found = seen at nodes live n f e

  abbrev fresh : List Node
  fresh = closings at nodes live f.marks n 4

  abbrev dates : List ℕ
  dates = replicate (length fresh) (r + 1)

  grows : length (nodes ++ fresh) ≡ length nodes + length fresh
  grows = length-append nodes fresh

  -- a new node is of a chosen vertex
  pub record New (x : Node) : Type 0 where
    pub v : ℕ
    pub chosen : is_marked f.marks v ≡ true
    pub made_there : In x (closing at nodes live v)
    pub choice : Choice at nodes live f.marks v

  pub new : (x : Node) → In x fresh → New x
  new x i = let r = closings_from at nodes live f.marks found.choice x n 4 i in record { v = r.0; chosen = r.1; made_there = r.2; choice = found.choice r.0 r.1 }

  -- node k is an old one, or a new one
  pub new_at : (k : ℕ) → length nodes ≤ k → k < length (nodes ++ fresh) → In (node_at (nodes ++ fresh) k) fresh
  new_at k l m =
      let g = grows in
      subst (λ x. In x fresh) (sym (get_or-append_right nodes fresh (length nodes) k blank refl l)) (in_get_or blank fresh (k - length nodes) (omega arith))

  date_of_new : (k : ℕ) → length nodes ≤ k → k < length (nodes ++ fresh) → get_or (made ++ dates) k 0 ≡ r + 1
  date_of_new k l m =
      let g = grows in
      let d = h.dated in
      get_or-append_right made dates (length nodes) k 0 d l ∙ get_or-replicate (length fresh) (k - length nodes) (r + 1) 0 (omega arith)

  date_of_old : (k : ℕ) → k < length nodes → get_or (made ++ dates) k 0 ≡ get_or made k 0
  date_of_old k l = let d = h.dated in get_or_append_left made dates 0 k (omega arith)

  -- ---- its children

  module _ (k : ℕ) (l : length nodes ≤ k) (m : k < length (nodes ++ fresh)) (x : Node) (w : New x) where
    abbrev kids : List ℕ
    kids = nodes_of w.choice.es

    abbrev kid_count : length kids ≡ length w.choice.es
    kid_count = length-map w.choice.es (λ (t : Turned). t.node)

    child_in : (t : Triangle) → hole_node at nodes live kids t ≡ x → (i : ℕ) → i < x.count → In (child x i) kids
    child_in t q i j =
        let c = ap (λ (y : Node). y.count) q in
        subst (λ y. In (child y i) kids) q
        (subst (λ u. In u kids) (sym (get_or_append_left kids (replicate (8 - length kids) 0) 0 i (omega arith))) (in_get_or 0 kids i (omega arith)))

    child_below : (i : ℕ) → i < x.count → child x i < length nodes
    child_below i j =
        let t = closing_node at nodes live f.marks w.v w.choice x w.made_there in
        h.alive (child x i) (fan_live at nodes live f.marks w.v w.choice (child x i) (child_in t.0 t.2 i j)).0

    new_covers : (t : Triangle) → hole_node at nodes live kids t ≡ x → (p : Spot) → pos 0 <ℤ p.Z → closed_holds at (shape x) p ≡ true
        → (i : ℕ) × (i < x.count) × (closed_holds at (triangle_of (nodes ++ fresh) (child x i)) p ≡ true)
    new_covers t q p z g =
        let a = closing_covered at nodes live f.marks w.v w.choice h.leftward x w.made_there p z g in
        let b = place_in 0 a.0 kids a.1 in
        let c = ap (λ (y : Node). y.count) q in
        let inside : b.0 < length kids = b.1 in
        let is : child x b.0 ≡ a.0 =
        ap (λ (y : Node). child y b.0) (sym q) ∙ get_or_append_left kids (replicate (8 - length kids) 0) 0 b.0 inside ∙ b.2 in
        let old = child_below b.0 (omega arith) in (
          b.0,
          (omega arith),
          subst (λ y. closed_holds at (shape y) p ≡ true) (sym (node_before nodes fresh (child x b.0) old))
              (subst (λ u. closed_holds at (triangle_of nodes u) p ≡ true) (sym is) a.2),
        )

    new_parent : Parent at (nodes ++ fresh) (made ++ dates) k x
    new_parent =
        let t = closing_node at nodes live f.marks w.v w.choice x w.made_there in
        let c : length kids ≡ x.count = ap (λ (y : Node). y.count) t.2 in
        let d = kid_count in
        let least = w.choice.least in
        let most = w.choice.most in
        record {
          least = omega arith;
          most = omega arith;
          lower = λ i j. (let b = child_below i j in omega arith);
          earlier = λ i j.
              let b = child_below i j in
              let u = date_of_old (child x i) b in
              let v = h.past (child x i) b in
              let y = date_of_new k l m in
              omega arith;
          covers = new_covers t.0 t.2;
        }

  -- ---- the live nodes

  abbrev now : List Node
  now = nodes ++ fresh

  new_sum : (g : Edge → ℤ) → sum_of (λ k. around g (triangle_of now k)) (range_with_len (length nodes) f.fresh) ≡ sum_of (λ x. around g (shape x)) fresh
  new_sum g =
      ap (λ k. sum_of (λ k. around g (triangle_of now k)) (range_with_len (length nodes) k)) found.fresh
      ∙ sum_range (λ k. around g (triangle_of now k)) (λ x. around g (shape x)) blank fresh (length nodes)
      (λ i l. ap (λ x. around g (shape x)) (get_or-append-add nodes fresh i blank))

  old_sum : (g : Edge → ℤ) → sum_of (λ k. around g (triangle_of now k)) (filter (λ k. not (goes at nodes live f.marks k)) live)
      ≡ sum_of (λ k. around g (triangle_of nodes k)) (filter (λ k. not (goes at nodes live f.marks k)) live)
  old_sum g =
      sum_same (λ k. around g (triangle_of now k)) (λ k. around g (triangle_of nodes k)) (filter (λ k. not (goes at nodes live f.marks k)) live)
      (λ k i. ap (λ x. around g (shape x)) (node_before nodes fresh k (h.alive k (in_filter (λ k. not (goes at nodes live f.marks k)) k live i).0)))

  same_total : (g : Edge → ℤ) → Odd g → sum_of (λ k. around g (triangle_of now k)) (rounded_live at nodes live f) ≡ sum_of (λ k. around g (triangle_of nodes k)) live
  same_total g odd =
      let a = sum-++ (λ k. around g (triangle_of now k)) (filter (λ k. not (goes at nodes live f.marks k)) live) (range_with_len (length nodes) f.fresh) in
      let b = old_sum g in
      let c = new_sum g in
      let d = closings_sum at nodes live f.marks found.choice g odd n 4 in
      let i = sum_same (shares at nodes live f.marks (λ k. around g (triangle_of nodes k)) n 4)
      (where_true (goes at nodes live f.marks) (λ k. around g (triangle_of nodes k))) live
      (λ j k. taken_once at nodes live f.marks n found.within found.choice h.alive (λ k. around g (triangle_of nodes k)) j k) in
      let j = sum_split (λ k. around g (triangle_of nodes k)) (goes at nodes live f.marks) live in
      omega lin

  still_below : (k : ℕ) → In k (filter (λ k. not (goes at nodes live f.marks k)) live) → k < length nodes
  still_below k i = h.alive k (in_filter (λ k. not (goes at nodes live f.marks k)) k live i).0

  now_alive : (k : ℕ) → In k (rounded_live at nodes live f) → k < length now
  now_alive k i =
      let g = grows in
      let c = found.fresh in
      elim (in_split k (filter (λ k. not (goes at nodes live f.marks k)) live) (range_with_len (length nodes) f.fresh) i) [
        | inl j ↦ let b = still_below k j in omega arith
        | inr j ↦ let b = in_range k (length nodes) f.fresh j in omega arith
      ]

  now_leftward : (k : ℕ) → k < length now → Leftward at (triangle_of now k)
  now_leftward k l = elim (cases_lt k (length nodes)) [
    | inl i ↦ subst (λ x. Leftward at (shape x)) (sym (node_before nodes fresh k i)) (h.leftward k i)
    | inr i ↦ let w = new (node_at now k) (new_at k i l) in closing_leftward at nodes live f.marks w.v w.choice (node_at now k) w.made_there
  ]

  now_named : (k : ℕ) → k < length now → (u : ℕ) → In u (corners (triangle_of now k)) → u < vertices
  now_named k l u j = elim (cases_lt k (length nodes)) [
    | inl i ↦ h.named k i u (subst (λ x. In u (corners (shape x))) (node_before nodes fresh k i) j)
    | inr i ↦
        let w = new (node_at now k) (new_at k i l) in
        let c = noted_corner at nodes live f.marks w.v w.choice u (closing_corner at nodes live f.marks w.v w.choice (node_at now k) w.made_there u j) in
        h.named c.0 (h.alive c.0 c.1) u c.3
  ]

  now_past : (k : ℕ) → k < length now → get_or (made ++ dates) k 0 ≤ r + 1
  now_past k l = elim (cases_lt k (length nodes)) [
    | inl i ↦ let a = date_of_old k i in let b = h.past k i in omega arith
    | inr i ↦ let a = date_of_new k i l in omega arith
  ]

  now_later : (k : ℕ) → length ns ≤ k → k < length now → Parent at now (made ++ dates) k (node_at now k)
  now_later k b l = elim (cases_lt k (length nodes)) [
    | inl i ↦ subst (Parent at now (made ++ dates) k) (sym (node_before nodes fresh k i)) (still_parent at nodes fresh made dates k (node_at nodes k) h.dated i (h.later k b i))
    | inr i ↦ new_parent k i l (node_at now k) (new (node_at now k) (new_at k i l))
  ]

  pub kept_on : Kept at vertices ns (rounded_nodes at nodes live n f.marks) (rounded_live at nodes live f) (made ++ dates) (r + 1)
  kept_on =
      let g = grows in
      let b = h.grown in
      record {
        leftward = now_leftward;
        named = now_named;
        ascending =
            ascends_joined 0 (length nodes) (filter (λ k. not (goes at nodes live f.marks k)) live) (range_with_len (length nodes) f.fresh) (omega arith)
            (ascends_filter (λ k. not (goes at nodes live f.marks k)) 0 live h.ascending) still_below (ascends_range (length nodes) f.fresh);
        alive = now_alive;
        total = λ u odd. same_total u odd ∙ h.total u odd;
        dated = length-append made dates ∙ (let d = h.dated in let c = length-replicate (length fresh) (r + 1) in omega arith);
        past = now_past;
        grown = omega arith;
        first = λ k l. node_before nodes fresh k (omega arith) ∙ h.first k l;
        later = now_later;
      }
