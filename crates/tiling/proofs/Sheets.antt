-- A subdivision in order with its loops cut: its triangles count no point twice, and cover the sheet.
use Rattle.std.proofs.Common.{◌≡◌, ℕ, zero, suc, ◌+◌, ◌-◌, ◌%◌, ◌<◌, ◌≤◌, ◌⊎◌, List, [], ◌∷◌, length, get_or, ℤ, pos, ◌+ℤ◌, ◌*ℤ◌, ◌≤ℤ◌, ◌<ℤ◌, sym, refl, ap, ◌∙◌, subst, inl, inr, arith}
use Rattle.std.specs.List.{flat_map}
use Rattle.std.proofs.lemmas.Bool.{cases_eq}
use Rattle.plane.specs.declared.Edge.{Edge}
use Rattle.plane.specs.Crossings.{crossing_sum, edge_crossing}
use Rattle.plane.specs.Edges.{In, back, edge, ring_edges, sum_of}
use Rattle.plane.specs.Points.{Spot}
use Rattle.plane.proofs.Signs.{lin}
use Rattle.tiling.specs.Cells.{Subdivision, listed}
use Rattle.plane.specs.Edges.{outside}
use Rattle.tiling.specs.Lemmas.{Odd, SideOf}
use Rattle.tiling.specs.Order.{InOrder, Triangulated, loop_of}
use Rattle.tiling.specs.Triangles.{AllLeftward, Triangle, around, sides, turns}
use Rattle.tiling.proofs.Borders.{Within, frame, frame_left, frame_low, left_frame}
use Rattle.tiling.proofs.Covering.{NotRight, covers, crossing_odd, turns_low}
use Rattle.tiling.proofs.Cuts.{cut_sum, kept}
use Rattle.tiling.proofs.Lists.{in_joined, in_left, in_right, in_split, joined_in, sum-++, sum_has, sum_joined, sum_low, sum_two}
use Rattle.tiling.proofs.Overlaps.{Tiles}
use Rattle.tiling.proofs.Pairs.{paired_sum}
use Rattle.tiling.proofs.Rectangles.{rectangle_counts}
use Rattle.tiling.proofs.Rings.{ring_ends, ring_from}

-- ---- the numbers of the loops

-- n numbers from k on
numbers : ℕ → ℕ → List ℕ
numbers k zero = []
numbers k (suc n) = k ∷ numbers (suc k) n

in_numbers : (k n i : ℕ) → k ≤ i → i < k + n → In i (numbers k n)
unfolding numbers
in_numbers k zero i a b = absurd (omega arith)
in_numbers k (suc n) i a b = elim (cases_eq i k) [ inl e ↦ inl e | inr d ↦ inr (in_numbers (suc k) n i (omega arith) (omega arith)) ]

numbers_in : (k n i : ℕ) → In i (numbers k n) → i < k + n
unfolding numbers
numbers_in k zero i a = absurd a
numbers_in k (suc n) i (inl e) = omega arith
numbers_in k (suc n) i (inr a) = let h = numbers_in (suc k) n i a in omega arith

sum_shift : (f : ℕ → ℤ) (k n : ℕ) → sum_of f (numbers (suc k) n) ≡ sum_of (λ i. f (suc i)) (numbers k n)
unfolding numbers
sum_shift f k zero = refl
sum_shift f k (suc n) = ap (λ (x : ℤ). f (suc k) +ℤ x) (sum_shift f (suc k) n)

-- a sum over the elements is a sum over their numbers
sum_numbered : {X : Type 0} (f : X → ℤ) (d : X) (l : List X) → sum_of f l ≡ sum_of (λ i. f (get_or l i d)) (numbers 0 (length l))
unfolding numbers
sum_numbered f d [] = refl
sum_numbered f d (x ∷ l) = ap (λ (y : ℤ). f x +ℤ y) (sum_numbered f d l ∙ sym (sum_shift (λ i. f (get_or (x ∷ l) i d)) 0 (length l)))

sum_same : {X : Type 0} (f g : X → ℤ) (l : List X) → ((x : X) → In x l → f x ≡ g x) → sum_of f l ≡ sum_of g l
sum_same f g [] h = refl
sum_same f g (x ∷ l) h = let a = h x (inl refl) in let b = sum_same f g l (λ y i. h y (inr i)) in omega lin

pub in_get_or : {X : Type 0} (d : X) (l : List X) (i : ℕ) → i < length l → In (get_or l i d) l
in_get_or d [] i h = absurd (omega arith)
in_get_or d (x ∷ l) zero h = inl refl
in_get_or d (x ∷ l) (suc i) h = inr (in_get_or d l i (omega arith))

get_or_in : {X : Type 0} (d x : X) (l : List X) → In x l → (i : ℕ) × (i < length l) × (get_or l i d ≡ x)
get_or_in d x [] h = absurd h
get_or_in d x (y ∷ l) (inl e) = (zero, omega arith, sym e)
get_or_in d x (y ∷ l) (inr j) = let r = get_or_in d x l j in (suc r.0, (let a = r.1 in omega arith), r.2)

-- ---- the border

-- the edges of the loops
abbrev pub inner : Subdivision → List Edge
inner s = flat_map ring_edges s.loops

pub loop_inner : (s : Subdivision) (l : ℕ) → l < length s.loops → (e : Edge) → In e (ring_edges (loop_of s l)) → In e (inner s)
loop_inner s l h e i = in_joined ring_edges e (loop_of s l) s.loops (in_get_or [] s.loops l h) i

-- tells an outside edge from its reverse
turning : Edge → ℕ
turning e = (e.from + 4 - e.to) % 4

outside_turning : (e : Edge) → In e outside → (turning e ≡ 1) × ((turning (back e) ≡ 3) × In (back e) frame)
unfolding turning
outside_turning e (inl q) = (ap turning q, (ap (λ (x : Edge). turning (back x)) q, inl (ap back q)))
outside_turning e (inr (inl q)) = (ap turning q, (ap (λ (x : Edge). turning (back x)) q, inr (inl (ap back q))))
outside_turning e (inr (inr (inl q))) = (ap turning q, (ap (λ (x : Edge). turning (back x)) q, inr (inr (inl (ap back q)))))
outside_turning e (inr (inr (inr (inl q)))) = (ap turning q, (ap (λ (x : Edge). turning (back x)) q, inr (inr (inr (inl (ap back q))))))
outside_turning e (inr (inr (inr (inr n)))) = absurd n

module _ (s : Subdivision) (o : InOrder s) where
  -- the reverse of an outside edge is an edge of a loop
  pub border_inner : (e : Edge) → In e outside → In (back e) (inner s)
  border_inner e i = elim (in_split (back e) (inner s) outside (o.paired e (in_right e (inner s) outside i))) [
    | inl j ↦ j
    | inr j ↦ (let a = (outside_turning (back e) j).0 in let b = (outside_turning e i).1.0 in absurd (omega arith))
  ]

  -- the reverse of a loop's edge is one too, unless the edge is on the border
  pub inner_back : (e : Edge) → In e (inner s) → In (back e) (inner s) ⊎ In e frame
  inner_back e i = elim (in_split (back e) (inner s) outside (o.paired e (in_left e (inner s) outside i))) [
    | inl j ↦ inl j
    | inr j ↦ inr (outside_turning (back e) j).1.1
  ]

  -- every listed edge, or its reverse, is an edge of a loop
  pub listed_inner : (e : Edge) → In e (listed s) → In e (inner s) ⊎ In (back e) (inner s)
  listed_inner e i = elim (in_split e (inner s) outside i) [ inl j ↦ inl j | inr j ↦ inr (border_inner e j) ]

  -- the ends of a loop's edge are vertices
  pub ends_named : (e : Edge) → In e (inner s) → (e.from < s.vertices) × (e.to < s.vertices)
  ends_named e i =
      let r = joined_in ring_edges e s.loops i in
      let q = ring_ends e r.0 r.2 in
      (o.named r.0 r.1 e.from q.0, o.named r.0 r.1 e.to q.1)

  -- every vertex begins an edge of a loop
  pub vertex_used : (v : ℕ) → v < s.vertices → (e : Edge) × In e (inner s) × (e.from ≡ v)
  vertex_used zero h = (edge 0 1, border_inner (edge 1 0) (inl refl), refl)
  vertex_used (suc zero) h = (edge 1 2, border_inner (edge 2 1) (inr (inl refl)), refl)
  vertex_used (suc (suc zero)) h = (edge 2 3, border_inner (edge 3 2) (inr (inr (inl refl))), refl)
  vertex_used (suc (suc (suc zero))) h = (edge 3 0, border_inner (edge 0 3) (inr (inr (inr (inl refl)))), refl)
  vertex_used (suc (suc (suc (suc v)))) h =
      let r = o.used (suc (suc (suc (suc v)))) (omega arith) h in
      let q = ring_from (suc (suc (suc (suc v)))) r.0 r.2 in
      (q.0, in_joined ring_edges q.0 r.0 s.loops r.1 q.1, q.2)

-- ---- all triangles

module _ (s : Subdivision) (triangles : ℕ → List Triangle) (o : InOrder s) (g : Triangulated s triangles) where
  abbrev rows : List ℕ
  rows = numbers 0 (length s.loops)

  pub all : List Triangle
  all = flat_map triangles rows

  row_below : (l : ℕ) → In l rows → l < length s.loops
  row_below l i = let h = numbers_in 0 (length s.loops) l i in omega arith

  row_in : (l : ℕ) → l < length s.loops → In l rows
  row_in l h = in_numbers 0 (length s.loops) l (omega arith) (omega arith)

  pub all_of : (l : ℕ) → l < length s.loops → (t : Triangle) → In t (triangles l) → In t all
  unfolding all
  all_of l h t i = in_joined triangles t l rows (row_in l h) i

  pub of_all : (t : Triangle) → In t all → (l : ℕ) × (l < length s.loops) × In t (triangles l)
  unfolding all
  of_all t i = let r = joined_in triangles t rows i in (r.0, row_below r.0 r.1, r.2)

  all_leftward : AllLeftward s.at all
  all_leftward t i = let r = of_all t i in g.leftward r.0 r.1 t r.2

  -- an edge of a loop is a side of a triangle
  pub owner : (e : Edge) → In e (inner s) → SideOf e all
  owner e i =
      let r = joined_in ring_edges e s.loops i in
      let q = get_or_in [] r.0 s.loops r.1 in
      let k = kept (loop_of s q.0) (triangles q.0) (g.cut q.0 q.1) e (subst (λ (l : List ℕ). In e (ring_edges l)) (sym q.2) r.2) in
      (k.0, all_of q.0 q.1 k.0 k.1, k.2)

  module _ (f : Edge → ℤ) (odd : Odd f) where
    -- the loops have the sum of the triangles
    loops_sum : sum_of f (inner s) ≡ sum_of (around f) all
    unfolding all
    loops_sum =
        sum_joined f ring_edges s.loops
        ∙ sum_numbered (λ l. sum_of f (ring_edges l)) [] s.loops
        ∙ sum_same (λ l. sum_of f (ring_edges (loop_of s l))) (λ l. sum_of (around f) (triangles l)) rows (λ l i. cut_sum f odd (loop_of s l) (triangles l) (g.cut l (row_below l i)))
        ∙ sym (sum_joined (around f) triangles rows)

    -- and of the border, since all other edges cancel
    pub border_sum : sum_of (around f) all ≡ sum_of f frame
    border_sum =
        let a = loops_sum in
        let b = paired_sum f odd (listed s) o.once o.paired in
        let c = sum-++ f (inner s) outside in
        let e₀ = odd (edge 0 1) in
        let e₁ = odd (edge 1 2) in
        let e₂ = odd (edge 2 3) in
        let e₃ = odd (edge 3 0) in
        omega lin

  module _ (p : Spot) (z : pos 0 <ℤ p.Z) where
    counted : sum_of (turns s.at p) all ≡ crossing_sum s.at (0 ∷ 1 ∷ 2 ∷ 3 ∷ []) p
    counted = border_sum (edge_crossing s.at p) (crossing_odd s.at p)

    once : sum_of (turns s.at p) all ≤ℤ pos 1
    once =
        let e = counted in
        elim (rectangle_counts s.at s.width s.height o.wide o.high o.corner_0 o.corner_1 o.corner_2 o.corner_3 p z).bit [ inl h ↦ omega lin | inr h ↦ omega lin ]

    inside_once : Within s o p → sum_of (turns s.at p) all ≡ pos 1
    inside_once i =
        counted
        ∙ (rectangle_counts s.at s.width s.height o.wide o.high o.corner_0 o.corner_1 o.corner_2 o.corner_3 p z
        ).inside i.from_left i.to_right i.from_below i.to_above

  pub tiles : Tiles s.at all
  tiles = record { leftward = all_leftward; once = once }

  -- every point of the closed sheet is in a closed triangle
  pub somewhere : (p : Spot) → pos 0 <ℤ p.Z → pos 0 ≤ℤ p.X → p.X ≤ℤ (s.width *ℤ p.Z) → pos 0 ≤ℤ p.Y → p.Y ≤ℤ (s.height *ℤ p.Z)
      → (t : Triangle) × In t all × NotRight s.at (sides t) p
  somewhere p z i j k l =
      covers s.at frame middle (omega lin) (frame_left s o middle central) all all_leftward
      (λ q y h. let e = inside_once q y (left_frame s o q h) in omega lin)
      p z (frame_low s o p i j k l)
    where
      middle : Spot
      middle = record { X = s.width; Y = s.height; Z = pos 2 }

      half : (u : ℤ) → pos 0 <ℤ u → u <ℤ (u *ℤ pos 2)
      half u h = omega lin

      central : Within s o middle
      central = record { from_left = o.wide; to_right = half s.width o.wide; from_below = o.high; to_above = half s.height o.high }

  -- ---- the crossing sum of one loop

  module _ (p : Spot) (z : pos 0 <ℤ p.Z) where
    abbrev count : ℕ → ℤ
    count l = sum_of (turns s.at p) (triangles l)

    pub loop_count : (l : ℕ) → l < length s.loops → crossing_sum s.at (loop_of s l) p ≡ count l
    loop_count l h = cut_sum (edge_crossing s.at p) (crossing_odd s.at p) (loop_of s l) (triangles l) (g.cut l h)

    low : (l : ℕ) → l < length s.loops → (t : Triangle) → In t (triangles l) → pos 0 ≤ℤ turns s.at p t
    low l h t i = turns_low s.at t (g.leftward l h t i) p z

    rows_low : (l : ℕ) → In l rows → pos 0 ≤ℤ count l
    rows_low l i = sum_low (turns s.at p) (triangles l) (low l (row_below l i))

    total : sum_of (turns s.at p) all ≡ sum_of count rows
    unfolding all
    total = sum_joined (turns s.at p) triangles rows

    -- a loop one of whose triangles counts p counts it
    pub loop_counts : (l : ℕ) → l < length s.loops → (t : Triangle) → In t (triangles l) → turns s.at p t ≡ pos 1 → crossing_sum s.at (loop_of s l) p ≡ pos 1
    loop_counts l h t i e =
        let a = loop_count l h in
        let b = sum_has (turns s.at p) (triangles l) (low l h) t i in
        let c = sum_has count rows rows_low l (row_in l h) in
        let d = total in
        let f = once p z in
        omega lin

    -- and no other loop does
    pub one_loop : (l m : ℕ) → l < length s.loops → m < length s.loops → crossing_sum s.at (loop_of s l) p ≡ pos 1 → crossing_sum s.at (loop_of s m) p ≡ pos 1 → l ≡ m
    one_loop l m h k a b = elim (sum_two count rows rows_low l m (row_in l h) (row_in m k)) [
      | inl e ↦ e
      | inr e ↦ (let c = loop_count l h in let d = loop_count m k in let f = total in let q = once p z in absurd (omega lin))
    ]
