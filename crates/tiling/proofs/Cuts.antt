-- A polygon against the triangles of its cut: their sums, and which sides are edges of the polygon.
use Rattle.std.proofs.Common.{◌≡◌, ℕ, ◌≤◌, ◌⊎◌, List, [], ◌∷◌, ◌++◌, length, sym, refl, ap, ◌∙◌, subst, inl, inr, arith, length-append}
use Rattle.plane.specs.declared.Edge.{Edge}
use Rattle.plane.specs.Edges.{In, Once, back, edge, links, ring_edges}
use Rattle.plane.proofs.Signs.{lin}
use Rattle.tiling.specs.Cuts.{Cut, last, ear, turn}
use Rattle.tiling.specs.Lemmas.{CutHasSides, CutSum, SideOf, SideOnce}
use Rattle.tiling.specs.Triangles.{Triangle, sides, triangle}
use Rattle.tiling.proofs.Lists.{in_left, turned_in, once_turned}
use Rattle.tiling.proofs.Rings.{in_ring_turned, links_ends, ring_ends, ring_turned_in, ring_turned_sum}

-- between the ear and the rest, a to c and c to a cancel
pub cut_sum : CutSum
cut_sum f odd l ts (last a b c) = omega lin
cut_sum f odd l ts (ear a b c m us k) = let h = cut_sum f odd (a ∷ c ∷ m) us k in let n = odd (edge a c) in omega lin
cut_sum f odd l ts (turn v m us k) = ring_turned_sum f v m ∙ cut_sum f odd (m ++ v ∷ []) us k

-- ---- sides of the first triangle and of the rest

side_first : (e : Edge) (t : Triangle) (ts : List Triangle) → In e (sides t) → SideOf e (t ∷ ts)
side_first e t ts i = (t, inl refl, i)

side_rest : (e : Edge) (t : Triangle) (ts : List Triangle) → SideOf e ts → SideOf e (t ∷ ts)
side_rest e t ts s = (s.0, inr s.1, s.2)

side_split : (e : Edge) (t : Triangle) (ts : List Triangle) → SideOf e (t ∷ ts) → In e (sides t) ⊎ SideOf e ts
side_split e t ts s = elim s.1 [ inl h ↦ inl (rw h at s.2) | inr i ↦ inr (s.0, i, s.2) ]

-- ---- the edges of the polygon are sides

-- an edge of the polygon is a side of the ear, or an edge of the rest
pub kept : (l : List ℕ) (ts : List Triangle) → Cut l ts → (e : Edge) → In e (ring_edges l) → SideOf e ts
kept l ts (last a b c) e i = side_first e (triangle a b c) [] i
kept l ts (ear a b c m us k) e (inl h) = side_first e (triangle a b c) us (inl h)
kept l ts (ear a b c m us k) e (inr (inl h)) = side_first e (triangle a b c) us (inr (inl h))
kept l ts (ear a b c m us k) e (inr (inr i)) = side_rest e (triangle a b c) us (kept (a ∷ c ∷ m) us k e (inr i))
kept l ts (turn v m us k) e i = kept (m ++ v ∷ []) us k e (in_ring_turned e v m i)

-- ---- the other sides stand with their reverses

-- c to a is a side of the ear, and its reverse an edge of the rest
twins : (l : List ℕ) (ts : List Triangle) → Cut l ts → (e : Edge) → SideOf e ts → In e (ring_edges l) ⊎ SideOf (back e) ts
twins l ts (last a b c) e s = elim (side_split e (triangle a b c) [] s) [ inl i ↦ inl i | inr n ↦ absurd n.1 ]
twins l ts (ear a b c m us k) e s = elim (side_split e (triangle a b c) us s) [
  | inl (inl h) ↦ inl (inl h)
  | inl (inr (inl h)) ↦ inl (inr (inl h))
  | inl (inr (inr (inl h))) ↦ inr (side_rest (back e) (triangle a b c) us (kept (a ∷ c ∷ m) us k (back e) (inl (ap back h))))
  | inl (inr (inr (inr n))) ↦ absurd n
  | inr r ↦ elim (twins (a ∷ c ∷ m) us k e r) [
    | inl (inl h) ↦ inr (side_first (back e) (triangle a b c) us (inr (inr (inl (ap back h)))))
    | inl (inr i) ↦ inl (inr (inr i))
    | inr q ↦ inr (side_rest (back e) (triangle a b c) us q)
  ]
]
twins l ts (turn v m us k) e s = elim (twins (m ++ v ∷ []) us k e s) [ inl i ↦ inl (ring_turned_in e v m i) | inr r ↦ inr r ]

-- ---- the corners of the triangles are corners of the polygon

corners_within : (l : List ℕ) (ts : List Triangle) → Cut l ts → (e : Edge) → SideOf e ts → In e.from l × In e.to l
corners_within l ts (last a b c) e s = elim (side_split e (triangle a b c) [] s) [
  | inl i ↦ ring_ends e (a ∷ b ∷ c ∷ []) i
  | inr n ↦ absurd n.1
]
corners_within l ts (ear a b c m us k) e s = elim (side_split e (triangle a b c) us s) [
  | inl i ↦ let r = ring_ends e (a ∷ b ∷ c ∷ []) i in (in_left e.from (a ∷ b ∷ c ∷ []) m r.0, in_left e.to (a ∷ b ∷ c ∷ []) m r.1)
  | inr q ↦ let r = corners_within (a ∷ c ∷ m) us k e q in (wider e.from r.0, wider e.to r.1)
]
  where
    wider : (v : ℕ) → In v (a ∷ c ∷ m) → In v (a ∷ b ∷ c ∷ m)
    wider v = elim [ inl h ↦ inl h | inr i ↦ inr (inr i) ]
corners_within l ts (turn v m us k) e s =
    let r = corners_within (m ++ v ∷ []) us k e s in
    (turned_in e.from v m r.0, turned_in e.to v m r.1)

-- ---- an edge of the polygon is a side only once

three : (l : List ℕ) (ts : List Triangle) → Cut l ts → 3 ≤ length l
three l ts (last a b c) = omega arith
three l ts (ear a b c m us k) = let h = three (a ∷ c ∷ m) us k in omega arith
three l ts (turn v m us k) = let h = three (m ++ v ∷ []) us k in let n = length-append m (v ∷ []) in omega arith

-- b is no corner of the rest, so an edge between corners of the rest is neither a to b nor b to c
beside : (a b c : ℕ) (m : List ℕ) → Once (a ∷ b ∷ c ∷ m) → (e : Edge) → In e.from (a ∷ c ∷ m) × In e.to (a ∷ c ∷ m)
    → ¬ ((e ≡ edge a b) ⊎ (e ≡ edge b c))
beside a b c m o e r = elim [
  | inl h ↦ gone (subst (λ (x : Edge). In x.to (a ∷ c ∷ m)) h r.1)
  | inr h ↦ gone (subst (λ (x : Edge). In x.from (a ∷ c ∷ m)) h r.0)
]
  where
    gone : ¬ (In b (a ∷ c ∷ m))
    gone = elim [ inl h ↦ o.0 (inl (sym h)) | inr i ↦ o.1.0 i ]

-- of three corners or more, c to a is no edge from c round to a
unclosed : (a b c : ℕ) (m : List ℕ) → 3 ≤ length (a ∷ c ∷ m) → Once (a ∷ b ∷ c ∷ m) → ¬ (In (edge c a) (links (c ∷ m ++ a ∷ [])))
unclosed a b c [] n o i = omega arith
unclosed a b c (d ∷ m) n o (inl h) = o.0 (inr (inr (inl (ap (λ (e : Edge). e.to) h))))
unclosed a b c (d ∷ m) n o (inr i) = o.1.1.0 (links_ends (edge c a) d a m i).0

once : (l : List ℕ) (ts : List Triangle) → Cut l ts → Once l → (e : Edge) → In e (ring_edges l) → SideOnce e ts
once l ts (last a b c) o e i = inl (i, λ s. s.1)
once l ts (ear a b c m us k) o e (inl h) = inl (inl h, λ s. beside a b c m o e (corners_within (a ∷ c ∷ m) us k e s) (inl h))
once l ts (ear a b c m us k) o e (inr (inl h)) = inl (inr (inl h), λ s. beside a b c m o e (corners_within (a ∷ c ∷ m) us k e s) (inr h))
once l ts (ear a b c m us k) o e (inr (inr i)) = inr (other, once (a ∷ c ∷ m) us k (λ j. o.0 (inr j), o.1.1) e (inr i))
  where
    other : ¬ (In e (sides (triangle a b c)))
    other (inl h) = beside a b c m o e (ring_ends e (a ∷ c ∷ m) (inr i)) (inl h)
    other (inr (inl h)) = beside a b c m o e (ring_ends e (a ∷ c ∷ m) (inr i)) (inr h)
    other (inr (inr (inl h))) = unclosed a b c m (three (a ∷ c ∷ m) us k) o (subst (λ (x : Edge). In x (links (c ∷ m ++ a ∷ []))) h i)
    other (inr (inr (inr n))) = n
once l ts (turn v m us k) o e i = once (m ++ v ∷ []) us k (once_turned v m o) e (in_ring_turned e v m i)

pub cut_sides : CutHasSides
cut_sides l ts k = record { once = once l ts k; twins = twins l ts k; corners = corners_within l ts k }
