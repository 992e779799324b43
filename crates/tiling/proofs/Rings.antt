-- The edges of a ring of corners: where they begin and end, and that it does not matter where the ring begins.
use Rattle.std.proofs.Common.{◌≡◌, ℕ, List, [], ◌∷◌, ◌++◌, ℤ, sym, refl, ap, ◌∙◌, inl, inr, append_assoc}
use Rattle.plane.specs.declared.Edge.{Edge}
use Rattle.plane.specs.Edges.{In, edge, links, ring_edges, sum_of}
use Rattle.tiling.proofs.Lists.{in_turned, turned_in, sum_turned}

-- one corner more at the end of a path
links_end : (u v w : ℕ) (l : List ℕ) → links (u ∷ l ++ v ∷ w ∷ []) ≡ links (u ∷ l ++ v ∷ []) ++ edge v w ∷ []
links_end u v w [] = refl
links_end u v w (x ∷ l) = ap (λ (es : List Edge). edge u x ∷ es) (links_end x v w l)

-- turned by one corner, the ring has the same edges, turned by one
ring_turned : (v w : ℕ) (l : List ℕ) → ring_edges (w ∷ l ++ v ∷ []) ≡ links (w ∷ l ++ v ∷ []) ++ edge v w ∷ []
ring_turned v w l = ap (λ (vs : List ℕ). links (w ∷ vs)) (append_assoc l (v ∷ []) (w ∷ [])) ∙ links_end w v w l

pub ring_turned_sum : (f : Edge → ℤ) (v : ℕ) (l : List ℕ) → sum_of f (ring_edges (v ∷ l)) ≡ sum_of f (ring_edges (l ++ v ∷ []))
ring_turned_sum f v [] = refl
ring_turned_sum f v (w ∷ l) = sym (ap (sum_of f) (ring_turned v w l) ∙ sum_turned f (edge v w) (links (w ∷ l ++ v ∷ [])))

pub in_ring_turned : (e : Edge) (v : ℕ) (l : List ℕ) → In e (ring_edges (v ∷ l)) → In e (ring_edges (l ++ v ∷ []))
in_ring_turned e v [] i = i
in_ring_turned e v (w ∷ l) i = rw (ring_turned v w l) (in_turned e (edge v w) (links (w ∷ l ++ v ∷ [])) i)

pub ring_turned_in : (e : Edge) (v : ℕ) (l : List ℕ) → In e (ring_edges (l ++ v ∷ [])) → In e (ring_edges (v ∷ l))
ring_turned_in e v [] i = i
ring_turned_in e v (w ∷ l) i = turned_in e (edge v w) (links (w ∷ l ++ v ∷ [])) (rw (ring_turned v w l) at i)

-- every corner of a path but the last begins an edge
links_from : (v u z : ℕ) (l : List ℕ) → In v (u ∷ l) → (e : Edge) × In e (links (u ∷ l ++ z ∷ [])) × (e.from ≡ v)
links_from v u z [] (inl e) = (edge u z, inl refl, sym e)
links_from v u z [] (inr n) = absurd n
links_from v u z (w ∷ l) (inl e) = (edge u w, inl refl, sym e)
links_from v u z (w ∷ l) (inr i) = let r = links_from v w z l i in (r.0, inr r.1, r.2)

pub ring_from : (v : ℕ) (l : List ℕ) → In v l → (e : Edge) × In e (ring_edges l) × (e.from ≡ v)
ring_from v [] i = absurd i
ring_from v (u ∷ l) i = links_from v u u l i

-- an edge of a path does not begin at its last corner, nor end at its first
pub links_ends : (e : Edge) (u z : ℕ) (l : List ℕ) → In e (links (u ∷ l ++ z ∷ [])) → In e.from (u ∷ l) × In e.to (l ++ z ∷ [])
links_ends e u z [] (inl h) = (inl (ap (λ (x : Edge). x.from) h), inl (ap (λ (x : Edge). x.to) h))
links_ends e u z [] (inr n) = absurd n
links_ends e u z (w ∷ l) (inl h) = (inl (ap (λ (x : Edge). x.from) h), inl (ap (λ (x : Edge). x.to) h))
links_ends e u z (w ∷ l) (inr i) = let r = links_ends e w z l i in (inr r.0, inr r.1)

pub ring_ends : (e : Edge) (l : List ℕ) → In e (ring_edges l) → In e.from l × In e.to l
ring_ends e [] i = absurd i
ring_ends e (u ∷ l) i = let r = links_ends e u u l i in (r.0, turned_in e.to u l r.1)
