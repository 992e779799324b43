-- The edges of a loop whose corners are read one by one.
use Rattle.std.proofs.Common.{◌≡◌, ℕ, ◌≤◌, List, [], ◌∷◌, ◌++◌, length, take, sym, refl, ap, ◌∙◌, arith}
use Rattle.std.proofs.lemmas.List.{length_push, take-append-le}
use Rattle.lent.specs.Kept.{Kept, put, puts}
use Rattle.lent.proofs.Puts.{puts_next}
use Rattle.plane.specs.declared.Edge.{Edge}
use Rattle.plane.specs.Edges.{edge, links, ring_edges}

links_push : (front : List ℕ) (u v : ℕ) → links ((front ++ u ∷ []) ++ v ∷ []) ≡ links (front ++ u ∷ []) ++ edge u v ∷ []
links_push [] u v = refl
links_push (w ∷ []) u v = refl
links_push (w ∷ x ∷ front) u v = ap (λ es. edge w x ∷ es) (links_push (x ∷ front) u v)

-- the corners so far, from the first to the last, are linked
pub record Linked (first last : ℕ) (k₀ k : Kept Edge) (done : List ℕ) : Type 0 where
  pub front : List ℕ
  pub split : done ≡ front ++ last ∷ []
  pub begins : take 1 done ≡ first ∷ []
  pub edges : k ≡ puts k₀ (links done)

pub linked_first : (v : ℕ) (k : Kept Edge) → Linked v v k k (v ∷ [])
linked_first v k = record { front = []; split = refl; begins = refl; edges = refl }

module _ (first last : ℕ) (k₀ k : Kept Edge) (done : List ℕ) (l : Linked first last k₀ k done) where
  one_more : (k' : Kept Edge) (v : ℕ) → k' ≡ put k (edge last v) → k' ≡ puts k₀ (links (done ++ v ∷ []))
  one_more k' v e =
      puts_next k₀ k k' (links done) (edge last v) l.edges e
      ∙ ap (puts k₀) (ap (λ d. links d ++ edge last v ∷ []) l.split ∙ sym (links_push l.front last v) ∙ ap (λ d. links (d ++ v ∷ [])) (sym l.split))

  pub linked_more : (k' : Kept Edge) (v : ℕ) → k' ≡ put k (edge last v) → Linked first v k₀ k' (done ++ v ∷ [])
  linked_more k' v e =
      let some : 1 ≤ length done = omega (arith, ap length l.split, length_push l.front last) in
      record { front = done; split = refl; begins = take-append-le 1 done (v ∷ []) some ∙ l.begins; edges = one_more k' v e }

  pub linked_all : (k' : Kept Edge) → k' ≡ put k (edge last first) → k' ≡ puts k₀ (ring_edges done)
  linked_all k' e = one_more k' first e ∙ ap (λ t. puts k₀ (links (done ++ t))) (sym l.begins)
