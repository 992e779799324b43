-- Directed edges between numbered vertices, the edges of a loop, and sums over lists of edges.
use Rattle.std.specs.Prelude.{◌≡◌, ◌==◌, Bool, ◌&&◌, ℕ, ◌⊎◌, List, [], ◌∷◌, ◌++◌, take, ℤ, pos, ◌+ℤ◌}
use Rattle.plane.specs.declared.Edge.{Edge}

abbrev pub edge : ℕ → ℕ → Edge
edge u v = record { from = u; to = v }

-- two directed edges have the same ends
abbrev pub same_edge : Edge → Edge → Bool
same_edge e f = e.from == f.from && e.to == f.to

-- the reverse
abbrev pub back : Edge → Edge
back e = edge e.to e.from

-- from each corner to the next
abbrev pub links : List ℕ → List Edge
links [] = []
links (u ∷ []) = []
links (u ∷ v ∷ vs) = edge u v ∷ links (v ∷ vs)

-- from each corner to the next, and from the last to the first
abbrev pub ring_edges : List ℕ → List Edge
ring_edges cs = links (cs ++ take 1 cs)

-- the edges of a sheet's border, seen from outside: they go round it clockwise
abbrev pub outside : List Edge
outside = edge 1 0 ∷ edge 2 1 ∷ edge 3 2 ∷ edge 0 3 ∷ []

-- x is an element of the list
abbrev pub In : {X : Type 0} → X → List X → Type 0
In x [] = ⊥
In x (y ∷ l) = (x ≡ y) ⊎ In x l

-- no element stands twice
abbrev pub Once : {X : Type 0} → List X → Type 0
Once [] = Unit {0}
Once (x ∷ l) = (¬ (In x l)) × Once l

-- the sum of a number for each element
abbrev pub sum_of : {X : Type 0} → (X → ℤ) → List X → ℤ
sum_of f [] = pos 0
sum_of f (x ∷ l) = f x +ℤ sum_of f l
