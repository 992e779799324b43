-- The loops of a sheet's tables, one by one: the edges and the corners of each are those of the sheet's loop.
use Rattle.std.proofs.Common.{◌≡◌, ℕ, ◌+◌, List, [], ◌∷◌, ◌++◌, length, map, take, drop, append_assoc, refl, sym, ap, ◌∙◌, arith}
use Rattle.std.specs.List.{flat_map}
use Rattle.std.proofs.Math.Seq.{drop-append_seam, take-append_seam}
use Rattle.std.proofs.lemmas.List.{length-append, length-map}
use Rattle.plane.specs.declared.Edge.{Edge}
use Rattle.plane.specs.Edges.{links, outside, ring_edges}
use Rattle.sheet.specs.Sheets.{Ring, Sheet, edges_of, entry, loops_from, loops_of}
use Rattle.rules.specs.Held.{loop_edges}

-- where each edge starts
abbrev pub starts : List Edge → List ℕ
starts = map (λ (e : Edge). e.from)

-- the edges of a ring start at its corners
starts_links : (u v : ℕ) (cs : List ℕ) → starts (links (u ∷ (cs ++ v ∷ []))) ≡ u ∷ cs
starts_links u v [] = refl
starts_links u v (c ∷ cs) = ap (λ ds. u ∷ ds) (starts_links c v cs)

pub starts_ring : (cs : List ℕ) → starts (ring_edges cs) ≡ cs
starts_ring [] = refl
starts_ring (c ∷ cs) = starts_links c c cs

pub ring_length : (cs : List ℕ) → length (ring_edges cs) ≡ length cs
ring_length cs = sym (length-map (ring_edges cs) (λ (e : Edge). e.from)) ∙ ap length (starts_ring cs)

-- a part of a list, after those before it
middle : {X : Type 0} (front row behind : List X) (start n : ℕ) → length front ≡ start → length row ≡ n
    → take n (drop start (front ++ (row ++ behind))) ≡ row
middle front row behind start n f r = rw (← f, ← r, drop-append_seam front (row ++ behind)) (take-append_seam row behind)

-- the edges of loops one behind another
abbrev pub rows_of : List Ring → List Edge
rows_of = flat_map (λ r. ring_edges r.corners)

-- the first of some loops, whose edges come after the front of es
module _ (es front behind : List Edge) (start : ℕ) (r : Ring) (rs : List Ring) (f : length front ≡ start) (e : es ≡ front ++ (rows_of (r ∷ rs) ++ behind)) where
  pub row_there : loop_edges es (entry start r) ≡ ring_edges r.corners
  row_there = rw (e, append_assoc (ring_edges r.corners) (rows_of rs) behind) (middle front (ring_edges r.corners) (rows_of rs ++ behind) start (length r.corners) f (ring_length r.corners))

  -- the others come after the longer front
  pub rest_there : es ≡ (front ++ ring_edges r.corners) ++ (rows_of rs ++ behind)
  rest_there = e ∙ simp append_assoc

  pub front_there : length (front ++ ring_edges r.corners) ≡ start + length r.corners
  front_there = let n = ring_length r.corners in length-append front (ring_edges r.corners) ∙ omega arith

module _ {X : Type 0} (said : List Edge → X) where
  -- what is said of the edges of each loop, where those of the first come after the front of es
  rows_from : (es front behind : List Edge) (start : ℕ) (rs : List Ring) → length front ≡ start → es ≡ front ++ (rows_of rs ++ behind)
      → map (λ l. said (loop_edges es l)) (loops_from start rs) ≡ map (λ r. said (ring_edges r.corners)) rs
  rows_from es front behind start [] f e = refl
  rows_from es front behind start (r ∷ rs) f e =
      let here = row_there es front behind start r rs f e in
      let next = rows_from es (front ++ ring_edges r.corners) behind (start + length r.corners) rs (front_there es front behind start r rs f e) (rest_there es front behind start r rs f e) in
      λ i. said (here i) ∷ next i

  -- what is said of the edges of each loop in the tables of a sheet
  pub rows : (s : Sheet) → map (λ l. said (loop_edges (edges_of s) l)) (loops_of s) ≡ map (λ r. said (ring_edges r.corners)) s.rings
  rows s = rows_from (edges_of s) [] outside 0 s.rings refl refl
