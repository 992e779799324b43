-- What a load takes, step by step, and that the tables have room for it.
use Rattle.std.proofs.Common.{◌≡◌, ℕ, suc, ◌+◌, ◌≤◌, true, List, [], ◌∷◌, ◌++◌, length, Ok, Err, Result, refl, ap, ◌∙◌, arith}
use Rattle.std.specs.List.{flat_map}
use Rattle.std.proofs.lemmas.List.{length-append, length_push}
use Rattle.std.proofs.lemmas.Bool.Decides.{nat_tests}
use Rattle.refusal.specs.declared.Refusal.{Refusal}
use Rattle.sheet.specs.declared.tables.Label.{Label}
use Rattle.sheet.specs.Files.{contents, labels, sheet}
use Rattle.sheet.specs.declared.tables.Size.{Size}
use Rattle.sheet.specs.Load.{roomy, sheet_of}
use Rattle.reader.specs.Reading.{and_then}
use Rattle.plane.specs.Edges.{links, ring_edges}
use Rattle.sheet.specs.Sheets.{Ring, Sheet, corners_in, edges_of, loops_from, loops_of, points_of, size_of}
use Rattle.plane.specs.Edges.{outside}

links_length : (v : ℕ) (vs : List ℕ) → length (links (v ∷ vs)) ≡ length vs
links_length v [] = refl
links_length v (w ∷ vs) = ap suc (links_length w vs)

ring_length : (cs : List ℕ) → length (ring_edges cs) ≡ length cs
ring_length [] = refl
ring_length (c ∷ cs) = links_length c (cs ++ c ∷ []) ∙ length_push cs c ∙ omega arith

all_length : (rs : List Ring) → length (flat_map (λ r. ring_edges r.corners) rs) ≡ corners_in rs
all_length [] = refl
all_length (r ∷ rs) =
    let h = all_length rs in
    let l = length-append (ring_edges r.corners) (flat_map (λ r. ring_edges r.corners) rs) in
    let m = ring_length r.corners in
    omega arith

edges_length : (s : Sheet) → length (edges_of s) ≡ corners_in s.rings + 4
edges_length s =
    let l = length-append (flat_map (λ r. ring_edges r.corners) s.rings) outside in
    let h = all_length s.rings in
    omega arith

loops_length_from : (start : ℕ) (rs : List Ring) → length (loops_from start rs) ≡ length rs
loops_length_from start [] = refl
loops_length_from start (r ∷ rs) = ap suc (loops_length_from (start + length r.corners) rs)

loops_length : (s : Sheet) → length (loops_of s) ≡ length s.rings
loops_length s = loops_length_from 0 s.rings

module _ {X Y : Type 0} (o : Result X Refusal) (f : X → Y) where
  -- what an answer tells of what it was made from
  pub made_from_ok : (y : Y) → Ok y ≡ and_then o (λ x. Ok (f x)) → (x : X) × (o ≡ Ok x) × (y ≡ f x)
  made_from_ok y =
      elim o as (λ o. Ok y ≡ and_then o (λ x. Ok (f x)) → (x : X) × (o ≡ Ok x) × (y ≡ f x))
      [ Ok x ↦ λ h. (x, refl, cc) | Err e' ↦ λ h. let z : ◌≡◌ {A = ℕ} 0 1 = cc in absurd (omega arith) ]

-- the sheet of a file, from what its readings tell
pub sheet_whole : (file : List ℕ) (s : Sheet) (at : ℕ) (file₁ : List ℕ) → sheet file 0 ≡ Ok (s, at) → file₁ ≡ file
    → (ls : List Label) → labels file₁ at ≡ Ok ls → sheet_of file ≡ Ok s
unfolding sheet_of contents
sheet_whole file s at file₁ h f ls l = rw (h, ← f, l) refl

-- the loops of a sheet are few
pub few_loops : (s : Sheet) (y : Size) → y ≡ size_of s → y.loops ≤ 2050 → length (loops_of s) ≤ 2050
few_loops s y is h = let e = ap (λ (z : Size). z.loops) is in let n = loops_length s in omega arith

-- the tables have room for a sheet of a size within its limits
module _ (points edges loops : ℕ) (room : roomy points edges loops ≡ true) (s : Sheet) (y : Size) (is : y ≡ size_of s) where
  least : (1028 ≤ points) × (6154 ≤ edges) × (2050 ≤ loops)
  least = grind (arith, nat_tests)

  pub room_for_points : y.inner ≤ 1024 → length (points_of s) ≤ points
  room_for_points h = let e = ap (λ (z : Size). z.inner) is in let l = least.0 in omega arith

  pub room_for_edges : y.corners ≤ 6150 → length (edges_of s) ≤ edges
  room_for_edges h = let e = ap (λ (z : Size). z.corners) is in let l = least.1 in let n = edges_length s in omega arith

  pub room_for_loops : y.loops ≤ 2050 → length (loops_of s) ≤ loops
  room_for_loops h = let n = few_loops s y is h in let l = least.2 in omega arith
