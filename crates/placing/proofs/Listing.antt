-- The answers to tips, one after another.
use Rattle.std.proofs.Common.{◌≡◌, ℕ, zero, suc, ◌+◌, ◌<◌, List, [], ◌∷◌, ◌++◌, get_or, length, map, set, take, refl, sym, ap, ◌∙◌, arith}
use Rattle.std.proofs.Math.ListN.{get_or-map}
use Rattle.std.proofs.lemmas.List.{length-map, length-take-le, take-map, take_more}
use Rattle.lent.specs.Kept.{over}
use Rattle.lent.proofs.Puts.{over_more}
use Rattle.nodes.specs.declared.node.Node.{Node}
use Rattle.plane.specs.declared.Point.{Point}
use Rattle.plane.specs.Points.{Spot}
use Rattle.std.specs.Prelude.{Some, Option, Result}
use Rattle.std.specs.List.{slice_get}
use Rattle.refusal.specs.declared.Refusal.{Refusal}
use Rattle.walk.specs.declared.Found.{Found}
use Rattle.sheet.specs.declared.tables.Size.{Size}
use Rattle.placing.specs.Placings.{list_said, place_said}

-- what the first tips mean is the first of what all mean
pub means_of_front : {X Y : Type 0} (f : X → Y) (n : ℕ) (xs : List X) → map f (take n xs) ≡ take n (map f xs)
means_of_front f n xs = sym (take-map f n xs)

module _ (z : Size) (ps : List Point) (nodes : List Node) (tops : List ℕ) where
  pub list_length : (at : ℕ) (tips : List (Option Spot)) → length (list_said z at ps nodes tops tips) ≡ length tips
  list_length at [] = refl
  list_length at (t ∷ ts) = ap suc (list_length (at + 1) ts)

  pub list_more : (at : ℕ) (tips : List (Option Spot)) (t : Option Spot)
      → list_said z at ps nodes tops (tips ++ t ∷ []) ≡ list_said z at ps nodes tops tips ++ place_said z t (at + length tips) ps nodes tops ∷ []
  list_more at [] t = ap (λ k. place_said z t k ps nodes tops ∷ []) (omega arith)
  list_more at (u ∷ ts) t =
      let k : at + 1 + length ts ≡ at + suc (length ts) = omega arith in
      ap (λ es. place_said z u at ps nodes tops ∷ es)
      (list_more (at + 1) ts t ∙ ap (λ k. list_said z (at + 1) ps nodes tops ts ++ place_said z t k ps nodes tops ∷ []) k)

  -- the next tip's entry
  pub list_step : {K : Type 0} (means : K → Option Spot) (tips : List K) (i : ℕ) (t : K) (items answers : List (Result Found Refusal)) (r : Result Found Refusal)
      → t ≡ get_or tips i t → i < length tips → i < length items → answers ≡ over (list_said z 0 ps nodes tops (take i (map means tips))) items
      → r ≡ place_said z (means t) i ps nodes tops → set answers i r ≡ over (list_said z 0 ps nodes tops (take (i + 1) (map means tips))) items
  list_step means tips i t items answers r is inside room before said =
      let ts = map means tips in
      let told = list_said z 0 ps nodes tops (take i ts) in
      let here : get_or ts i (means t) ≡ means t = get_or-map means tips i t ∙ ap means (sym is) in
      let all : i < length ts = let n = length-map tips means in omega (arith, n, inside) in
      let n : length (take i ts) ≡ i = length-take-le i ts (omega (arith, all)) in
      let count : length told ≡ i = list_length 0 (take i ts) ∙ n in
      let next : take (i + 1) ts ≡ take i ts ++ means t ∷ [] = take_more ts i (means t) all ∙ ap (λ u. take i ts ++ u ∷ []) here in
      let at : 0 + length (take i ts) ≡ i = omega (arith, n) in
      let more : list_said z 0 ps nodes tops (take (i + 1) ts) ≡ told ++ r ∷ [] =
      ap (list_said z 0 ps nodes tops) next ∙ list_more 0 (take i ts) (means t) ∙ ap (λ e. told ++ e ∷ []) (ap (λ k. place_said z (means t) k ps nodes tops) at ∙ sym said) in
      (λ k. set (before k) (sym count k) r) ∙ over_more items told r (omega (arith, count, room)) ∙ ap (λ es. over es items) (sym more)

  -- an entry is what place answers to its tip, at its position
  pub list_at : (at : ℕ) (tips : List (Option Spot)) (j : ℕ) (tip : Option Spot) (e : Result Found Refusal)
      → slice_get tips j ≡ Some tip → slice_get (list_said z at ps nodes tops tips) j ≡ Some e → place_said z tip (at + j) ps nodes tops ≡ e
  list_at at [] j tip e h k = cc
  list_at at (t ∷ ts) zero tip e h k =
      let n : at + 0 ≡ at = omega arith in
      let same : t ≡ tip = cc in
      let said : place_said z t at ps nodes tops ≡ e = cc in
      (λ i. place_said z (sym same i) (n i) ps nodes tops) ∙ said
  list_at at (t ∷ ts) (suc j) tip e h k =
      let n : at + 1 + j ≡ at + suc j = omega arith in
      ap (λ n. place_said z tip n ps nodes tops) (sym n) ∙ list_at (at + 1) ts j tip e h k
