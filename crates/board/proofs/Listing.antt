-- A list of tips for which a table has entries enough, and the entry of each.
use Rattle.std.proofs.Common.{◌≡◌, ℕ, zero, suc, ◌+◌, ◌≤◌, List, [], ◌∷◌, Some, Option, Ok, Result, length, map, take, ap, ◌∙◌, arith}
use Rattle.std.specs.List.{slice_get}
use Rattle.std.proofs.lemmas.List.{length-map, take_all}
use Rattle.plane.specs.declared.Point.{Point}
use Rattle.plane.specs.Points.{Spot}
use Rattle.refusal.specs.declared.Refusal.{Refusal}
use Rattle.nodes.specs.declared.node.Node.{Node}
use Rattle.sheet.specs.declared.tables.Size.{Size}
use Rattle.placing.specs.Placings.{list_said, place_said}
use Rattle.walk.specs.declared.Found.{Found}

pub whole_list : {X Y : Type 0} (f : X → Y) (tips : List X) (n : ℕ) → length tips ≤ n → take n (map f tips) ≡ map f tips
whole_list f tips n h = take_all n (map f tips) (let l = length-map tips f in omega (arith, h, l))

pub ok_same : (x y : List (Result Found Refusal)) → ◌≡◌ {A = Result (List (Result Found Refusal)) Refusal} (Ok x) (Ok y) → x ≡ y
ok_same x y e = cc

module _ (z : Size) (ps : List Point) (nodes : List Node) (tops : List ℕ) where
  -- each tip of a list has its entry
  pub list_entry : (at : ℕ) (tips : List (Option Spot)) (j : ℕ) (tip : Option Spot) → slice_get tips j ≡ Some tip
      → slice_get (list_said z at ps nodes tops tips) j ≡ Some (place_said z tip (at + j) ps nodes tops)
  list_entry at [] j tip h = cc
  list_entry at (t ∷ ts) zero tip h =
      let n : at ≡ at + 0 = omega arith in
      let same : t ≡ tip = cc in
      λ i. Some (place_said z (same i) (n i) ps nodes tops)
  list_entry at (t ∷ ts) (suc j) tip h =
      let n : at + 1 + j ≡ at + suc j = omega arith in
      list_entry (at + 1) ts j tip h ∙ ap (λ n. Some (place_said z tip n ps nodes tops)) n
