-- The answer to a tip of a sealed sheet names the one cell that holds it.
use Rattle.std.proofs.Common.{◌≡◌, ℕ, ◌+◌, ◌*◌, ◌≤◌, Bool, true, false, cond, List, length, pos, Some, None, Option, Ok, Err, Result, refl, ap, ◌∙◌, subst}
use Rattle.std.proofs.lemmas.Bool.{cond-true}
use Rattle.plane.specs.Kernels.{Scaled, is_sheet_size}
use Rattle.plane.specs.Points.{Spot, is_on_sheet}
use Rattle.refusal.specs.declared.Refusal.{Refusal}
use Rattle.nodes.specs.declared.node.Node.{Node}
use Rattle.sheet.specs.Sheets.{Sheet, points_of, size_of}
use Rattle.hierarchy.specs.Theorems.{Made}
use Rattle.walk.specs.declared.Found.{Found}
use Rattle.walk.specs.Walks.{find_said}
use Rattle.placing.specs.Placings.{Names, PlaceTells, or_wrong, place_said}
use Rattle.walk.proofs.Tells.{sized, walk_tells}

pub place_tells : PlaceTells
unfolding place_said
place_tells s nodes live made rounds m few tip position p is z on =
    let t = walk_tells s nodes live made rounds m few p z on in
    let said : place_said (size_of s) (Some p) position (points_of s) nodes live ≡ Ok t.0 =
    cond-true _ _ _ (sized s m.legal) ∙ cond-true _ _ _ on ∙ ap or_wrong t.1 in
    (t.0, ap (λ tip. place_said (size_of s) tip position (points_of s) nodes live) is ∙ said, record { holds = t.2; alone = t.3 })

-- what an answer that is handed out says
pub record Told (s : Sheet) (nodes : List Node) (live : List ℕ) (rounds : ℕ) (tip : Option Spot) (f : Found) : Type 0 where
  pub point : Spot
  pub meant : tip ≡ Some point
  pub names : Names s point f
  pub walk : find_said (size_of s) (Some point) (points_of s) nodes live ≡ Ok f
  pub few : f.tests ≤ 24 * rounds + 3 * length live

one_answer : (x : Result Found ℕ) (f g : Found) → x ≡ Ok f → or_wrong x ≡ Ok g → f ≡ g
one_answer (Ok y) f g h k = cc
one_answer (Err i) f g h k = cc

on_first : (b : Bool) (x : Result Found Refusal) (e : Refusal) (g : Found) → cond b x (Err e) ≡ Ok g → (b ≡ true) × (x ≡ Ok g)
on_first true x e g h = (refl, h)
on_first false x e g h = cc

pub answer_told : (s : Sheet) (nodes : List Node) (live made : List ℕ) (rounds : ℕ) → Made s nodes live made rounds → length live ≤ 65535
    → (tip : Option Spot) (position : ℕ) (g : Found) → Scaled tip → place_said (size_of s) tip position (points_of s) nodes live ≡ Ok g
    → Told s nodes live rounds tip g
unfolding place_said
answer_told s nodes live made rounds m few None position g z said = cc
answer_told s nodes live made rounds m few (Some p) position g z said =
    let sized = on_first (is_sheet_size s.width s.height) _ _ g said in
    let o = on_first (is_on_sheet (pos s.width) (pos s.height) p) _ _ g sized.1 in
    let t = walk_tells s nodes live made rounds m few p z o.0 in
    let same = one_answer _ t.0 g t.1 o.1 in
    let Says : Found → Type 0 = λ f. Told s nodes live rounds (Some p) f in
    subst Says same (record { point = p; meant = refl; names = record { holds = t.2; alone = t.3 }; walk = t.1; few = t.4 })
