-- Where the fan of every vertex that is left closes, looking at all vertices finds none that is broken.
use Rattle.std.proofs.Common.{◌≡◌, ℕ, zero, suc, ◌+◌, ◌<◌, ◌≤◌, List, [], ◌∷◌, length, Some, Ok, cond, sym, refl, ap, ◌∙◌, arith}
use Rattle.plane.specs.Points.{GridPoint}
use Rattle.nodes.specs.declared.node.Node.{Node}
use Rattle.fans.specs.declared.around.Turned.{Turned}
use Rattle.fans.specs.Around.{around}
use Rattle.fans.specs.Fans.{fan_of}
use Rattle.rounds.specs.Choices.{Found, chosen_too, is_choice, judge, look, look_from, look_on, passed}

module _ (at : ℕ → GridPoint) (nodes : List Node) (live : List ℕ) (closes : (v : ℕ) → 4 ≤ v → 0 < length (around nodes live v) → (es : List Turned) × (fan_of (around nodes live v) ≡ Some es)) where
  one_look : (v : ℕ) → 4 ≤ v → (f : Found) → (g : Found) × (look at v (around nodes live v) f ≡ Ok g)
  one_look v inner f = go (around nodes live v) refl
    where
      go : (ts : List Turned) → around nodes live v ≡ ts → (g : Found) × (look at v ts f ≡ Ok g)
      go [] e = (f, refl)
      go (t ∷ ts) e =
          let r = closes v inner (let d = ap length e in omega arith) in
          let fan : fan_of (t ∷ ts) ≡ Some r.0 = ap fan_of (sym e) ∙ r.1 in
          (cond (is_choice at f.marks (t ∷ ts) r.0) (chosen_too v (length (t ∷ ts)) f) (passed f), ap (judge at v (t ∷ ts) f) fan)

  pub looks : (k v : ℕ) → 4 ≤ v → (f : Found) → (g : Found) × (look_from at nodes live k v f ≡ Ok g)
  unfolding look_from
  looks zero v inner f = (f, refl)
  looks (suc k) v inner f =
      let h = one_look v inner f in
      let g = looks k (v + 1) (omega arith) h.0 in
      (g.0, ap (λ x. look_on at x (look_from at nodes live k (v + 1))) h.1 ∙ g.1)
