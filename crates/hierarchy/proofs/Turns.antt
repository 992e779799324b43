-- What the turns make is the hierarchy of the sheet.
use Rattle.std.proofs.Common.{◌≡◌, ℕ, ◌+◌, Bool, true, false, cond, List, None, Some, Option, Ok, Err, Result, length, refl, sym, ap, ◌∙◌, subst}
use Rattle.plane.specs.Points.{place_of}
use Rattle.nodes.specs.declared.node.Node.{Node}
use Rattle.refusal.specs.declared.Refusal.{Refusal}
use Rattle.sheet.specs.declared.tables.Size.{Size}
use Rattle.sheet.specs.Sheets.{Sheet, points_of}
use Rattle.checking.proofs.Unaltered.{one_held}
use Rattle.bottom.specs.Bottom.{bottom_of}
use Rattle.bottom.specs.Cuts.{cut_said, or_stuck, or_wrong, sheet_cut}
use Rattle.rounds.specs.Choices.{Found, look_all, rounded_live, rounded_nodes}
use Rattle.rounds.specs.Rounds.{Rounded, look_said, round_next, round_said, unless, wrong_number}
use Rattle.hierarchy.specs.Layers.{Layers}
use Rattle.hierarchy.specs.Layers.Layers.{bottom, round}
use Rattle.hierarchy.specs.Turns.{CutMakes, RoundMakes, TurnsMakeLayers}

-- a test that was passed, since what is answered is no refusal
passed : {X : Type 0} (b : Bool) (said : Result X Refusal) (e : Refusal) (x : X) → cond b said (Err e) ≡ Ok x → said ≡ Ok x
passed true said e x h = h
passed false said e x h = cc

failed : {X : Type 0} (b : Bool) (said : Result X Refusal) (e : Refusal) (x : X) → cond b (Err e) said ≡ Ok x → said ≡ Ok x
failed true said e x h = cc
failed false said e x h = h

not_stuck : (r : Result (List Node) ℕ) (ns : List Node) → or_stuck r ≡ Ok ns → r ≡ Ok ns
not_stuck (Ok ms) ns h = cc
not_stuck (Err l) ns h = cc

sheet_is_cut : (room : ℕ) (s : Sheet) (ns : List Node) → sheet_cut room s ≡ Ok ns → bottom_of s ≡ Ok ns
sheet_is_cut room s ns h = not_stuck (bottom_of s) ns (failed _ _ _ ns (passed _ _ _ ns h))

cut_makes : CutMakes
unfolding cut_said
cut_makes z ps es ls room s ns holds h =
    let o = one_held z ps es ls s holds in
    let said : or_wrong None (sheet_cut room s) ≡ Ok ns = (λ i. or_wrong (sym o.0 i) (sheet_cut room (sym o.1 i))) ∙ h in
    bottom ns (sheet_is_cut room s ns said)

right_then : (p : Option ℕ) (said : Result Rounded Refusal) (x : Rounded) → round_next p said ≡ Ok x → said ≡ Ok x
right_then None said x h = h
right_then (Some i) said x h = cc

none_refused : (o : Option Refusal) (r x : Rounded) → unless o r ≡ Ok x → r ≡ x
none_refused None r x h = cc
none_refused (Some e) r x h = cc

module _ (z : Size) (s : Sheet) (nodes : List Node) (live : List ℕ) (rounds room table n : ℕ) where
  -- what a round makes of what it finds
  made_of : Found → Rounded
  made_of f = record { nodes = rounded_nodes (place_of (points_of s)) nodes live n f.marks; live = rounded_live (place_of (points_of s)) nodes live f }

  found_then : (o : Result Found ℕ) (x : Rounded) → z.inner ≡ n → look_said z (points_of s) nodes live rounds room table o ≡ Ok x
      → (f : Found) × (o ≡ Ok f) × (made_of f ≡ x)
  unfolding made_of
  found_then (Err v) x same h = cc
  found_then (Ok f) x same h =
      let r : ℕ → Rounded = λ n. record { nodes = rounded_nodes (place_of (points_of s)) nodes live n f.marks; live = rounded_live (place_of (points_of s)) nodes live f } in
      (f, refl, sym (ap r same) ∙ none_refused _ (r z.inner) x h)

round_makes : RoundMakes
unfolding round_said made_of
round_makes z s nodes live made r rounds room table x same layers h =
    let at = place_of (points_of s) in
    let said = right_then (wrong_number z (points_of s) nodes live) _ x h in
    let f = found_then z s nodes live rounds room table (length s.inner) (look_all at nodes live z.inner) x same said in
    let looked = sym (ap (look_all at nodes live) same) ∙ f.1 in
    let next = round nodes live made r layers f.0 looked in
    subst (λ (x : Rounded). (more : List ℕ) × Layers s x.nodes x.live more (r + 1)) f.2 (_, next)

pub turns_make_layers : TurnsMakeLayers
turns_make_layers = (cut_makes, round_makes)
