-- Loops cut into a store, one after another.
use Rattle.std.proofs.Common.{◌≡◌, ℕ, ◌+◌, ◌<◌, ◌≤◌, Bool, true, false, cond, List, Some, None, Option, Ok, Err, Result, drop, drop-cons, add-one, length, map, get_or, refl, sym, ap, ◌∙◌}
use Rattle.std.specs.Option.{option_map}
use Rattle.std.proofs.lemmas.List.{drop_all}
use Rattle.plane.specs.declared.Edge.{Edge}
use Rattle.plane.specs.Points.{GridPoint}
use Rattle.tiling.specs.Triangles.{Triangle}
use Rattle.ears.specs.Ears.{cut_of}
use Rattle.nodes.specs.declared.node.Node.{Node}
use Rattle.rules.specs.Held.{loop_corners, loop_edges}
use Rattle.sheet.specs.declared.tables.Loop.{Loop}
use Rattle.sheet.specs.Sheets.{loop_at}
use Rattle.checking.specs.Held.{ring_at}
use Rattle.bottom.specs.Bottom.{bottom_node}
use Rattle.bottom.specs.Cuts.{adds, pour_next, poured}

-- what a loop that is stuck, or is not, leaves to those that follow
stuck_here : (l : ℕ) (o : Option (List Triangle)) (f : List Triangle → List Node) (nodes : List Node) (rest : List Node → Result (List Node) ℕ)
    → option_map f o ≡ None → pour_next l o (λ ts. rest (f ts)) ≡ Err l
stuck_here l None f nodes rest h = refl
stuck_here l (Some ts) f nodes rest h = cc

goes_on : (l : ℕ) (o : Option (List Triangle)) (f : List Triangle → List Node) (nodes : List Node) (rest : List Node → Result (List Node) ℕ)
    → option_map f o ≡ Some nodes → pour_next l o (λ ts. rest (f ts)) ≡ rest nodes
goes_on l None f nodes rest h = cc
goes_on l (Some ts) f nodes rest h = ap rest (same _ _ h)
  where
    same : (a b : List Node) → ◌≡◌ {A = Option (List Node)} (Some a) (Some b) → a ≡ b
    same a b h = cc

module _ (at : ℕ → GridPoint) (listed es : List Edge) (room : ℕ) (ls : List Loop) (i : ℕ) (inside : i < length ls) (old : List Node) where
  abbrev pub this : Loop
  this = get_or ls i (loop_at 0 0 0)

  abbrev pub into : List Triangle → List Node
  into ts = adds old room (map (bottom_node listed i) ts)

  others : List Node → Result (List Node) ℕ
  others = poured at listed room (i + 1) (map (ring_at es) (drop (i + 1) ls))

  next : poured at listed room i (map (ring_at es) (drop i ls)) old ≡ pour_next i (cut_of at (loop_corners es this)) (λ ts. others (into ts))
  unfolding others poured
  next = ap (λ rest. poured at listed room i (map (ring_at es) rest) old) (rw (← add-one i) at (drop-cons ls i (loop_at 0 0 0) inside))

  module _ (row : List Edge) (is : row ≡ loop_edges es this) (cut : Bool) (new : List Node)
      (h : option_map into (cut_of at (map (λ (e : Edge). e.from) row)) ≡ cond cut (Some new) None) where
    here : option_map into (cut_of at (loop_corners es this)) ≡ cond cut (Some new) None
    here = ap (λ es. option_map into (cut_of at (map (λ (e : Edge). e.from) es))) (sym is) ∙ h

    pub pour_stuck : cut ≡ false → poured at listed room i (map (ring_at es) (drop i ls)) old ≡ Err i
    pour_stuck stuck = next ∙ stuck_here i (cut_of at (loop_corners es this)) into old others (here ∙ ap (λ b. cond b (Some new) None) stuck)

    pub pour_goes : cut ≡ true → poured at listed room i (map (ring_at es) (drop i ls)) old ≡ poured at listed room (i + 1) (map (ring_at es) (drop (i + 1) ls)) new
    unfolding others
    pour_goes done = next ∙ goes_on i (cut_of at (loop_corners es this)) into new others (here ∙ ap (λ b. cond b (Some new) None) done)

pub pour_end : (at : ℕ → GridPoint) (listed es : List Edge) (room : ℕ) (ls : List Loop) (i : ℕ) (old : List Node) → length ls ≤ i
    → poured at listed room i (map (ring_at es) (drop i ls)) old ≡ Ok old
unfolding poured
pour_end at listed es room ls i old past = ap (λ rest. poured at listed room i (map (ring_at es) rest) old) (drop_all i ls past)
