-- What the loops leave in a store that was empty and has room for their nodes.
use Rattle.std.proofs.Common.{◌≡◌, ℕ, ◌+◌, ◌-◌, ◌≤◌, List, [], ◌∷◌, ◌++◌, Some, None, Option, Ok, Err, Result, append_assoc, length, map, refl, sym, ap, ◌∙◌, arith}
use Rattle.std.proofs.lemmas.Bool.{cond-true, lt-ltb}
use Rattle.std.proofs.lemmas.List.{append-nil, length-append, length-map}
use Rattle.plane.specs.declared.Edge.{Edge}
use Rattle.plane.specs.Points.{GridPoint}
use Rattle.tiling.specs.Triangles.{Triangle}
use Rattle.ears.specs.Ears.{cut_of}
use Rattle.ears.proofs.Rotations.{cut_is_cut}
use Rattle.nodes.specs.declared.node.Node.{Node}
use Rattle.refusal.specs.declared.Cause.TheVariants.{Stuck}
use Rattle.refusal.specs.declared.Layer.TheVariants.{Build}
use Rattle.refusal.specs.Numbers.{refused}
use Rattle.rules.specs.Rules.{triangles_in}
use Rattle.sheet.specs.Sheets.{Ring}
use Rattle.bottom.specs.Bottom.{bottom_node, cut_loops, cut_next}
use Rattle.bottom.specs.Cuts.{adds, filled_nodes, filled_said, pour_next, poured, stuck_or}

-- nodes go behind those that are there, where there is room
pub adds_room : (nodes : List Node) (room : ℕ) (ns : List Node) → length nodes + length ns ≤ room → adds nodes room ns ≡ nodes ++ ns
adds_room nodes room [] h = sym (append-nil nodes)
adds_room nodes room (n ∷ ns) h =
    let more = length-append nodes (n ∷ []) in
    ap (λ ms. adds ms room ns) (cond-true _ (nodes ++ n ∷ []) nodes (lt-ltb (length nodes) room (omega (arith, h))))
    ∙ adds_room (nodes ++ n ∷ []) room ns (omega (arith, more, h)) ∙ append_assoc nodes (n ∷ []) ns

-- the nodes behind others
abbrev pub behind : List Node → Result (List Node) ℕ → Result (List Node) ℕ
behind nodes (Ok ns) = Ok (nodes ++ ns)
behind nodes (Err l) = Err l

behind_both : (nodes ns : List Node) (l : ℕ) (ts : List Triangle) (f : List Triangle → List Node) (others : Result (List Node) ℕ) → ns ≡ f ts
    → behind (nodes ++ ns) others ≡ behind nodes (cut_next l f (Some ts) others)
behind_both nodes ns l ts f (Ok ms) e = ap Ok (append_assoc nodes ns ms ∙ ap (λ ks. nodes ++ (ks ++ ms)) e)
behind_both nodes ns l ts f (Err k) e = refl

-- a loop of k corners, and those behind it
module _ (room l k more : ℕ) (nodes : List Node) (f : List Triangle → List Node) (same : (ts : List Triangle) → length (f ts) ≡ length ts)
    (rest : List Node → Result (List Node) ℕ) (others : Result (List Node) ℕ) (next : (ms : List Node) → length ms + more ≤ room → rest ms ≡ behind ms others) where
  filled_next : (o : Option (List Triangle)) → ((ts : List Triangle) → o ≡ Some ts → length ts + 2 ≡ k) → length nodes + ((k - 2) + more) ≤ room
      → pour_next l o (λ ts. rest (adds nodes room (f ts))) ≡ behind nodes (cut_next l f o others)
  filled_next None count fits = refl
  filled_next (Some ts) count fits =
      let n = count ts refl in
      let m = same ts in
      let both = length-append nodes (f ts) in
      ap rest (adds_room nodes room (f ts) (omega (arith, n, m, fits)))
      ∙ next (nodes ++ f ts) (omega (arith, n, m, both, fits)) ∙ behind_both nodes (f ts) l ts f others refl

module _ (at : ℕ → GridPoint) (listed : List Edge) (room : ℕ) where
  made : (r : Ring) (ts : List Triangle) → cut_of at r.corners ≡ Some ts → length ts + 2 ≡ length r.corners
  made r ts h = (cut_is_cut at r.corners ts h).count

  pub filled : (l : ℕ) (rs : List Ring) (nodes : List Node) → length nodes + triangles_in rs ≤ room
      → poured at listed room l rs nodes ≡ behind nodes (cut_loops at listed l rs)
  unfolding poured cut_loops
  filled l [] nodes fits = ap Ok (sym (append-nil nodes))
  filled l (r ∷ rs) nodes fits =
      filled_next room l (length r.corners) (triangles_in rs) nodes (map (bottom_node listed l)) (λ ts. length-map ts (bottom_node listed l))
      (poured at listed room (l + 1) rs) (cut_loops at listed (l + 1) rs) (filled (l + 1) rs) (cut_of at r.corners) (made r) fits

  -- a sheet has as many bottom nodes as its loops are cut into triangles
  counted_next : (l k more : ℕ) (f : List Triangle → List Node) → ((ts : List Triangle) → length (f ts) ≡ length ts) → (o : Option (List Triangle))
      → ((ts : List Triangle) → o ≡ Some ts → length ts + 2 ≡ k) → (others : Result (List Node) ℕ) → ((ms : List Node) → others ≡ Ok ms → length ms ≡ more)
      → (ns : List Node) → cut_next l f o others ≡ Ok ns → length ns ≡ (k - 2) + more
  counted_next l k more f same None count others next ns h = cc
  counted_next l k more f same (Some ts) count (Err j) next ns h = cc
  counted_next l k more f same (Some ts) count (Ok ms) next ns h =
      let n = count ts refl in
      let m = same ts in
      let e = next ms refl in
      let both = length-append (f ts) ms in
      ap length (sym (ok_is (f ts ++ ms) ns h)) ∙ omega (arith, n, m, e, both)
    where
      ok_is : (a b : List Node) → ◌≡◌ {A = Result (List Node) ℕ} (Ok a) (Ok b) → a ≡ b
      ok_is a b h = cc

  pub counted : (l : ℕ) (rs : List Ring) (ns : List Node) → cut_loops at listed l rs ≡ Ok ns → length ns ≡ triangles_in rs
  unfolding cut_loops
  counted l [] ns h = none ns h
    where
      none : (ns : List Node) → ◌≡◌ {A = Result (List Node) ℕ} (Ok []) (Ok ns) → length ns ≡ 0
      none [] h = refl
      none (n ∷ ns) h = cc
  counted l (r ∷ rs) ns h =
      counted_next l (length r.corners) (triangles_in rs) (map (bottom_node listed l)) (λ ts. length-map ts (bottom_node listed l)) (cut_of at r.corners) (made r)
      (cut_loops at listed (l + 1) rs) (counted (l + 1) rs) ns h

-- ---- a store that was empty

behind_none : (r : Result (List Node) ℕ) → behind [] r ≡ r
behind_none (Ok ns) = refl
behind_none (Err l) = refl

module _ (at : ℕ → GridPoint) (listed : List Edge) (room : ℕ) (rs : List Ring) (nodes new : List Node) (r : Option ℕ) (empty : nodes ≡ [])
    (fits : triangles_in rs ≤ room) (h : poured at listed room 0 rs nodes ≡ stuck_or r new) where
  cut_is : cut_loops at listed 0 rs ≡ stuck_or r new
  cut_is =
      sym (behind_none (cut_loops at listed 0 rs)) ∙ sym (filled at listed room 0 rs [] (omega (arith, fits)))
      ∙ ap (poured at listed room 0 rs) (sym empty) ∙ h

  pub fill_done : r ≡ None → (Ok tt ≡ filled_said (cut_loops at listed 0 rs)) × (new ≡ filled_nodes (cut_loops at listed 0 rs))
  fill_done n =
      let e = cut_is ∙ ap (λ r. stuck_or r new) n in
      (sym (ap filled_said e), sym (ap filled_nodes e))

  pub fill_stuck : (l : ℕ) → r ≡ Some l → (Err (refused Stuck Build l) ≡ filled_said (cut_loops at listed 0 rs)) × ([] ≡ filled_nodes (cut_loops at listed 0 rs))
  fill_stuck l n =
      let e = cut_is ∙ ap (λ r. stuck_or r new) n in
      (sym (ap filled_said e), sym (ap filled_nodes e))
