-- A hole's eight places, and its corners cut.
use Rattle.std.proofs.Common.{◌≡◌, ℕ, suc, ◌+◌, ◌-◌, ◌<◌, ◌≤◌, List, [], ◌∷◌, ◌++◌, length, map, get_or, take, set, replicate, nat_lt, cond, false, Option, Some, None, Ok, Err, refl, sym, ap, ◌∙◌, append_assoc, arith}
use Rattle.std.proofs.Math.Seq.{set-append_seam}
use Rattle.std.proofs.lemmas.List.{length-append, length-map, length-take, map_push, take_more}
use Rattle.fans.specs.declared.around.Turned.{Turned}
use Rattle.nodes.specs.declared.node.Node.{Node}
use Rattle.nodes.specs.Nodes.{added}
use Rattle.plane.specs.Points.{GridPoint}
use Rattle.refusal.specs.declared.Cause.{Cause}
use Rattle.refusal.specs.declared.Cause.TheVariants.{TableTooShort}
use Rattle.tiling.specs.Triangles.{Triangle}
use Rattle.plane.specs.declared.Corners.{Corners}
use Rattle.ears.specs.Cutting.{cut_said, triangle_of}
use Rattle.ears.specs.Ears.{cut_of}
use Rattle.rounds.specs.declared.holes.Hole.{Hole}
use Rattle.rounds.specs.Near.{filled, filling, node_over, padded}
use Rattle.std.proofs.lemmas.Bool.{cond-true, lt-ltb}
use Rattle.std.proofs.lemmas.Bool.Decides.{nat_tests}

-- one more number in the first place behind the others
padded_push : (ns : List ℕ) (n : ℕ) → length ns < 8 → set (padded ns) (length ns) n ≡ padded (ns ++ n ∷ [])
padded_push ns n h =
    let more : 8 - length ns ≡ suc (8 - length (ns ++ n ∷ [])) = omega (arith, length-append ns (n ∷ [])) in
    ap (λ k. set (ns ++ replicate k 0) (length ns) n) more ∙ set-append_seam ns 0 _ n
    ∙ sym (append_assoc ns (n ∷ []) (replicate (8 - length (ns ++ n ∷ [])) 0))

module _ (f : Turned → ℕ) (links : List Turned) (ns : List ℕ) (i : ℕ) (d : Turned) where
  pub padded_more : (n : ℕ) → i < length links → length links ≤ 8 → ns ≡ padded (map f (take i links)) → n ≡ f (get_or links i d)
      → set ns i n ≡ padded (map f (take (i + 1) links))
  padded_more n more few e is =
      let long : length (map f (take i links)) ≡ i = length-map _ f ∙ omega (arith, length-take i links) in
      ap (λ xs. set xs i n) e
      ∙ ap (λ k. set (padded (map f (take i links))) k n) (sym long)
      ∙ padded_push (map f (take i links)) n (omega arith)
      ∙ ap (λ m. padded (map f (take i links) ++ m ∷ [])) is
      ∙ ap padded (sym (ap (map f) (take_more links i d more) ∙ map_push f (take i links) (get_or links i d)))

pub ruleset padding = (padded_more)

-- ---- nodes added where there is room

module _ (f : Triangle → Node) (old nodes : List Node) (room : ℕ) (ts : List Corners) (i : ℕ) (d : Corners) where
  pub added_more : (n : Node) → i < length ts → length old + length ts ≤ room → nodes ≡ old ++ map f (map triangle_of (take i ts))
      → n ≡ f (triangle_of (get_or ts i d)) → added nodes room n ≡ old ++ map f (map triangle_of (take (i + 1) ts))
  added_more n more fits e is =
      let front : length (map f (map triangle_of (take i ts))) ≡ i =
      length-map (map triangle_of (take i ts)) f ∙ length-map (take i ts) triangle_of ∙ omega (arith, length-take i ts) in
      let long : length nodes ≡ length old + i = ap length e ∙ length-append old _ ∙ ap (λ k. length old + k) front in
      cond-true _ _ _ (lt-ltb (length nodes) room (omega arith))
      ∙ ap (λ ns. ns ++ n ∷ []) e
      ∙ append_assoc old _ (n ∷ [])
      ∙ ap (λ m. old ++ (map f (map triangle_of (take i ts)) ++ m ∷ [])) is
      ∙ ap (λ ns. old ++ ns)
      (sym (ap (map f) (ap (map triangle_of) (take_more ts i d more) ∙ map_push triangle_of (take i ts) (get_or ts i d))
      ∙ map_push f (map triangle_of (take i ts)) (triangle_of (get_or ts i d))))

pub ruleset adding = (added_more)

-- ---- a hole closed

-- what the cut of its corners answers
pub fill_told : (at : ℕ → GridPoint) (h : Hole) (table : List Corners) (n : ℕ) → cut_of at (take h.size h.ring) ≡ Some (map triangle_of (take n table))
    → filling at h ≡ map (node_over h.size h.children) (map triangle_of (take n table))
fill_told at h table n e = ap (filled h) e

pub fill_none : (room : ℕ) (at : ℕ → GridPoint) (h : Hole) (e : Cause) → length (take h.size h.ring) ≤ 8 → 6 ≤ room
    → Err e ≡ cut_said room (take h.size h.ring) (cut_of at (take h.size h.ring)) → filling at h ≡ []
fill_none room at h e few six told = go (cut_of at (take h.size h.ring)) refl told
  where
    fits : nat_lt room (length (take h.size h.ring) - 2) ≡ false
    fits = grind (arith, nat_tests)

    go : (o : Option (List Triangle)) → cut_of at (take h.size h.ring) ≡ o → Err e ≡ cut_said room (take h.size h.ring) o → filling at h ≡ []
    go None is told = ap (filled h) is
    go (Some ts) is told = absurd (ok_not_err (told ∙ ap (λ b. cond b (Err TableTooShort) (Ok (length ts))) fits))
      where
        ok_not_err : Err e ≡ Ok (length ts) → ⊥
        ok_not_err h = cc

pub ruleset closing = (fill_told, fill_none)
