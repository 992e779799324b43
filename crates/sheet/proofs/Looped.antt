-- The loops that were read so far, in the lists.
use Rattle.std.proofs.Common.{◌≡◌, ℕ, ◌+◌, List, [], ◌∷◌, ◌++◌, length, sym, refl, ap, ◌∙◌, arith}
use Rattle.std.specs.List.{flat_map}
use Rattle.std.proofs.lemmas.List.{flat_map_more}
use Rattle.lent.specs.Kept.{Kept, put, puts}
use Rattle.lent.proofs.Puts.{puts_both, puts_next}
use Rattle.plane.specs.declared.Edge.{Edge}
use Rattle.sheet.specs.declared.tables.Loop.{Loop}
use Rattle.plane.specs.Edges.{ring_edges}
use Rattle.sheet.specs.Sheets.{Ring, corners_in, entry, loops_from}

pub record Looped (start : ℕ) (e₀ e : Kept Edge) (l₀ l : Kept Loop) (done : List Ring) : Type 0 where
  pub starts : start ≡ corners_in done
  pub edges : e ≡ puts e₀ (flat_map (λ r. ring_edges r.corners) done)
  pub loops : l ≡ puts l₀ (loops_from 0 done)

pub corners_push : (done : List Ring) (x : Ring) → corners_in (done ++ x ∷ []) ≡ corners_in done + length x.corners
corners_push [] x = omega arith
corners_push (r ∷ done) x = let h = corners_push done x in omega arith

loops_push : (start : ℕ) (done : List Ring) (x : Ring) → loops_from start (done ++ x ∷ []) ≡ loops_from start done ++ entry (start + corners_in done) x ∷ []
loops_push start [] x = let z : start + 0 ≡ start = omega arith in rw z refl
loops_push start (r ∷ done) x =
    let a : start + length r.corners + corners_in done ≡ start + (length r.corners + corners_in done) = omega arith in
    ap (λ ls. entry start r ∷ ls) (loops_push (start + length r.corners) done x ∙ ap (λ s. loops_from (start + length r.corners) done ++ entry s x ∷ []) a)

pub looped_more : (start : ℕ) (e₀ e : Kept Edge) (l₀ l : Kept Loop) (done : List Ring) → Looped start e₀ e l₀ l done
    → (x : Ring) (y : Loop) (e' : Kept Edge) (l' : Kept Loop) → y ≡ entry start x → e' ≡ puts e (ring_edges x.corners) → l' ≡ put l y
    → Looped (start + y.corners) e₀ e' l₀ l' (done ++ x ∷ [])
looped_more start e₀ e l₀ l done h x y e' l' ey ee el =
    record {
      starts = let s = h.starts in let c = ap (λ (y : Loop). y.corners) ey in let p = corners_push done x in omega arith;
      edges =
          puts_both e₀ e e' (flat_map (λ r. ring_edges r.corners) done) (ring_edges x.corners) h.edges ee
          ∙ ap (puts e₀) (flat_map_more (λ r. ring_edges r.corners) [] done x);
      loops =
          puts_next l₀ l l' (loops_from 0 done) (entry start x) h.loops (el ∙ ap (put l) ey)
          ∙ ap (puts l₀) (ap (λ s. loops_from 0 done ++ entry s x ∷ []) (let s = h.starts in omega arith) ∙ sym (loops_push 0 done x));
    }
