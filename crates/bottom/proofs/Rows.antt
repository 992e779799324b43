-- The edges of a loop are among those that are listed.
use Rattle.std.proofs.Common.{◌≡◌, ℕ, zero, suc, ◌+◌, ◌≤◌, Bool, true, false, ◌||◌, List, [], ◌∷◌, All, drop, get_or, length, subst, take, refl, sym, ◌∙◌, arith}
use Rattle.std.proofs.lemmas.Bool.{false≢true}
use Rattle.std.proofs.lemmas.List.Elements.{All-cons, All-nil}
use Rattle.sheet.specs.Sheets.{Ring, corners_in, entry, loops_from}
use Rattle.tiling.specs.Cells.{joins, some_of}
use Rattle.plane.specs.declared.Edge.{Edge}
use Rattle.rules.specs.Held.{loop_edges}
use Rattle.sheet.specs.declared.tables.Loop.{Loop}
use Rattle.bottom.specs.Bottom.{is_drawn}
use Rattle.bottom.specs.Cuts.{Within}

pub own_first : (row listed : List Edge) (u v : ℕ) (own all : Bool) → Within row listed → own ≡ is_drawn row u v → all ≡ is_drawn listed u v → own ≡ true
    → true ≡ is_drawn listed u v
unfolding Within
own_first row listed u v own all within o a h = sym (within u v (sym o ∙ h))

or_right : (a b : Bool) → b ≡ true → (a || b) ≡ true
or_right true b h = refl
or_right false b h = h

-- what is found first, or behind it
or_next : (a b c : Bool) → (b ≡ true → c ≡ true) → (a || b) ≡ true → (a || c) ≡ true
or_next true b c next h = refl
or_next false b c next h = next h

module _ (test : Edge → Bool) where
  -- what is found in a part of a list is found in a longer front
  found_in_front : (es : List Edge) (k n : ℕ) → k ≤ n → some_of test (take k es) ≡ true → some_of test (take n es) ≡ true
  found_in_front es zero n h f = absurd (false≢true f)
  found_in_front [] (suc k) n h f = absurd (false≢true f)
  found_in_front (e ∷ es) (suc k) zero h f = absurd (omega (arith, h))
  found_in_front (e ∷ es) (suc k) (suc n) h f = or_next (test e) _ _ (found_in_front es k n (omega (arith, h))) f

  found_behind : (es : List Edge) (start k n : ℕ) → start + k ≤ n → some_of test (take k (drop start es)) ≡ true → some_of test (take n es) ≡ true
  found_behind es zero k n h f = found_in_front es k n (omega (arith, h)) f
  found_behind [] (suc start) k n h f = found_in_front [] k n (omega (arith, h)) f
  found_behind (e ∷ es) (suc start) k zero h f = absurd (omega (arith, h))
  found_behind (e ∷ es) (suc start) k (suc n) h f = or_right (test e) _ (found_behind es start k n (omega (arith, h)) f)

row_within : (es : List Edge) (n : ℕ) (l : Loop) → l.start + l.corners ≤ n → Within (loop_edges es l) (take n es)
unfolding Within
row_within es n l h u v f = found_behind (joins u v) es l.start l.corners n h f

-- the loops of a sheet end where its corners do
ends_before : ℕ → Loop → Type 0
ends_before n l = l.start + l.corners ≤ n

loops_end : (start n : ℕ) (rs : List Ring) → start + corners_in rs ≡ n → All (ends_before n) (loops_from start rs)
unfolding ends_before
loops_end start n [] h = All-nil (ends_before n)
loops_end start n (r ∷ rs) h =
    All-cons (ends_before n) (entry start r) (loops_from (start + length r.corners) rs) (omega (arith, h)) (loops_end (start + length r.corners) n rs (omega (arith, h)))

pub loops_within : (es : List Edge) (n : ℕ) (ls : List Loop) (rs : List Ring) → ls ≡ loops_from 0 rs → corners_in rs ≤ n → All (λ l. Within (loop_edges es l) (take n es)) ls
unfolding ends_before
loops_within es n ls rs e h k d i =
    let all = loops_end 0 (corners_in rs) rs (omega arith) in
    let here = subst (All (ends_before (corners_in rs))) (sym e) all k d i in
    row_within es n (get_or ls k d) (omega (arith, here, h))
