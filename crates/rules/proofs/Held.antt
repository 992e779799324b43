-- The rules over the tables of a sheet, one by one, are those of the sheet.
use Rattle.std.proofs.Common.{◌≡◌, ℕ, ◌+◌, ◌-◌, ◌*◌, ◌==◌, Bool, ◌||◌, cond, not, List, [], ◌∷◌, length, map, Some, None, is_some, position, pos, int_lt, refl, sym, ap, ◌∙◌}
use Rattle.std.specs.List.{list_any, position_or_len, range_with_len}
use Rattle.std.specs.Option.{option_map}
use Rattle.std.proofs.lemmas.List.{length-map}
use Rattle.plane.specs.declared.Edge.{Edge}
use Rattle.plane.specs.Edges.{ring_edges, sum_of}
use Rattle.clash.specs.Clashes.{first_clash_in}
use Rattle.sheet.specs.Sheets.{Ring, Sheet, edges_of, loops_from, loops_of, points_of}
use Rattle.rules.specs.Held.{loop_edges, loops_broken_at, starts_at, sum_broken_at, triangles_at, turns_broken_at, vertices_broken_at}
use Rattle.plane.specs.Points.{place_of}
use Rattle.rules.specs.Rules.{loops_broken, names, names_twice, sum_broken, swept, triangles_in, turns_broken, vertices_broken}
use Rattle.rules.proofs.Rows.{rows, starts, starts_ring}
use Rattle.rules.specs.Tables.{TablesTell}

-- ---- tests of lists, by what the elements answer

module _ {X : Type 0} (p : X → Bool) where
  first_answer : (xs : List X) → position_or_len p xs ≡ position_or_len (λ b. b) (map p xs)
  first_answer [] = refl
  first_answer (x ∷ xs) = ap (λ n. cond (not (p x)) (1 + n) 0) (first_answer xs)

  position_answers : (xs : List X) → position p xs ≡ position (λ b. b) (map p xs)
  position_answers xs = rw (first_answer xs, length-map xs p)

  any_answers : (xs : List X) → list_any p xs ≡ list_any (λ b. b) (map p xs)
  any_answers [] = refl
  any_answers (x ∷ xs) = ap (λ b. p x || b) (any_answers xs)

-- two lists whose elements answer alike
module _ {X Y : Type 0} (p : X → Bool) (q : Y → Bool) (xs : List X) (ys : List Y) where
  position_same : map p xs ≡ map q ys → position p xs ≡ position q ys
  position_same e = position_answers p xs ∙ ap (position (λ b. b)) e ∙ sym (position_answers q ys)

  any_same : map p xs ≡ map q ys → list_any p xs ≡ list_any q ys
  any_same e = any_answers p xs ∙ ap (list_any (λ b. b)) e ∙ sym (any_answers q ys)

-- ---- the rules that read loops: 13, 15, 18 and 20. The others read the tables as they read the sheet.

-- the vertices that a loop's edges start at are its corners
any_starts : (v : ℕ) (es : List Edge) → list_any (starts_at v) es ≡ list_any (λ u. u == v) (starts es)
any_starts v [] = refl
any_starts v (e ∷ es) = ap (λ b. (e.from == v) || b) (any_starts v es)

any_start : (v : ℕ) (cs : List ℕ) → list_any (starts_at v) (ring_edges cs) ≡ list_any (λ u. u == v) cs
any_start v cs = any_starts v (ring_edges cs) ∙ ap (list_any (λ u. u == v)) (starts_ring cs)

pub triangles_same : (start : ℕ) (rs : List Ring) → triangles_at (loops_from start rs) ≡ triangles_in rs
triangles_same start [] = refl
triangles_same start (r ∷ rs) = ap (λ n. (length r.corners - 2) + n) (triangles_same (start + length r.corners) rs)

module _ (s : Sheet) where
  sum_same : sum_broken_at (length s.inner) (loops_of s) ≡ sum_broken s
  sum_same = ap (λ n. cond (n == 2 * length s.inner + 2) None (Some 0)) (triangles_same 0 s.rings)

  pub loops_same : loops_broken_at (edges_of s) (loops_of s) ≡ loops_broken s
  loops_same =
      let twice : List ℕ → Bool = λ cs. is_some (first_clash_in (λ u v. u == v) cs) in
      position_same _ names_twice (loops_of s) s.rings (rows (λ es. twice (starts es)) s ∙ (λ i. map (λ r. twice (starts_ring r.corners i)) s.rings))

  names_same : (v : ℕ) → list_any (λ l. list_any (starts_at v) (loop_edges (edges_of s) l)) (loops_of s) ≡ list_any (λ r. names r v) s.rings
  names_same v = any_same _ (λ r. names r v) (loops_of s) s.rings (rows (list_any (starts_at v)) s ∙ (λ i. map (λ r. any_start v r.corners i) s.rings))

  vertices_same : vertices_broken_at (length s.inner) (edges_of s) (loops_of s) ≡ vertices_broken s
  vertices_same = λ i. option_map (λ k. 4 + k) (position (λ v. not (names_same v i)) (range_with_len 4 (length s.inner)))

  turns_same : turns_broken_at (points_of s) (edges_of s) (loops_of s) ≡ turns_broken s
  turns_same = position_same _ _ (loops_of s) s.rings (rows (λ es. not (int_lt (pos 0) (sum_of (swept (place_of (points_of s))) es))) s)

pub tables_tell : TablesTell
tables_tell s = rw (sum_same s, loops_same s, vertices_same s, turns_same s)
