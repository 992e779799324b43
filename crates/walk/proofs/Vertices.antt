-- Of a sheet within its limits, a walk reads each vertex where it is.
use Rattle.std.proofs.Common.{◌≡◌, ℕ, zero, suc, ◌+◌, ◌<◌, ◌≤◌, true, false, ◌&&◌, cond, List, length, take, slice_index_or, nat_lt, Some, Ok, Err, Result, refl, ap, ◌∙◌, inl, inr, arith}
use Rattle.std.proofs.lemmas.Bool.{and_from, cases_Bool, cond-false, cond-true}
use Rattle.std.proofs.lemmas.Bool.Decides.{nat_tests}
use Rattle.std.specs.Option.{ok_or}
use Rattle.plane.specs.declared.Point.{Point}
use Rattle.plane.specs.Points.{vertex_of}
use Rattle.nodes.specs.declared.node.Node.{Node}
use Rattle.sheet.specs.declared.tables.Size.{Size}
use Rattle.sheet.specs.Legal.{Inside, LegalSheet}
use Rattle.sheet.specs.Sheets.{Sheet, corners, point, points_of, size_of}
use Rattle.checking.specs.Entries.{is_inside}
use Rattle.walk.specs.declared.view.Places.{Places}
use Rattle.walk.specs.Walks.{node_at, places, places_of, vertex_known, vertex_read, walk_on}

pub is_below : (x k : ℕ) → x < k → nat_lt x k ≡ true
is_below x k h = grind (arith, nat_tests)

not_below : (i : ℕ) → nat_lt (suc (suc (suc (suc i)))) 4 ≡ false
not_below i = grind (arith, nat_tests)

inside_true : (z : Size) (p : Point) → Inside z.width z.height p → is_inside z p ≡ true
inside_true z p i =
    and_from _ _ (and_from _ _ (is_below 0 p.x i.right) (is_below p.x z.width i.left)) (and_from _ _ (is_below 0 p.y i.above) (is_below p.y z.height i.below))

vertex_there : (s : Sheet) → LegalSheet s → (v : ℕ) → v < length s.inner + 4 → vertex_known (size_of s) (points_of s) v ≡ Some (vertex_of (points_of s) v)
vertex_there s legal zero h = refl
vertex_there s legal (suc zero) h = refl
vertex_there s legal (suc (suc zero)) h = refl
vertex_there s legal (suc (suc (suc zero))) h = refl
vertex_there s legal (suc (suc (suc (suc i)))) h =
    cond-false _ _ _ (not_below i)
    ∙ cond-true _ _ _ (and_from _ _ (is_below (suc (suc (suc (suc i)))) (length s.inner + 4) h)
    (inside_true (size_of s) (vertex_of (points_of s) (suc (suc (suc (suc i))))) (legal.inside i (point 0 0) (omega (arith, h)))))

vertex_is : (s : Sheet) → LegalSheet s → (k v : ℕ) → v < length s.inner + 4
    → vertex_read (size_of s) (points_of s) k v ≡ Ok (vertex_of (points_of s) v)
vertex_is s legal k v h = ap (λ o. ok_or o (cond (nat_lt v (length s.inner + 4)) v k)) (vertex_there s legal v h)

-- where the corners of a node of the sheet are
abbrev pub places_in : Sheet → Node → Places
places_in s n = places (vertex_of (points_of s) n.a) (vertex_of (points_of s) n.b) (vertex_of (points_of s) n.c)

pub places_known : (s : Sheet) → LegalSheet s → (nodes : List Node) (k : ℕ)
    → (node_at nodes k).a < length s.inner + 4 → (node_at nodes k).b < length s.inner + 4 → (node_at nodes k).c < length s.inner + 4
    → places_of (vertex_read (size_of s) (points_of s)) nodes k ≡ Ok (places_in s (node_at nodes k))
places_known s legal nodes k x y w =
    let n = node_at nodes k in
    let read : ℕ → Result Point ℕ = vertex_read (size_of s) (points_of s) k in
    let at : ℕ → Point = vertex_of (points_of s) in
    ap (λ r. walk_on r (λ a. walk_on (read n.b) (λ b. walk_on (read n.c) (λ c. Ok (places a b c))))) (vertex_is s legal k n.a x)
    ∙ ap (λ r. walk_on r (λ b. walk_on (read n.c) (λ c. Ok (places (at n.a) b c)))) (vertex_is s legal k n.b y)
    ∙ ap (λ r. walk_on r (λ c. Ok (places (at n.a) (at n.b) c))) (vertex_is s legal k n.c w)
