-- Tables hold a sheet exactly where they have no wrong entry: from the entries to the sheet.
use Rattle.std.proofs.Common.{◌≡◌, ◌+◌, ◌<◌, ◌≤◌, ℕ, Bool, eqb, eqb-true, true, false, List, ◌++◌, All, None, length, map, nat_le, nat_lt, not, take, drop, append_assoc, refl, sym, ap, ◌∙◌, subst, arith}
use Rattle.std.specs.List.{position}
use Rattle.std.proofs.lemmas.Bool.{and_parts}
use Rattle.std.proofs.lemmas.Bool.Decides.{nat_tests}
use Rattle.std.proofs.lemmas.List.{length-drop, length-map, length-take, length-take-le, take-append-drop, take_all}
use Rattle.plane.specs.declared.Edge.{Edge}
use Rattle.plane.specs.declared.Point.{Point}
use Rattle.plane.specs.Edges.{outside, same_edge}
use Rattle.plane.specs.Points.{same_point}
use Rattle.lent.specs.Kept.{over}
use Rattle.rules.proofs.Elements.{none_passes}
use Rattle.rules.proofs.Nothing.{nothing_made}
use Rattle.rules.proofs.Orders.{same_edge_true}
use Rattle.rules.proofs.Rows.{rows_of}
use Rattle.sheet.specs.declared.tables.Loop.{Loop}
use Rattle.sheet.specs.declared.tables.Size.{Size}
use Rattle.sheet.specs.Legal.{Inside, LegalRing, LegalSheet}
use Rattle.sheet.specs.Load.{roomy}
use Rattle.sheet.specs.Sheets.{corners, corners_in, loops_from, sizes}
use Rattle.checking.specs.Entries.{first_of, is_inside, is_size, is_within, unlike, wrong_edge, wrong_entry, wrong_loop, wrong_point}
use Rattle.checking.specs.Held.{Holds, NoneWrong, held_sheet, ring_at}
use Rattle.checking.proofs.Fronts.{front_is, goes_on, neither, over_front}
use Rattle.checking.proofs.Reading.{Read, read_from}

-- ---- what tests tell of numbers

record Room (p e l : ℕ) : Type 0 where
  pub points : 1028 ≤ p
  pub edges : 6154 ≤ e
  pub loops : 2050 ≤ l

room : (p e l : ℕ) → roomy p e l ≡ true → Room p e l
room p e l h = record { points = grind (arith, nat_tests); edges = grind (arith, nat_tests); loops = grind (arith, nat_tests) }

record Sized (z : Size) : Type 0 where
  pub width : (2 ≤ z.width) × (z.width ≤ 8191)
  pub height : (2 ≤ z.height) × (z.height ≤ 8191)
  pub inner : z.inner ≤ 1024
  pub loops : z.loops ≤ 2050
  pub corners : z.corners ≤ 6150

at_most : (u v : ℕ) → nat_le u v ≡ true → u ≤ v
at_most u v h = grind (arith, nat_tests)

below : (u v : ℕ) → nat_lt u v ≡ true → u < v
below u v h = grind (arith, nat_tests)

within : (a b x : ℕ) → is_within a b x ≡ true → (a ≤ x) × (x ≤ b)
within a b x h = let p = and_parts _ _ h in (at_most _ _ p.0, at_most _ _ p.1)

sized : (z : Size) → is_size z ≡ true → Sized z
sized z h =
    let a = and_parts _ _ h in
    let b = and_parts _ _ a.0 in
    let c = and_parts _ _ a.1 in
    let d = and_parts _ _ c.1 in
    record { width = within _ _ _ b.0; height = within _ _ _ b.1; inner = at_most _ _ c.0; loops = at_most _ _ d.0; corners = at_most _ _ d.1 }

inside : (z : Size) (p : Point) → is_inside z p ≡ true → Inside z.width z.height p
inside z p h =
    let a = and_parts _ _ h in
    let b = and_parts _ _ a.0 in
    let c = and_parts _ _ a.1 in
    record { right = below _ _ b.0; left = below _ _ b.1; above = below _ _ c.0; below = below _ _ c.1 }

one_point : (a b : Point) → same_point a b ≡ true → a ≡ b
one_point a b h =
    let p = and_parts (eqb a.x b.x) (eqb a.y b.y) h in
    let x = eqb-true a.x b.x p.0 in
    let y = eqb-true a.y b.y p.1 in
    λ i. record { x = x i; y = y i }

one_edge : (e f : Edge) → same_edge e f ≡ true → e ≡ f
one_edge e f h = sym (same_edge_true e f h)

-- ---- the fronts of the tables

take_again : {X : Type 0} (xs : List X) → take 4 xs ≡ take 4 (take 4 xs)
take_again xs = sym (take_all 4 (take 4 xs) (rw (length-take 4 xs) (omega arith)))

-- what stands in a list's front, and behind it
two_parts : {X : Type 0} (first items : List X) (k n : ℕ) → take k items ≡ first → items ≡ (first ++ take n (drop k items)) ++ drop n (drop k items)
two_parts first items k n f =
    let rest = sym (take-append-drop n (drop k items)) in
    sym (take-append-drop k items) ∙ (λ i. f i ++ rest i) ∙ sym (append_assoc first (take n (drop k items)) (drop n (drop k items)))

all_inside : (z : Size) (ps : List Point) → position (λ p. not (is_inside z p)) ps ≡ None → All (Inside z.width z.height) ps
all_inside z ps h = λ k d i. inside z _ (passed _ (none_passes (λ p. not (is_inside z p)) ps h k d i))
  where
    passed : (b : Bool) → not b ≡ false → b ≡ true
    passed true h = refl
    passed false h = cc

all_corners : (z : Size) (es : List Edge) (ls : List Loop) → Read z es 0 ls → corners_in (map (ring_at es) ls) ≡ z.corners
all_corners z es ls r = let c = r.corners in omega (arith, c)

module _ (z : Size) (ps : List Point) (es : List Edge) (ls : List Loop) where
  inner : List Point
  inner = take z.inner (drop 4 ps)

  points_whole : wrong_point z ps ≡ None → over (corners z.width z.height ++ inner) ps ≡ ps
  unfolding inner
  points_whole h =
      let f = front_is same_point one_point 0 (corners z.width z.height) (take 4 ps) (neither _ _ h).0 in
      over_front (corners z.width z.height ++ inner) (drop z.inner (drop 4 ps)) ps (two_parts (corners z.width z.height) ps 4 z.inner (take_again ps ∙ f))

  edges_whole : (ls : List Loop) → Read z es 0 ls → unlike same_edge z.corners outside (take 4 (drop z.corners es)) ≡ None → over (rows_of (map (ring_at es) ls) ++ outside) es ≡ es
  edges_whole ls r h =
      let rest = drop z.corners es in
      let rows = rows_of (map (ring_at es) ls) in
      let f = front_is same_edge one_edge z.corners outside (take 4 rest) h in
      over_front (rows ++ outside) (drop 4 rest) es (sym r.edges ∙ ap (λ xs. rows ++ xs) (sym (take-append-drop 4 rest) ∙ ap (λ xs. xs ++ drop 4 rest) (take_again rest ∙ f)) ∙ sym (append_assoc rows outside (drop 4 rest)))

  module _ (fits : Room (length ps) (length es) (length ls)) (size : Sized z) where
    inner_count : length inner ≡ z.inner
    unfolding inner
    inner_count =
        let room = fits.points in
        let few = size.inner in
        length-take-le z.inner (drop 4 ps) (rw (length-drop 4 ps) (omega (arith, room, few)))

    loop_count : length (map (ring_at es) (take z.loops ls)) ≡ z.loops
    loop_count =
        let room = fits.loops in
        let few = size.loops in
        length-map (take z.loops ls) (ring_at es) ∙ length-take-le z.loops ls (omega (arith, room, few))

    corners_fit : z.corners ≤ length es
    corners_fit = let room = fits.edges in let few = size.corners in omega (arith, room, few)

    legal : Read z es 0 (take z.loops ls) → position (λ p. not (is_inside z p)) inner ≡ None → LegalSheet (held_sheet z ps es ls)
    unfolding inner held_sheet
    legal r h =
        record {
          width = size.width;
          height = size.height;
          few = subst (λ k. k ≤ 1024) (sym inner_count) size.inner;
          inside = all_inside z inner h;
          loops = subst (λ k. k ≤ 2050) (sym loop_count) size.loops;
          corners = subst (λ k. k ≤ 6150) (sym (all_corners z es (take z.loops ls) r)) size.corners;
          rings = subst (λ k. All (LegalRing (k + 4)) (map (ring_at es) (take z.loops ls))) (sym inner_count) r.rings;
        }

    whole : wrong_entry z ps es ls ≡ None → Holds z ps es ls (held_sheet z ps es ls)
    unfolding inner held_sheet wrong_entry
    whole none =
        let p = neither _ _ (goes_on (is_size z) (first_of (wrong_point z ps) (first_of (wrong_loop z 0 0 (take z.loops ls)) (wrong_edge z es (take z.loops ls)))) 0 none).1 in
        let l = neither _ _ p.1 in
        let e = neither _ _ l.1 in
        let r = read_from z es corners_fit 0 0 (take z.loops ls) l.0 e.0 in
        let a = inner_count in
        let b = loop_count in
        let c = all_corners z es (take z.loops ls) r in
        record {
          legal = legal r (nothing_made _ _ (neither _ _ p.0).1);
          size = λ i. sizes z.width z.height (a i) (b i) (c i);
          points = points_whole p.0;
          edges = edges_whole (take z.loops ls) r e.1;
          loops = over_front (loops_from 0 (map (ring_at es) (take z.loops ls))) (drop z.loops ls) ls (sym (take-append-drop z.loops ls) ∙ ap (λ xs. xs ++ drop z.loops ls) (sym r.loops));
        }

pub none_wrong : NoneWrong
unfolding wrong_entry
none_wrong z ps es ls h none =
    let fits = room (length ps) (length es) (length ls) h in
    let tests = first_of (wrong_point z ps) (first_of (wrong_loop z 0 0 (take z.loops ls)) (wrong_edge z es (take z.loops ls))) in
    whole z ps es ls fits (sized z (goes_on (is_size z) tests 0 none).0) none
