-- The theorems.
use Rattle.std.proofs.Common.{◌≡◌, ℕ, zero, suc, ◌+◌, ◌*◌, ◌<◌, ◌≤◌, Bool, true, false, cond, ◌==◌, List, [], ◌∷◌, ◌++◌, length, get_or, nat_le, nat_lt, Some, None, Option, Ok, Err, Result, sym, refl, ap, ap₂, ◌∙◌, subst, append-nil, inl, inr, arith, ne_eqb, length-append}
use Rattle.std.proofs.lemmas.Bool.{and_from, cond-false, cond-true, le-leb, le-ltb, lt-ltb, false≢true}
use Rattle.std.proofs.lemmas.List.{drop_all}
use Rattle.lent.specs.Kept.{over}
use Rattle.plane.specs.Edges.{In, Once}
use Rattle.plane.specs.Points.{GridPoint, place_of}
use Rattle.refusal.specs.declared.Cause.{Cause}
use Rattle.refusal.specs.declared.Cause.TheVariants.{NoneLeft, OutOfRange, StoreFull, Stuck}
use Rattle.refusal.specs.declared.Layer.TheVariants.{Build}
use Rattle.refusal.specs.declared.Refusal.{Refusal}
use Rattle.refusal.specs.Numbers.{number, refused}
use Rattle.nodes.specs.declared.node.Node.{Node}
use Rattle.nodes.specs.Nodes.{blank}
use Rattle.fans.specs.declared.around.Turned.{Turned}
use Rattle.fans.specs.Around.{around, degree, left_from}
use Rattle.fans.specs.Fans.{fan_of}
use Rattle.sheet.specs.Legal.{LegalSheet}
use Rattle.sheet.specs.Sheets.{Sheet, edges_of, loops_of, points_of, size_of}
use Rattle.rules.specs.Planes.{plane_of}
use Rattle.rules.specs.Rules.{triangles_in}
use Rattle.rules.proofs.Orders.{checked_is_in_order}
use Rattle.checking.specs.Entries.{first_of, is_size, wrong_entry, wrong_point, wrong_vertex}
use Rattle.checking.specs.Held.{Holds}
use Rattle.checking.proofs.Unaltered.{one_held}
use Rattle.bottom.specs.Bottom.{bottom_of}
use Rattle.bottom.specs.Cuts.{bottom_count, cut_said, or_stuck, or_wrong, sheet_cut}
use Rattle.rounds.specs.Choices.{Found, closings, look_all, nothing_found, rounded_live, rounded_nodes}
use Rattle.rounds.specs.Rounds.{Rounded, found_said, has_vertices, is_live, look_said, most_nodes, or_next, right_said, round_next, round_said, unless, wrong_live, wrong_node, wrong_nodes, wrong_number}
use Rattle.sealing.specs.Seals.{left_said, seal_next, seal_said}
use Rattle.hierarchy.specs.Layers.{triangle_of}
use Rattle.hierarchy.specs.Layers.Layers.{round}
use Rattle.hierarchy.specs.Theorems.{Ascends, Made}
use Rattle.hierarchy.proofs.Growth.{Kept}
use Rattle.hierarchy.proofs.Looks.{seen}
use Rattle.hierarchy.proofs.TakesOut.{round_takes_out}
use Rattle.hierarchy.proofs.Theorems.{ground_nodes, keeps}
use Rattle.webs.specs.Theorems.{CutIsUnhindered, FansClose, LayersAreCounted, Never, NoFanIsBroken, NoNumberIsWrong, RoundIsUnhindered, SealTellsLeft, Unhindered, left_told}
use Rattle.webs.proofs.Balance.{balanced}
use Rattle.webs.proofs.Bottoms.{Balanced, sum_right}
use Rattle.webs.proofs.Causes.{either, granted_so, other_cause}
use Rattle.webs.proofs.Fans.{fan_closes}
use Rattle.webs.proofs.Looks.{looks}
use Rattle.webs.proofs.Sides.{Web}

-- ---- the cut

stuck_never : (d : Cause) → (number Stuck ≡ number d → ⊥) → (r : Result (List Node) ℕ) → Never d (or_stuck r)
stuck_never d other (Ok ns) = granted_so d ns
stuck_never d other (Err l) = other_cause Stuck Build l d other

pub cut_is_unhindered : CutIsUnhindered
unfolding cut_said CutIsUnhindered
cut_is_unhindered z ps es ls room s holds none =
    let o = one_held z ps es ls s holds in
    let said : cut_said z ps es ls room ≡ sheet_cut room s = λ i. or_wrong (o.0 i) (sheet_cut room (o.1 i)) in
    let right = sum_right s none in
    let n = bottom_count (length s.inner) in
    record {
      in_range = subst (Never OutOfRange) (sym said)
          (either OutOfRange (triangles_in s.rings == n) _ _
          (λ _. either OutOfRange (nat_lt room n) _ _ (λ _. other_cause StoreFull Build n OutOfRange (λ e. omega arith)) (λ _. stuck_never OutOfRange (λ e. omega arith) (bottom_of s)))
          (λ off. absurd (false≢true (sym off ∙ right))));
      not_full = λ enough.
          subst (Never StoreFull) (sym said)
          (either StoreFull (triangles_in s.rings == n) _ _
          (λ _. either StoreFull (nat_lt room n) _ _ (λ full. absurd (false≢true (sym (le-ltb room n enough) ∙ full))) (λ _. stuck_never StoreFull (λ e. omega arith) (bottom_of s)))
          (λ off. absurd (false≢true (sym off ∙ right))));
    }

-- ---- numbers inside their ranges

-- a list over itself is itself
over_self : {X : Type 0} (xs : List X) → over xs xs ≡ xs
over_self xs = ap (λ l. xs ++ l) (drop_all (length xs) xs (omega arith)) ∙ append-nil xs

held_self : (s : Sheet) → LegalSheet s → Holds (size_of s) (points_of s) (edges_of s) (loops_of s) s
held_self s legal = record { legal = legal; size = refl; points = over_self (points_of s); edges = over_self (edges_of s); loops = over_self (loops_of s) }

some_not : (b : Bool) (o : Option ℕ) → cond b o (Some 0) ≡ None → (b ≡ true) × (o ≡ None)
some_not true o h = (refl, h)
some_not false o h = cc

first_none : (o p : Option ℕ) → first_of o p ≡ None → o ≡ None
first_none None p h = refl
first_none (Some i) p h = cc

vertices_right : (s : Sheet) → LegalSheet s → wrong_vertex (size_of s) (points_of s) ≡ None
unfolding wrong_entry
vertices_right s legal =
    let o = (one_held (size_of s) (points_of s) (edges_of s) (loops_of s) s (held_self s legal)).0 in
    let p = some_not (is_size (size_of s)) _ o in
    cond-true (is_size (size_of s)) (wrong_point (size_of s) (points_of s)) (Some 0) p.0 ∙ first_none (wrong_point (size_of s) (points_of s)) _ p.1

live_right : (count least at : ℕ) (live : List ℕ) → Ascends least live → ((k : ℕ) → In k live → k < count) → wrong_live count least at live ≡ None
live_right count least at [] a h = refl
live_right count least at (k ∷ live) a h =
    cond-true (is_live count least k) (wrong_live count (k + 1) (at + 1) live) (Some at) (and_from _ _ (le-leb least k a.0) (lt-ltb k count (h k (inl refl))))
    ∙ live_right count (k + 1) (at + 1) live a.1 (λ j i. h j (inr i))

node_right : (vertices : ℕ) (nodes : List Node) (live : List ℕ) → ((k : ℕ) → In k live → has_vertices vertices (get_or nodes k blank) ≡ true) → wrong_node vertices nodes live ≡ None
node_right vertices nodes [] h = refl
node_right vertices nodes (k ∷ live) h =
    cond-true (has_vertices vertices (get_or nodes k blank)) (wrong_node vertices nodes live) (Some k) (h k (inl refl)) ∙ node_right vertices nodes live (λ j i. h j (inr i))

ascends_once : (a : ℕ) (l : List ℕ) → Ascends a l → Once l × ((k : ℕ) → In k l → a ≤ k)
ascends_once a [] h = (tt, λ k i. absurd i)
ascends_once a (x ∷ l) h =
    let r = ascends_once (x + 1) l h.1 in
    let m = h.0 in
    ((λ i. (let q = r.1 x i in omega arith), r.0), λ k. elim [ inl e ↦ (omega arith) | inr i ↦ (let q = r.1 k i in omega arith) ])

-- no more vertices are left than there are
left_few : (nodes : List Node) (live : List ℕ) (n v : ℕ) → left_from nodes live n v ≤ n
left_few nodes live zero v = omega arith
left_few nodes live (suc n) v = go (nat_lt 0 (degree nodes live v)) (left_few nodes live n (v + 1))
  where
    go : (b : Bool) → left_from nodes live n (v + 1) ≤ n → cond b 1 0 + left_from nodes live n (v + 1) ≤ suc n
    go true h = omega arith
    go false h = omega arith

-- ---- a layer

module _ (s : Sheet) (nodes : List Node) (live made : List ℕ) (r : ℕ) (m : Made s nodes live made r) where
  abbrev at : ℕ → GridPoint
  at = place_of (points_of s)

  kept : Kept at (length s.inner + 4) (ground_nodes s nodes live made r m).0 nodes live made r
  kept = keeps s nodes live made r m

  web : Web (plane_of s) (triangle_of nodes) live
  web = record { leftward = λ k i. kept.leftward k (kept.alive k i); total = kept.total }

  closes : (v : ℕ) → 4 ≤ v → 0 < length (around nodes live v) → (fan : List Turned) × (fan_of (around nodes live v) ≡ Some fan)
  closes v inner some = fan_closes (plane_of s) (checked_is_in_order s m.legal m.checked) nodes live web (ascends_once 0 live kept.ascending).0 kept.alive v inner some

  found : (f : Found) × (look_all at nodes live (length s.inner) ≡ Ok f)
  found = looks at nodes live closes (length s.inner) 4 (omega arith) (nothing_found (length s.inner + 4))

  even : Balanced s nodes live
  even = balanced s m.legal m.checked nodes live made r m.layers

  vertices_named : (k : ℕ) → In k live → has_vertices (length s.inner + 4) (get_or nodes k blank) ≡ true
  vertices_named k i =
      let h = kept.named k (kept.alive k i) in
      and_from _ _ (lt-ltb _ _ (h (triangle_of nodes k).a (inl refl)))
      (and_from _ _ (lt-ltb _ _ (h (triangle_of nodes k).b (inr (inl refl)))) (lt-ltb _ _ (h (triangle_of nodes k).c (inr (inr (inl refl))))))

  few : length nodes ≤ most_nodes (length s.inner)
  few = let c = even.room in omega arith

  nodes_right : wrong_nodes (length s.inner) nodes live ≡ None
  nodes_right =
      cond-true (nat_le (length nodes) (most_nodes (length s.inner))) (or_next (wrong_live (length nodes) 0 0 live) (wrong_node (length s.inner + 4) nodes live)) (Some (most_nodes (length s.inner))) (le-leb _ _ few)
      ∙ ap₂ or_next (live_right (length nodes) 0 0 live kept.ascending kept.alive) (node_right (length s.inner + 4) nodes live vertices_named)

  numbers_right : wrong_number (size_of s) (points_of s) nodes live ≡ None
  numbers_right = ap₂ or_next (vertices_right s m.legal) nodes_right

  -- ---- a round

  now : Rounded
  now = record { nodes = rounded_nodes at nodes live (length s.inner) found.0.marks; live = rounded_live at nodes live found.0 }

  round_is : (rounds room table : ℕ) → round_said (size_of s) (points_of s) nodes live rounds room table ≡ found_said nodes rounds room table now found.0
  unfolding round_said now
  round_is rounds room table =
      ap (λ o. round_next o (right_said (size_of s) (points_of s) nodes live rounds room table)) numbers_right
      ∙ ap (look_said (size_of s) (points_of s) nodes live rounds room table) found.1

  -- the next layer has room in a live table that is long enough
  short : length now.live ≤ 2050
  unfolding now
  short =
      let c = (balanced s m.legal m.checked _ _ _ _ (round nodes live made r m.layers found.0 found.1)).count in
      let t = (round_takes_out s nodes live made r m found.0 found.1).1 in
      let u = left_few nodes live (length s.inner) 4 in
      let legal = m.legal.few in
      omega arith

  -- and with it there are no more nodes than the sheet can have
  full : length nodes + found.0.fresh ≤ most_nodes (length s.inner)
  full =
      let c = (balanced s m.legal m.checked _ _ _ _ (round nodes live made r m.layers found.0 found.1)).room in
      let a = length-append nodes (closings at nodes live found.0.marks (length s.inner) 4) in
      let b = (seen at nodes live (length s.inner) found.0 found.1).fresh in
      omega arith

  refusal_never : (d : Cause) (a b c e : Bool) (x y u w : Refusal) (n : Rounded) → Never {X = Rounded} d (Err x) → Never {X = Rounded} d (Err y)
      → (c ≡ true → Never {X = Rounded} d (Err u)) → (e ≡ true → Never {X = Rounded} d (Err w))
      → Never d (unless (cond a (Some x) (cond b (Some y) (cond c (Some u) (cond e (Some w) None)))) n)
  refusal_never d true b c e x y u w n h k i j = h
  refusal_never d false true c e x y u w n h k i j = k
  refusal_never d false false true e x y u w n h k i j = i refl
  refusal_never d false false false true x y u w n h k i j = j refl
  refusal_never d false false false false x y u w n h k i j = granted_so d n

  round_unhindered : (rounds room table : ℕ) → 2050 ≤ table → Unhindered (most_nodes (length s.inner)) room (round_said (size_of s) (points_of s) nodes live rounds room table)
  round_unhindered rounds room table long =
      let l = short in
      let c = length nodes + found.0.fresh in
      let fits : nat_lt table (length now.live) ≡ false = le-ltb table (length now.live) (omega arith) in
      let told = λ (d : Cause). refusal_never d (found.0.left == 0) (nat_lt (18 * found.0.chosen) found.0.left) (nat_lt room c) (nat_lt table (length now.live))
      (refused NoneLeft Build 0) (refused Stuck Build (rounds + 1)) (refused StoreFull Build c) (refused OutOfRange Build table) now in
      record {
        in_range = subst (Never OutOfRange) (sym (round_is rounds room table))
            (told OutOfRange (other_cause NoneLeft Build 0 OutOfRange (λ e. omega arith)) (other_cause Stuck Build (rounds + 1) OutOfRange (λ e. omega arith))
            (λ _. other_cause StoreFull Build c OutOfRange (λ e. omega arith)) (λ off. absurd (false≢true (sym fits ∙ off))));
        not_full = λ enough.
            let f = full in
            let fit : nat_lt room c ≡ false = le-ltb room c (omega arith) in
            subst (Never StoreFull) (sym (round_is rounds room table))
            (told StoreFull (other_cause NoneLeft Build 0 StoreFull (λ e. omega arith)) (other_cause Stuck Build (rounds + 1) StoreFull (λ e. omega arith))
            (λ off. absurd (false≢true (sym fit ∙ off))) (λ off. absurd (false≢true (sym fits ∙ off))));
      }

  -- ---- a seal

  by_left : (left count : ℕ) → count ≡ 2 * left + 2 → left_said left count ≡ left_told left
  by_left zero count e = ap (left_said zero) (two count e)
    where
      two : (count : ℕ) → count ≡ 2 * 0 + 2 → count ≡ 2
      two count e = omega arith
  by_left (suc left) count e = cond-false (suc left == 0) _ _ (ne_eqb (suc left) 0 (λ q. omega arith))

  seal_is : seal_said (length s.inner) nodes live ≡ left_told (left_from nodes live (length s.inner) 4)
  unfolding seal_said
  seal_is =
      let legal = m.legal.few in
      cond-true (nat_le (length s.inner) 1024) (seal_next (wrong_nodes (length s.inner) nodes live) (left_said (left_from nodes live (length s.inner) 4) (length live))) (Err (refused OutOfRange Build 0)) (le-leb _ _ legal)
      ∙ ap (λ o. seal_next o (left_said (left_from nodes live (length s.inner) 4) (length live))) nodes_right
      ∙ by_left (left_from nodes live (length s.inner) 4) (length live) even.count

pub fans_close : FansClose
fans_close s nodes live made rounds m = closes s nodes live made rounds m

pub no_fan_is_broken : NoFanIsBroken
no_fan_is_broken s nodes live made rounds m = found s nodes live made rounds m

pub layers_are_counted : LayersAreCounted
layers_are_counted s nodes live made rounds m = let b = even s nodes live made rounds m in (b.count, b.room)

pub no_number_is_wrong : NoNumberIsWrong
no_number_is_wrong s nodes live made rounds m = numbers_right s nodes live made rounds m

pub round_is_unhindered : RoundIsUnhindered
unfolding RoundIsUnhindered
round_is_unhindered s nodes live made r m = round_unhindered s nodes live made r m

pub seal_tells_left : SealTellsLeft
seal_tells_left s nodes live made rounds m = seal_is s nodes live made rounds m
