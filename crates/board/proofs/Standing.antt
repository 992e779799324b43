-- What stands on a board is a checked sheet, and its nodes are those that cuts and rounds make of it.
use Rattle.std.proofs.Common.{◌≡◌, ℕ, zero, suc, ◌+◌, ◌*◌, ◌<◌, ◌≤◌, ◌==◌, Bool, true, false, cond, List, [], ◌∷◌, ◌++◌, Some, None, Option, Ok, Err, Result, length, min, take, drop, replicate, nat_le, IfOk, refl, sym, ap, ◌∙◌, subst, inl, inr, arith}
use Rattle.std.specs.List.{range_with_len, slice_get}
use Rattle.std.proofs.Math.Seq.{take-append_seam}
use Rattle.std.proofs.lemmas.List.FromFn.{length-range_with_len}
use Rattle.std.proofs.lemmas.Bool.{cond-true}
use Rattle.std.proofs.lemmas.Bool.Decides.{nat_tests}
use Rattle.plane.specs.declared.Edge.{Edge}
use Rattle.plane.specs.declared.Point.{Point}
use Rattle.plane.specs.Edges.{In}
use Rattle.fans.specs.Around.{left_from}
use Rattle.plane.specs.Points.{Spot, place_of}
use Rattle.refusal.specs.declared.Refusal.{Refusal}
use Rattle.nodes.specs.declared.node.Node.{Node}
use Rattle.sheet.specs.declared.tables.Loop.{Loop}
use Rattle.sheet.specs.declared.tables.Size.{Size}
use Rattle.sheet.specs.Sheets.{Sheet, points_of, size_of}
use Rattle.checking.specs.Checks.{check_said, judged, passes}
use Rattle.checking.specs.Held.{Holds}
use Rattle.checking.proofs.Unaltered.{one_held}
use Rattle.rules.specs.Rules.{first_broken}
use Rattle.bottom.specs.Cuts.{cut_live}
use Rattle.rounds.specs.Choices.{look_all, rounded_live, rounded_nodes}
use Rattle.rounds.specs.Rounds.{RoundLive, Rounded, most_nodes, round_said, wrong_nodes}
use Rattle.rounds.proofs.Right.{right_nodes}
use Rattle.sealing.specs.Seals.{left_said, seal_next, seal_said}
use Rattle.hierarchy.specs.Falls.{Fell}
use Rattle.hierarchy.specs.Falls.Fell.{begin, round as falls}
use Rattle.hierarchy.specs.Theorems.{Ascends, Made}
use Rattle.hierarchy.proofs.TakesOut.{round_takes_out}
use Rattle.hierarchy.proofs.Theorems.{nodes_turn_left}
use Rattle.hierarchy.proofs.Turns.{turns_make_layers}
use Rattle.placing.specs.Placings.{Answered, list_said, place_said}
use Rattle.reader.specs.Reading.{and_then}
use Rattle.placing.proofs.Tells.{place_tells}
use Rattle.walk.specs.declared.Found.{Found}
use Rattle.board.specs.declared.stage.Board.{Board}
use Rattle.board.specs.declared.stage.Stage.{Stage}
use Rattle.board.specs.declared.stage.Stage.TheVariants.{Draft, Checked, Layered, Sealed}
use Rattle.board.proofs.Listing.{list_entry, ok_same}
use Rattle.board.proofs.Rounding.{Finds, left_most, round_finds}
use Rattle.board.specs.Standing.{ListTold, Stands, TipTold}
use Rattle.board.specs.Standing.Stands.{checked, cut, round, seal}
use Rattle.board.specs.Turns.{checks, cut_board, cuts, is_checked, is_layered, is_sealed, list_answers, lists, live_of, places, points_in, round_board, round_room, rounds, seal_board, seals}

-- ---- a turn that was granted

pub passed_by : {X : Type 0} (b : Bool) (said : Result X Refusal) (e : Refusal) (x : X) → cond b said (Err e) ≡ Ok x → (b ≡ true) × (said ≡ Ok x)
passed_by true said e x h = (refl, h)
passed_by false said e x h = cc

passed : (o : Option Refusal) → passes o ≡ Ok tt → o ≡ None
passed None h = refl
passed (Some e) h = cc

right_seal : (o : Option ℕ) (said : Result (Unit {0}) Refusal) → seal_next o said ≡ Ok tt → (o ≡ None) × (said ≡ Ok tt)
right_seal None said h = (refl, h)
right_seal (Some i) said h = cc

two_live : (left live : ℕ) → left_said left live ≡ Ok tt → live ≡ 2
two_live left live h = two (left == 0) (live == 2) _ _ h refl
  where
    two : (p q : Bool) (e f : Refusal) → ◌≡◌ {A = Result (Unit {0}) Refusal} (cond p (cond q (Ok tt) (Err e)) (Err f)) (Ok tt) → (live == 2) ≡ q → live ≡ 2
    two true true e f h t = grind (arith, nat_tests)
    two true false e f h t = cc
    two false q e f h t = cc

-- ---- so many numbers are live

few_nodes : (n : ℕ) (nodes : List Node) (live : List ℕ) → wrong_nodes n nodes live ≡ None → length nodes ≤ most_nodes n
few_nodes n nodes live h = few (nat_le (length nodes) (most_nodes n)) _ _ h refl
  where
    few : (p : Bool) (o : Option ℕ) (k : ℕ) → cond p o (Some k) ≡ None → nat_le (length nodes) (most_nodes n) ≡ p → length nodes ≤ most_nodes n
    few true o k h e = grind (arith, nat_tests)
    few false o k h e = cc

-- numbers that ascend below n are at most n
at_most : (least n : ℕ) (ks : List ℕ) → least ≤ n → Ascends least ks → ((k : ℕ) → In k ks → k < n) → length ks + least ≤ n
at_most least n [] l up below = omega (arith, l)
at_most least n (k ∷ ks) l up below =
    let first = up.0 in
    let here = below k (inl refl) in
    let rest = at_most (k + 1) n ks (omega (arith, here)) up.1 (λ j i. below j (inr i)) in
    omega (arith, first, rest)

-- ---- what stands on a board

-- nodes that cuts and rounds made of the sheet; their live numbers are in the front of the table, and counted where sixteen bits count them;
-- and each round took out its share
pub record Built (s : Sheet) (b : Board) (live : List ℕ) (nodes : List Node) : Type 0 where
  pub alive : List ℕ
  pub made : List ℕ
  pub rounds : ℕ
  pub right : Made s nodes alive made rounds
  pub fell : Fell (length s.inner) rounds (left_from nodes alive (length s.inner) 4)
  pub counted : length alive ≤ 65535 → b.live ≡ length alive
  pub front : take (length alive) live ≡ alive

pub record Ready (s : Sheet) (b : Board) (live : List ℕ) (nodes : List Node) : Type 0 where
  pub built : Built s b live nodes
  pub few : length built.alive ≤ 65535
  pub same : live_of b live ≡ built.alive
  pub two : length built.alive ≡ 2

-- by its stage
abbrev pub Come : Stage → Sheet → Board → List ℕ → List Node → Type 0
Come Draft s b live nodes = ⊥
Come Checked s b live nodes = first_broken s ≡ None
Come Layered s b live nodes = Built s b live nodes
Come Sealed s b live nodes = Ready s b live nodes

pub record Sound (s : Sheet) (b : Board) (ps : List Point) (es : List Edge) (ls : List Loop) (live : List ℕ) (nodes : List Node) : Type 0 where
  pub holds : Holds b.size ps es ls s
  pub come : Come b.stage s b live nodes

pub inner_same : (z : Size) (ps : List Point) (es : List Edge) (ls : List Loop) (s : Sheet) → Holds z ps es ls s → z.inner ≡ length s.inner
inner_same z ps es ls s h = ap (λ (z : Size). z.inner) (sym h.size)

-- the front of the points table has the sheet's points
pub points_same : (b : Board) (ps : List Point) (es : List Edge) (ls : List Loop) (s : Sheet) → Holds b.size ps es ls s → points_in b ps ≡ points_of s
points_same b ps es ls s h =
    let n : b.size.inner + 4 ≡ length (points_of s) = let e = inner_same b.size ps es ls s h in omega (arith, e) in
    (λ i. take (n i) (sym h.points i)) ∙ take-append_seam (points_of s) (drop (length (points_of s)) ps)

-- where the store has no more nodes than a sheet has, all that are live are counted
pub all_counted : (s : Sheet) (b : Board) (live : List ℕ) (nodes : List Node) → length nodes ≤ 8194 → (h : Built s b live nodes)
    → (length h.alive ≤ 65535) × (live_of b live ≡ h.alive)
all_counted s b live nodes few h =
    let t = nodes_turn_left s nodes h.alive h.made h.rounds h.right in
    let l = at_most 0 (length nodes) h.alive (omega arith) t.0 t.1 in
    let n : length h.alive ≤ 65535 = omega (arith, few, l) in
    (n, ap (λ n. take n live) (h.counted n) ∙ h.front)

-- the stage that a granted turn is of
pub at_checked : (g : Stage) (s : Sheet) (b : Board) (live : List ℕ) (nodes : List Node) → is_checked g ≡ true → Come g s b live nodes → first_broken s ≡ None
at_checked Draft s b live nodes h c = cc
at_checked Checked s b live nodes h c = c
at_checked Layered s b live nodes h c = cc
at_checked Sealed s b live nodes h c = cc

pub at_layered : (g : Stage) (s : Sheet) (b : Board) (live : List ℕ) (nodes : List Node) → is_layered g ≡ true → Come g s b live nodes → Built s b live nodes
at_layered Draft s b live nodes h c = cc
at_layered Checked s b live nodes h c = cc
at_layered Layered s b live nodes h c = c
at_layered Sealed s b live nodes h c = cc

at_sealed : (g : Stage) (s : Sheet) (b : Board) (live : List ℕ) (nodes : List Node) → is_sealed g ≡ true → Come g s b live nodes → Ready s b live nodes
at_sealed Draft s b live nodes h c = cc
at_sealed Checked s b live nodes h c = cc
at_sealed Layered s b live nodes h c = cc
at_sealed Sealed s b live nodes h c = c

module _ (s : Sheet) (b : Board) (ps : List Point) (es : List Edge) (ls : List Loop) (live : List ℕ) (nodes : List Node) where
  pub after_check : (strokes : ℕ) → Holds b.size ps es ls s → checks b ps es ls strokes ≡ Ok tt → first_broken s ≡ None
  unfolding check_said
  after_check strokes holds h =
      let o = one_held b.size ps es ls s holds in
      let said = (passed_by _ _ _ tt (passed_by _ _ _ tt h).1).1 in
      passed (first_broken s) ((λ i. judged (sym o.0 i) (sym o.1 i)) ∙ said)

  pub after_cut : (room : ℕ) (ns : List Node) → Holds b.size ps es ls s → first_broken s ≡ None → cuts b ps es ls (length live) room ≡ Ok ns
      → (x : Built s (cut_board (Ok ns) b) (cut_live (Ok ns) live) ns) × (x.rounds ≡ 0)
  after_cut room ns holds none said =
      let g = passed_by _ _ _ ns (passed_by _ _ _ ns said).1 in
      let n = length-range_with_len 0 (length ns) in (
        record {
          alive = range_with_len 0 (length ns);
          made = replicate (length ns) 0;
          rounds = 0;
          right = record {
            legal = holds.legal;
            checked = none;
            layers = turns_make_layers.0 b.size ps es ls room s ns holds g.1;
          };
          fell = begin _ (left_most ns (range_with_len 0 (length ns)) (length s.inner) 4);
          counted = λ l. sym n;
          front = take-append_seam (range_with_len 0 (length ns)) (drop (length (range_with_len 0 (length ns))) live);
        },
        refl,
      )

  pub after_round : (new : List ℕ) (room : ℕ) (r : Rounded) → Holds b.size ps es ls s → (built : Built s b live nodes) → rounds b ps live nodes room ≡ Ok r → RoundLive (Ok r) live new
      → (x : Built s (round_board (Ok r) b) new r.nodes) × (x.rounds ≡ built.rounds + 1)
  after_round new room r holds built said front =
      let g = passed_by (is_layered b.stage) _ _ r (passed_by (round_room (length ps) (length live)) _ _ r said).1 in
      let none = (round_finds b.size (points_in b ps) nodes (live_of b live) b.rounds room (length live) r g.1).0 in
      let all = all_counted s b live nodes (right_nodes b.size (points_in b ps) nodes (live_of b live) none) built in
      let inner = inner_same b.size ps es ls s holds in
      let points = points_same b ps es ls s holds in
      let same : round_said b.size (points_of s) nodes built.alive b.rounds room (length live) ≡ Ok r = (λ i. round_said b.size (sym points i) nodes (sym all.1 i) b.rounds room (length live)) ∙ g.1 in
      let f = (round_finds b.size (points_of s) nodes built.alive b.rounds room (length live) r same).1 in
      let looked : look_all (place_of (points_of s)) nodes built.alive (length s.inner) ≡ Ok f.0 = sym (ap (look_all (place_of (points_of s)) nodes built.alive) inner) ∙ f.1 in
      let takes = round_takes_out s nodes built.alive built.made built.rounds built.right f.0 looked in
      let made : ◌≡◌ {A = Rounded} (record { nodes = rounded_nodes (place_of (points_of s)) nodes built.alive (length s.inner) f.0.marks; live = rounded_live (place_of (points_of s)) nodes built.alive f.0 }) r =
      sym (λ i. record { nodes = rounded_nodes (place_of (points_of s)) nodes built.alive (inner i) f.0.marks; live = rounded_live (place_of (points_of s)) nodes built.alive f.0 }) ∙ f.4 in
      let next = turns_make_layers.1 b.size s nodes built.alive built.made built.rounds b.rounds room (length live) r inner built.right.layers same in
      let some : 0 < left_from nodes built.alive (length s.inner) 4 = let l = f.2 in let e = takes.0 in omega (arith, l, e) in
      let enough : left_from nodes built.alive (length s.inner) 4 ≤ 18 * f.0.chosen = let l = f.3 in let e = takes.0 in omega (arith, l, e) in
      let less : left_from r.nodes r.live (length s.inner) 4 + f.0.chosen ≤ left_from nodes built.alive (length s.inner) 4 =
      subst (λ (r : Rounded). left_from r.nodes r.live (length s.inner) 4 + f.0.chosen ≤ left_from nodes built.alive (length s.inner) 4) made takes.1 in (
        record {
          alive = r.live;
          made = next.0;
          rounds = built.rounds + 1;
          right = record { legal = holds.legal; checked = built.right.checked; layers = next.1 };
          fell = falls built.rounds _ f.0.chosen _ built.fell some enough less;
          counted = λ l. least (length r.live) l;
          front = front;
        },
        refl,
      )
    where
      least : (n : ℕ) → n ≤ 65535 → min 65535 n ≡ n
      least n l = grind (arith)

  pub after_seal : Holds b.size ps es ls s → (built : Built s b live nodes) → seals b live nodes ≡ Ok tt
      → (x : Ready s (seal_board (Ok tt) b) live nodes) × (x.built.rounds ≡ built.rounds)
  unfolding seal_said
  after_seal holds built said =
      let g = passed_by (is_layered b.stage) _ _ tt (passed_by (nat_le 2050 (length live)) _ _ tt said).1 in
      let n = passed_by (nat_le b.size.inner 1024) _ _ tt g.1 in
      let none = (right_seal (wrong_nodes b.size.inner nodes (live_of b live)) _ n.1).0 in
      let few : length nodes ≤ 8 * b.size.inner + 2 = few_nodes b.size.inner nodes (live_of b live) none in
      let legal : length s.inner ≤ 1024 = holds.legal.few in
      let inner : b.size.inner ≡ length s.inner = inner_same b.size ps es ls s holds in
      let all : length nodes ≤ 8194 = omega (arith, few, legal, inner) in
      let again : Built s (seal_board (Ok tt) b) live nodes = record { alive = built.alive; made = built.made; rounds = built.rounds; right = built.right; fell = built.fell; counted = built.counted; front = built.front } in
      let whole = all_counted s (seal_board (Ok tt) b) live nodes all again in
      let two = two_live (left_from nodes (live_of b live) b.size.inner 4) (length (live_of b live)) (right_seal (wrong_nodes b.size.inner nodes (live_of b live)) _ n.1).1 in
      (record { built = again; few = whole.0; same = whole.1; two = sym (ap length whole.1) ∙ two }, refl)

pub sound : (s : Sheet) (b : Board) (ps : List Point) (es : List Edge) (ls : List Loop) (live : List ℕ) (nodes : List Node) → Stands s b ps es ls live nodes
    → Sound s b ps es ls live nodes
sound s b' ps' es' ls' live' nodes' (checked b ps es ls live nodes strokes holds h) =
    record { holds = holds; come = after_check s b ps es ls live nodes strokes holds h }
sound s b' ps' es' ls' live' nodes' (cut b ps es ls live nodes room ns st h) =
    let p = sound s b ps es ls live nodes st in
    let none = at_checked b.stage s b live nodes (passed_by _ _ _ ns (passed_by _ _ _ ns h).1).0 p.come in
    record { holds = p.holds; come = (after_cut s b ps es ls live nodes room ns p.holds none h).0 }
sound s b' ps' es' ls' live' nodes' (round b ps es ls live new nodes room r st h front) =
    let p = sound s b ps es ls live nodes st in
    let built = at_layered b.stage s b live nodes (passed_by (is_layered b.stage) _ _ r (passed_by (round_room (length ps) (length live)) _ _ r h).1).0 p.come in
    record { holds = p.holds; come = (after_round s b ps es ls live nodes new room r p.holds built h front).0 }
sound s b' ps' es' ls' live' nodes' (seal b ps es ls live nodes st h) =
    let p = sound s b ps es ls live nodes st in
    let built = at_layered b.stage s b live nodes (passed_by _ _ _ tt (passed_by _ _ _ tt h).1).0 p.come in
    record { holds = p.holds; come = (after_seal s b ps es ls live nodes p.holds built h).0 }

-- ---- the answer

pub tip_told : (b : Board) (ps : List Point) (live : List ℕ) (nodes : List Node) (tip : Option Spot) (said : Result Found Refusal)
    → said ≡ places b ps live nodes tip → TipTold b ps live nodes tip said
unfolding TipTold
tip_told b ps live nodes tip said is s es ls st sealed long =
    let h = sound s b ps es ls live nodes st in
    let r = at_sealed b.stage s b live nodes sealed h.come in
    let points = points_same b ps es ls s h.holds in
    let told = place_tells s nodes r.built.alive r.built.made r.built.rounds r.built.right r.few tip 0 in
    let same : said ≡ place_said (size_of s) tip 0 (points_of s) nodes r.built.alive =
    is ∙ cond-true _ _ _ long ∙ cond-true _ _ _ sealed ∙ (λ i. place_said (sym h.holds.size i) tip 0 (points i) nodes (r.same i)) in
    subst (Answered s tip) (sym same) told

-- ---- the answers of a list

-- an entry in the front of a table
front_entry : {X : Type 0} (xs rest : List X) (j : ℕ) (x : X) → slice_get xs j ≡ Some x → slice_get (xs ++ rest) j ≡ Some x
front_entry [] rest j x h = cc
front_entry (y ∷ ys) rest zero x h = h
front_entry (y ∷ ys) rest (suc j) x h = front_entry ys rest j x h

pub list_told : (b : Board) (ps : List Point) (live : List ℕ) (nodes : List Node) (tips : List (Option Spot)) (room : ℕ) (said : Result (Unit {0}) Refusal)
    (answers old : List (Result Found Refusal)) → said ≡ and_then (lists b ps live nodes tips room) (λ _. Ok tt)
    → answers ≡ list_answers (lists b ps live nodes tips room) old → ListTold b ps live nodes tips answers said
unfolding ListTold
list_told b ps live nodes tips room said answers old is filled s es ls st =
    subst (λ (said : Result (Unit {0}) Refusal). IfOk said (λ _. Each)) (sym is) (by_entries (lists b ps live nodes tips room) refl filled)
  where
    Each : Type 0
    Each = (j : ℕ) (tip : Option Spot) → slice_get tips j ≡ Some tip → (entry : Result Found Refusal) × (slice_get answers j ≡ Some entry) × Answered s tip entry

    by_entries : (x : Result (List (Result Found Refusal)) Refusal) → lists b ps live nodes tips room ≡ x → answers ≡ list_answers x old
        → IfOk (and_then {Y = Unit {0}} x (λ _. Ok tt)) (λ _. Each)
    by_entries (Err e) told front = tt
    by_entries (Ok entries) told front = λ j tip at.
        let p = passed_by (is_sealed b.stage) _ _ entries (passed_by (cond (nat_le (length tips) room) (round_room (length ps) (length live)) false) _ _ entries told).1 in
        let same : list_said b.size 0 (points_in b ps) nodes (live_of b live) tips ≡ entries = ok_same _ _ p.1 in
        let h = sound s b ps es ls live nodes st in
        let r = at_sealed b.stage s b live nodes p.0 h.come in
        let points = points_same b ps es ls s h.holds in
        let entry = list_entry b.size (points_in b ps) nodes (live_of b live) 0 tips j tip at in
        let answer = place_tells s nodes r.built.alive r.built.made r.built.rounds r.built.right r.few tip (0 + j) in
        let equal : place_said b.size tip (0 + j) (points_in b ps) nodes (live_of b live) ≡ place_said (size_of s) tip (0 + j) (points_of s) nodes r.built.alive =
        λ i. place_said (sym h.holds.size i) tip (0 + j) (points i) nodes (r.same i) in (
          place_said b.size tip (0 + j) (points_in b ps) nodes (live_of b live),
          ap (λ t. slice_get t j) front ∙ front_entry entries (drop (length entries) old) j _ (ap (λ t. slice_get t j) (sym same) ∙ entry),
          subst (Answered s tip) (sym equal) answer,
        )
