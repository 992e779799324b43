-- No turn of a history tells a number outside its range.
use Rattle.std.proofs.Common.{◌≡◌, ℕ, ◌+◌, ◌≤◌, Bool, true, false, cond, List, [], ◌∷◌, Some, None, Option, Ok, Err, Result, length, nat_le, pos, refl, sym, ap, ◌∙◌, subst, inl, inr, arith}
use Rattle.std.specs.List.{All}
use Rattle.std.proofs.lemmas.Bool.{cond-false, cond-true}
use Rattle.std.proofs.lemmas.List.Elements.{All-cons, All-head, All-nil, All-tail}
use Rattle.plane.specs.declared.Edge.{Edge}
use Rattle.plane.specs.declared.Point.{Point}
use Rattle.plane.specs.Kernels.{Scaled}
use Rattle.plane.specs.Points.{Spot, is_on_sheet}
use Rattle.refusal.specs.declared.Cause.{Cause}
use Rattle.refusal.specs.declared.Cause.TheVariants.{EdgeTwice, EdgesTouch, LoopSum, LoopTurned, NoReverse, NotThisStage, OffSheet, OutOfRange, SamePoint, TableTooShort, UnfitTip, VertexTwice, VertexUnused}
use Rattle.refusal.specs.declared.Layer.TheVariants.{Build, Check, File, Place}
use Rattle.refusal.specs.declared.Refusal.{Refusal}
use Rattle.refusal.specs.Numbers.{number, refused as refusal}
use Rattle.nodes.specs.declared.node.Node.{Node}
use Rattle.sheet.specs.declared.tables.Loop.{Loop}
use Rattle.sheet.specs.Load.{sheet_of}
use Rattle.sheet.specs.Sheets.{Sheet, points_of, size_of}
use Rattle.checking.specs.Checks.{check_room, check_said, judged, passes}
use Rattle.checking.specs.Held.{Holds}
use Rattle.checking.proofs.Unaltered.{one_held}
use Rattle.rules.specs.Rules.{edges_broken, first_broken, loops_broken, or_else, points_broken, reverses_broken, strokes_broken, sum_broken, told, turns_broken, vertices_broken}
use Rattle.bottom.specs.Cuts.{build_room, cut_said}
use Rattle.rounds.specs.Rounds.{round_said}
use Rattle.sealing.specs.Seals.{seal_said}
use Rattle.hierarchy.specs.Theorems.{Made}
use Rattle.placing.specs.Placings.{list_said, place_said}
use Rattle.placing.proofs.Tells.{place_tells}
use Rattle.walk.specs.declared.Found.{Found}
use Rattle.webs.specs.Theorems.{Never}
use Rattle.webs.proofs.Causes.{granted_so, other_cause}
use Rattle.walk.proofs.Tells.{sized}
use Rattle.board.specs.declared.stage.Board.{Board}
use Rattle.board.specs.Histories.{Event, History, State, Step, Told, Turn, answered_by, listed_by, told_by}
use Rattle.board.specs.Histories.Runs.{begin, turn}
use Rattle.board.specs.Histories.Turn.{check, cut, list, load, place, round, seal, wipe}
use Rattle.board.specs.Turns.{checks, cuts, is_checked, is_draft, is_layered, is_loaded, is_sealed, live_of, loads, places, points_in, round_room, rounds, seals}
use Rattle.board.specs.Unaltered.{AllInRange, HistoriesAreInRange, ToldInRange}
use Rattle.board.proofs.Known.{Known, first_of_two, is_layering, is_right, is_sealing, known, loaded_draft}
use Rattle.board.proofs.Loads.{load_in_range}
use Rattle.board.proofs.Standing.{points_same}
use Rattle.board.proofs.Unaltered.{at_stage, cut_on, left_in_range, long_live, round_on, seal_held}

-- ---- what is told of an answer

by_result : {X : Type 0} (x : Result X Refusal) → Never OutOfRange x → ToldInRange (told_by x)
by_result (Ok x) h = tt
by_result (Err e) h = h e refl

by_answer : (x : Result Found Refusal) → Never OutOfRange x → ToldInRange (answered_by x)
by_answer (Ok f) h = tt
by_answer (Err e) h = h e refl

-- ---- a check

rule_never : (c : Cause) (o : Option ℕ) (next : Option Refusal) → (number c ≡ 27 → ⊥) → Never {X = Unit {0}} OutOfRange (passes next) → Never {X = Unit {0}} OutOfRange (passes (or_else (told c o) next))
rule_never c None next other h = h
rule_never c (Some i) next other h = other_cause c Check i OutOfRange other

rules_never : (s : Sheet) → Never {X = Unit {0}} OutOfRange (passes (first_broken s))
rules_never s =
    rule_never LoopSum (sum_broken s) _ (λ e. omega arith) (rule_never SamePoint (points_broken s) _ (λ e. omega arith)
    (rule_never VertexTwice (loops_broken s) _ (λ e. omega arith) (rule_never EdgeTwice (edges_broken s) _ (λ e. omega arith)
    (rule_never NoReverse (reverses_broken s) _ (λ e. omega arith) (rule_never VertexUnused (vertices_broken s) _ (λ e. omega arith)
    (rule_never EdgesTouch (strokes_broken s) _ (λ e. omega arith) (last (turns_broken s))))))))
  where
    last : (o : Option ℕ) → Never {X = Unit {0}} OutOfRange (passes (told LoopTurned o))
    last None = granted_so {X = Unit {0}} OutOfRange tt
    last (Some i) = other_cause LoopTurned Check i OutOfRange (λ e. omega arith)

check_held : (s : Sheet) (b : Board) (ps : List Point) (es : List Edge) (ls : List Loop) → Holds b.size ps es ls s → Never OutOfRange (check_said b.size ps es ls)
unfolding check_said
check_held s b ps es ls holds =
    let o = one_held b.size ps es ls s holds in
    subst (Never OutOfRange) (λ i. judged (sym o.0 i) (sym o.1 i)) (rules_never s)

-- ---- a tip

tip_never : (s : Sheet) (nodes : List Node) (live made : List ℕ) (rounds : ℕ) → Made s nodes live made rounds → length live ≤ 65535
    → (tip : Option Spot) (position : ℕ) → Scaled tip → Never OutOfRange (place_said (size_of s) tip position (points_of s) nodes live)
unfolding place_said
tip_never s nodes live made rounds m few None position z = other_cause UnfitTip Place position OutOfRange (λ e. omega arith)
tip_never s nodes live made rounds m few (Some p) position z = go (is_on_sheet (pos s.width) (pos s.height) p) refl
  where
    go : (on : Bool) → is_on_sheet (pos s.width) (pos s.height) p ≡ on → Never OutOfRange (place_said (size_of s) (Some p) position (points_of s) nodes live)
    go true h =
        let f = place_tells s nodes live made rounds m few (Some p) position p refl z h in
        subst (Never OutOfRange) (sym f.1) (granted_so OutOfRange f.0)
    go false h = subst (Never OutOfRange) (sym (cond-true _ _ _ (sized s m.legal) ∙ cond-false _ _ _ h)) (other_cause {X = Found} OffSheet Place position OutOfRange (λ e. omega arith))

-- ---- turn by turn

module _ (h : History) (s : State) (k : Known h s) where
  check_never : Never OutOfRange (checks s.board s.points s.edges s.loops s.strokes)
  check_never =
      at_stage OutOfRange (check_room (length s.points) (length s.edges) (length s.loops) s.strokes) (is_loaded s.board) Check (check_said s.board.size s.points s.edges s.loops)
      (λ e. omega arith) (λ e. omega arith)
      (λ _ a. let d = loaded_draft _ _ _ s.board s.points s.edges s.loops s.live s.nodes s.board.stage (first_of_two _ _ a) a k in
      check_held d.sheet s.board s.points s.edges s.loops d.holds)

  cut_never : Never OutOfRange (cuts s.board s.points s.edges s.loops (length s.live) s.room)
  cut_never =
      at_stage OutOfRange (build_room (length s.points) (length s.edges) (length s.loops) (length s.live)) (is_checked s.board.stage) Build (cut_said s.board.size s.points s.edges s.loops s.room)
      (λ e. omega arith) (λ e. omega arith)
      (λ _ a. let r = is_right _ _ _ s.board s.points s.edges s.loops s.live s.nodes s.board.stage a k in
      (cut_on r.held.sheet s.board s.points s.edges s.loops s.room r.held.holds r.right).in_range)

  round_never : Never OutOfRange (rounds s.board s.points s.live s.nodes s.room)
  round_never =
      at_stage OutOfRange (round_room (length s.points) (length s.live)) (is_layered s.board.stage) Build
      (round_said s.board.size (points_in s.board s.points) s.nodes (live_of s.board s.live) s.board.rounds s.room (length s.live)) (λ e. omega arith) (λ e. omega arith)
      (λ long a. let l = is_layering _ _ _ s.board s.points s.edges s.loops s.live s.nodes s.board.stage a k in
      (round_on l.held.sheet s.board s.points s.edges s.loops s.live s.nodes l.held.holds l.built s.room (long_live (length s.points) (length s.live) long)).in_range)

  seal_never : Never OutOfRange (seals s.board s.live s.nodes)
  seal_never =
      at_stage OutOfRange (nat_le 2050 (length s.live)) (is_layered s.board.stage) Build (seal_said s.board.size.inner s.nodes (live_of s.board s.live)) (λ e. omega arith) (λ e. omega arith)
      (λ _ a. let l = is_layering _ _ _ s.board s.points s.edges s.loops s.live s.nodes s.board.stage a k in
      subst (Never OutOfRange) (sym (seal_held l.held.sheet s.board s.points s.edges s.loops s.live s.nodes l.held.holds l.built)) (left_in_range _))

  sealed_place : is_sealed s.board.stage ≡ true → (tip : Option Spot) (position : ℕ) → Scaled tip
      → Never OutOfRange (place_said s.board.size tip position (points_in s.board s.points) s.nodes (live_of s.board s.live))
  sealed_place on tip position scaled =
      let g = is_sealing _ _ _ s.board s.points s.edges s.loops s.live s.nodes s.board.stage on k in
      let sheet = g.held.sheet in
      let built = g.ready.built in
      let points = points_same s.board s.points s.edges s.loops sheet g.held.holds in
      let same : place_said (size_of sheet) tip position (points_of sheet) s.nodes built.alive ≡ place_said s.board.size tip position (points_in s.board s.points) s.nodes (live_of s.board s.live) =
      λ i. place_said (g.held.holds.size i) tip position (sym points i) s.nodes (sym g.ready.same i) in
      subst (Never OutOfRange) same (tip_never sheet s.nodes built.alive built.made built.rounds built.right g.ready.few tip position scaled)

  place_never : (tip : Option Spot) → Scaled tip → Never OutOfRange (places s.board s.points s.live s.nodes tip)
  place_never tip scaled =
      at_stage OutOfRange (round_room (length s.points) (length s.live)) (is_sealed s.board.stage) Place (place_said s.board.size tip 0 (points_in s.board s.points) s.nodes (live_of s.board s.live))
      (λ e. omega arith) (λ e. omega arith) (λ _ on. sealed_place on tip 0 scaled)

  entries_never : is_sealed s.board.stage ≡ true → (tips : List (Option Spot)) (position : ℕ) → All Scaled tips
      → All (λ (x : Result Found Refusal). Never OutOfRange x) (list_said s.board.size position (points_in s.board s.points) s.nodes (live_of s.board s.live) tips)
  entries_never on [] position scaled = All-nil (λ (x : Result Found Refusal). Never OutOfRange x)
  entries_never on (tip ∷ tips) position scaled =
      All-cons (λ (x : Result Found Refusal). Never OutOfRange x) (place_said s.board.size tip position (points_in s.board s.points) s.nodes (live_of s.board s.live)) _
      (sealed_place on tip position (All-head Scaled tip tips scaled)) (entries_never on tips (position + 1) (All-tail Scaled tip tips scaled))

  -- a list that is not of this stage is refused as a whole
  listed_so : (tips : List (Option Spot)) → All Scaled tips → (p q : Bool) → is_sealed s.board.stage ≡ q
      → ToldInRange (listed_by (cond p (cond q (Ok (list_said s.board.size 0 (points_in s.board s.points) s.nodes (live_of s.board s.live) tips)) (Err (refusal NotThisStage Place 0))) (Err (refusal TableTooShort Place 0))))
  listed_so tips scaled true true on = entries_never on tips 0 scaled
  listed_so tips scaled true false on = λ e. (let n : number NotThisStage ≡ number OutOfRange = ap number e in omega arith)
  listed_so tips scaled false q on = λ e. (let n : number TableTooShort ≡ number OutOfRange = ap number e in omega arith)

  load_never : (file : List ℕ) → Never OutOfRange (loads s.board s.points s.edges s.loops s.live file)
  load_never file =
      at_stage OutOfRange (build_room (length s.points) (length s.edges) (length s.loops) (length s.live)) (is_draft s.board.stage) File (sheet_of file)
      (λ e. omega arith) (λ e. omega arith) (λ _ _. load_in_range file)

  turn_never : (u : Turn) (o : Told) (t : State) → Step s u o t → ToldInRange o
  turn_never (load file) o t d = subst ToldInRange (sym d.0) (by_result (loads s.board s.points s.edges s.loops s.live file) (load_never file))
  turn_never check o t d = subst ToldInRange (sym d.0) (by_result (checks s.board s.points s.edges s.loops s.strokes) check_never)
  turn_never cut o t d = subst ToldInRange (sym d.0) (by_result (cuts s.board s.points s.edges s.loops (length s.live) s.room) cut_never)
  turn_never round o t d = subst ToldInRange (sym d.0) (by_result (rounds s.board s.points s.live s.nodes s.room) round_never)
  turn_never seal o t d = subst ToldInRange (sym d.0) (by_result (seals s.board s.live s.nodes) seal_never)
  turn_never (place tip) o t d = subst ToldInRange (sym d.1) (by_answer (places s.board s.points s.live s.nodes tip) (place_never tip d.0))
  turn_never (list tips room) o t d =
      subst ToldInRange (sym d.1)
      (listed_so tips d.0 (cond (nat_le (length tips) room) (round_room (length s.points) (length s.live)) false) (is_sealed s.board.stage) refl)
  turn_never wipe o t d = subst ToldInRange (sym d.0) tt

-- ---- all turns

pub in_range : HistoriesAreInRange
unfolding AllInRange
in_range begun s' h' empty begin e i = absurd i
in_range begun s' h' empty (turn h s t u o run step) e (inl same) = subst (λ (e : Event). ToldInRange e.told) (sym same) (turn_never h s (known begun h s empty run) u o t step)
in_range begun s' h' empty (turn h s t u o run step) e (inr i) = in_range begun s h empty run e i
