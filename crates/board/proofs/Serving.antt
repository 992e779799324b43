-- While a seal stands, every fit tip on its sheet that a turn takes is answered.
use Rattle.std.proofs.Common.{◌≡◌, ℕ, zero, suc, ◌+◌, ◌*◌, ◌<◌, ◌≤◌, ◌==◌, Bool, true, false, cond, List, [], ◌∷◌, Some, None, Option, Ok, Err, Result, length, drop, min, pos, ◌<ℤ◌, nat_le, refl, sym, ap, ◌∙◌, subst, arith}
use Rattle.std.specs.List.{All, range_with_len, slice_get}
use Rattle.std.proofs.lemmas.Bool.{cond-true}
use Rattle.std.proofs.lemmas.Bool.Decides.{nat_tests}
use Rattle.std.proofs.lemmas.List.{length-append, length-drop}
use Rattle.std.proofs.lemmas.Option.{get_or_from_slice_get, slice_get_within}
use Rattle.plane.specs.declared.Point.{Point}
use Rattle.plane.specs.Kernels.{Scaled}
use Rattle.plane.specs.Points.{Spot, is_on_sheet}
use Rattle.refusal.specs.declared.Refusal.{Refusal}
use Rattle.nodes.specs.declared.node.Node.{Node}
use Rattle.lent.specs.Kept.{over}
use Rattle.sheet.specs.Load.{upon}
use Rattle.sheet.specs.Sheets.{Sheet, points_of, size_of}
use Rattle.sheet.specs.declared.tables.Size.{Size}
use Rattle.bottom.specs.Cuts.{build_room, cut_live, cut_nodes}
use Rattle.rounds.specs.Rounds.{RoundLive, Rounded, round_nodes}
use Rattle.placing.specs.Placings.{list_said, place_said}
use Rattle.placing.proofs.Tells.{place_tells}
use Rattle.walk.specs.declared.Found.{Found}
use Rattle.board.specs.declared.stage.Board.{Board}
use Rattle.board.specs.declared.stage.Stage.{Stage}
use Rattle.board.specs.declared.stage.Stage.TheVariants.{Draft, Checked, Layered, Sealed}
use Rattle.board.specs.Histories.{Event, History, Runs, State, Step, Told, Turn, after, answered_by, event, listed_by, loaded, told_by}
use Rattle.board.specs.Histories.Runs.{begin, turn}
use Rattle.board.specs.Histories.Told.{answered, granted, listed, refused}
use Rattle.board.specs.Histories.Turn.{check, cut, list, load, place, round, seal, wipe}
use Rattle.board.specs.Law.{Seal, Served, Serves, entries_of, is_granted, rounds_since, standing, taken_by}
use Rattle.board.specs.Turns.{bare, check_board, checks, cut_board, cuts, is_checked, is_draft, is_layered, is_loaded, is_sealed, lists, live_of, load_board, loads, places, points_in, round_board, round_room, rounds, seal_board, seals}
use Rattle.board.proofs.Listing.{list_entry, ok_same}
use Rattle.board.proofs.Known.{Known, is_sealing, known}
use Rattle.board.proofs.Standing.{passed_by, points_same}

-- ---- one entry

pub scaled_at : (tips : List (Option Spot)) (j : ℕ) (tip : Option Spot) → All Scaled tips → slice_get tips j ≡ Some tip → Scaled tip
scaled_at tips j tip all at = subst Scaled (get_or_from_slice_get tips j tip tip at) (all j tip (slice_get_within tips j tip at))

pub only : {X : Type 0} (x y : X) (j : ℕ) → slice_get (x ∷ []) j ≡ Some y → x ≡ y
only x y zero h = cc
only x y (suc j) h = cc

pub none_at : {X : Type 0} (y : X) (j : ℕ) → slice_get {X = X} [] j ≡ Some y → ⊥
none_at y j h = cc

pub some_same : {X : Type 0} (o : Option X) (x y : X) → o ≡ Some x → o ≡ Some y → x ≡ y
some_same o x y h k = cc

only_first : {X : Type 0} (x y : X) (j : ℕ) → slice_get (x ∷ []) j ≡ Some y → j ≡ 0
only_first x y zero h = refl
only_first x y (suc j) h = cc

-- ---- while a seal stands, the board is Sealed, and its tables have room

abbrev Roomy : State → Type 0
Roomy s = (s.board.size.width == 0) ≡ false → round_room (length s.points) (length s.live) ≡ true

-- a list written over another is no shorter
no_shorter : {X : Type 0} (xs ys : List X) → length ys ≤ length (over xs ys)
no_shorter xs ys = let a = length-append xs (drop (length xs) ys) in let b = length-drop (length xs) ys in omega (arith, a, b)

more_room : (p q n m : ℕ) → round_room p n ≡ true → p ≤ q → n ≤ m → round_room q m ≡ true
more_room p q n m h k l = by_points (nat_le 1028 p) (nat_le 2050 n) refl refl h
  where
    by_points : (a b : Bool) → nat_le 1028 p ≡ a → nat_le 2050 n ≡ b → cond a b false ≡ true → round_room q m ≡ true
    by_points true true e f t = grind (arith, nat_tests)
    by_points true false e f t = cc
    by_points false b e f t = cc

less_room : (points edges loops live : ℕ) → build_room points edges loops live ≡ true → round_room points live ≡ true
less_room points edges loops live h = grind (arith, nat_tests)

one_more : (n : ℕ) → min 65535 (min 65535 n + 1) ≡ min 65535 (n + 1)
one_more n = grind (arith, nat_tests)

pub record Keeps (h : History) (s : State) : Type 0 where
  pub sealed : (x : Seal) → standing h ≡ Some x → is_sealed s.board.stage ≡ true
  pub roomy : Roomy s
  pub ticked : is_layered s.board.stage ≡ true → s.board.rounds ≡ min 65535 (rounds_since h)

one_stage : {X : Type 0} (g : Stage) → is_sealed g ≡ true → is_draft g ≡ true → X
one_stage Draft h k = cc
one_stage Checked h k = cc
one_stage Layered h k = cc
one_stage Sealed h k = cc

not_checked : {X : Type 0} (g : Stage) → is_sealed g ≡ true → is_checked g ≡ true → X
not_checked Draft h k = cc
not_checked Checked h k = cc
not_checked Layered h k = cc
not_checked Sealed h k = cc

not_layered : {X : Type 0} (g : Stage) → is_sealed g ≡ true → is_layered g ≡ true → X
not_layered Draft h k = cc
not_layered Checked h k = cc
not_layered Layered h k = cc
not_layered Sealed h k = cc

of_draft : (g : Stage) (z : Bool) → cond (is_draft g) z false ≡ true → (is_draft g ≡ true) × (z ≡ true)
of_draft Draft z h = (refl, h)
of_draft Checked z h = cc
of_draft Layered z h = cc
of_draft Sealed z h = cc

module _ (h : History) (s : State) (k : Keeps h s) where
  keeps_load : (file : List ℕ) (x : Result Sheet Refusal) → loads s.board s.points s.edges s.loops s.live file ≡ x → Keeps (event (load file) (told_by x) ∷ h) (loaded x s)
  keeps_load file (Err e) is = record { sealed = k.sealed; roomy = k.roomy; ticked = k.ticked }
  keeps_load file (Ok sheet) is =
      let r = passed_by (build_room (length s.points) (length s.edges) (length s.loops) (length s.live)) _ _ sheet is in
      let g = passed_by (is_draft s.board.stage) _ _ sheet r.1 in
      record {
        sealed = λ x st. one_stage s.board.stage (k.sealed x st) g.0;
        roomy = λ l. more_room (length s.points) (length (over (points_of sheet) s.points)) (length s.live) (length s.live)
            (less_room (length s.points) (length s.edges) (length s.loops) (length s.live) r.0) (no_shorter (points_of sheet) s.points) (omega arith);
        ticked = λ l. cc;
      }

  keeps_check : (x : Result (Unit {0}) Refusal) → checks s.board s.points s.edges s.loops s.strokes ≡ x
      → Keeps (event check (told_by x) ∷ h) (after s (check_board x s.board) s.live s.nodes)
  keeps_check (Err e) is = record { sealed = k.sealed; roomy = k.roomy; ticked = k.ticked }
  keeps_check (Ok tt) is =
      let g = passed_by (is_loaded s.board) _ _ tt (passed_by _ _ _ tt is).1 in
      let d = of_draft s.board.stage _ g.0 in
      record { sealed = λ x st. one_stage s.board.stage (k.sealed x st) d.0; roomy = k.roomy; ticked = λ l. cc }

  keeps_cut : (x : Result (List Node) Refusal) → cuts s.board s.points s.edges s.loops (length s.live) s.room ≡ x
      → Keeps (event cut (told_by x) ∷ h) (after s (cut_board x s.board) (cut_live x s.live) (cut_nodes x s.nodes))
  keeps_cut (Err e) is = record { sealed = k.sealed; roomy = k.roomy; ticked = k.ticked }
  keeps_cut (Ok ns) is =
      let g = passed_by (is_checked s.board.stage) _ _ ns (passed_by (build_room (length s.points) (length s.edges) (length s.loops) (length s.live)) _ _ ns is).1 in
      record {
        sealed = λ x st. not_checked s.board.stage (k.sealed x st) g.0;
        roomy = λ l. more_room (length s.points) (length s.points) (length s.live) _ (k.roomy l) (omega arith) (no_shorter (range_with_len 0 (length ns)) s.live);
        ticked = λ l. refl;
      }

  keeps_round : (x : Result Rounded Refusal) (live : List ℕ) → rounds s.board s.points s.live s.nodes s.room ≡ x → length live ≡ length s.live
      → Keeps (event round (told_by x) ∷ h) (after s (round_board x s.board) live (round_nodes x s.nodes))
  keeps_round (Err e) live is same =
      record { sealed = k.sealed; roomy = λ l. (λ i. round_room (length s.points) (same i)) ∙ k.roomy l; ticked = k.ticked }
  keeps_round (Ok r) live is same =
      let g = passed_by (is_layered s.board.stage) _ _ r (passed_by (round_room (length s.points) (length s.live)) _ _ r is).1 in
      record {
        sealed = λ x st. not_layered s.board.stage (k.sealed x st) g.0;
        roomy = λ l. (λ i. round_room (length s.points) (same i)) ∙ k.roomy l;
        ticked = λ l. ap (λ n. min 65535 (n + 1)) (k.ticked g.0) ∙ one_more (rounds_since h);
      }

  keeps_seal : (x : Result (Unit {0}) Refusal) → seals s.board s.live s.nodes ≡ x
      → Keeps (event seal (told_by x) ∷ h) (after s (seal_board x s.board) s.live s.nodes)
  keeps_seal (Err e) is = record { sealed = k.sealed; roomy = k.roomy; ticked = k.ticked }
  keeps_seal (Ok tt) is = record { sealed = λ x st. refl; roomy = k.roomy; ticked = λ l. cc }

  keeps_place : (tip : Option Spot) (o : Told) → Keeps (event (place tip) o ∷ h) s
  keeps_place tip granted = record { sealed = k.sealed; roomy = k.roomy; ticked = k.ticked }
  keeps_place tip (answered f) = record { sealed = k.sealed; roomy = k.roomy; ticked = k.ticked }
  keeps_place tip (listed es) = record { sealed = k.sealed; roomy = k.roomy; ticked = k.ticked }
  keeps_place tip (refused e) = record { sealed = k.sealed; roomy = k.roomy; ticked = k.ticked }

  keeps_list : (tips : List (Option Spot)) (room : ℕ) (o : Told) → Keeps (event (list tips room) o ∷ h) s
  keeps_list tips room granted = record { sealed = k.sealed; roomy = k.roomy; ticked = k.ticked }
  keeps_list tips room (answered f) = record { sealed = k.sealed; roomy = k.roomy; ticked = k.ticked }
  keeps_list tips room (listed es) = record { sealed = k.sealed; roomy = k.roomy; ticked = k.ticked }
  keeps_list tips room (refused e) = record { sealed = k.sealed; roomy = k.roomy; ticked = k.ticked }

  keeps_next : (u : Turn) (o : Told) (t : State) → Step s u o t → Keeps (event u o ∷ h) t
  keeps_next (load file) o t d =
      let x = loads s.board s.points s.edges s.loops s.live file in
      subst (λ t. Keeps (event (load file) o ∷ h) t) (sym d.1) (subst (λ o. Keeps (event (load file) o ∷ h) (loaded x s)) (sym d.0) (keeps_load file x refl))
  keeps_next check o t d =
      let x = checks s.board s.points s.edges s.loops s.strokes in
      subst (λ t. Keeps (event check o ∷ h) t) (sym d.1) (subst (λ o. Keeps (event check o ∷ h) (after s (check_board x s.board) s.live s.nodes)) (sym d.0) (keeps_check x refl))
  keeps_next cut o t d =
      let x = cuts s.board s.points s.edges s.loops (length s.live) s.room in
      subst (λ t. Keeps (event cut o ∷ h) t) (sym d.1) (subst (λ o. Keeps (event cut o ∷ h) (after s (cut_board x s.board) (cut_live x s.live) (cut_nodes x s.nodes))) (sym d.0) (keeps_cut x refl))
  keeps_next round o t d =
      let x = rounds s.board s.points s.live s.nodes s.room in
      subst (λ t. Keeps (event round o ∷ h) t) (sym d.3)
      (subst (λ o. Keeps (event round o ∷ h) (after s (round_board x s.board) t.live (round_nodes x s.nodes))) (sym d.0) (keeps_round x t.live refl d.2))
  keeps_next seal o t d =
      let x = seals s.board s.live s.nodes in
      subst (λ t. Keeps (event seal o ∷ h) t) (sym d.1) (subst (λ o. Keeps (event seal o ∷ h) (after s (seal_board x s.board) s.live s.nodes)) (sym d.0) (keeps_seal x refl))
  keeps_next (place tip) o t d = subst (λ t. Keeps (event (place tip) o ∷ h) t) (sym d.2) (keeps_place tip o)
  keeps_next (list tips room) o t d = subst (λ t. Keeps (event (list tips room) o ∷ h) t) (sym d.2) (keeps_list tips room o)
  keeps_next wipe o t d = subst (λ t. Keeps (event wipe o ∷ h) t) (sym d.1) (subst (λ o. Keeps (event wipe o ∷ h) (after s bare s.live [])) (sym d.0) (record { sealed = λ x st. cc; roomy = λ l. cc; ticked = λ l. cc }))

pub keeps : (begun : State) (h : History) (s : State) → begun.board ≡ bare → Runs begun h s → Keeps h s
keeps begun h' s' empty begin =
    record {
      sealed = λ x st. cc;
      roomy = subst (λ b. (b.size.width == 0) ≡ false → round_room (length begun.points) (length begun.live) ≡ true) (sym empty) (λ l. cc);
      ticked = subst (λ b. is_layered b.stage ≡ true → b.rounds ≡ 0) (sym empty) (λ l. cc);
    }
keeps begun h' s' empty (turn h s t u o run step) = keeps_next h s (keeps begun h s empty run) u o t step

-- ---- what a turn takes under a seal is answered

is_answered : (x : Result Found Refusal) (f : Found) → x ≡ Ok f → slice_get (entries_of (answered_by x)) 0 ≡ Some (Ok f)
is_answered x f is = ap (λ x. slice_get (entries_of (answered_by x)) 0) is

-- a sheet within its limits has a width
wide : (sheet : Sheet) (z : Size) → size_of sheet ≡ z → 2 ≤ sheet.width → (z.width == 0) ≡ false
wide sheet z same l = ap (λ (z : Size). z.width == 0) (sym same) ∙ none sheet.width l
  where
    none : (n : ℕ) → 2 ≤ n → (n == 0) ≡ false
    none n l = grind (arith, nat_tests)

module _ (h : History) (s : State) (k : Known h s) (kept : Keeps h s) (x : Seal) (sheet : Sheet) (stands : standing h ≡ Some x) (of : x.sheet ≡ Some sheet) where
  -- the sheet of the seal that stands is the one that the tables hold
  answered_at : (position : ℕ) (p : Spot) → pos 0 <ℤ p.Z → is_on_sheet (pos sheet.width) (pos sheet.height) p ≡ true
      → (f : Found) × (place_said s.board.size (Some p) position (points_in s.board s.points) s.nodes (live_of s.board s.live) ≡ Ok f)
  answered_at position p z on =
      let g = is_sealing _ _ _ s.board s.points s.edges s.loops s.live s.nodes s.board.stage (kept.sealed x stands) k in
      let one : g.seal ≡ x = some_same (standing h) g.seal x g.stand stands in
      let held : g.held.sheet ≡ sheet = some_same x.sheet g.held.sheet sheet (subst (λ (y : Seal). y.sheet ≡ Some g.held.sheet) one g.held.loaded) of in
      let built = g.ready.built in
      let points = points_same s.board s.points s.edges s.loops g.held.sheet g.held.holds in
      let within : is_on_sheet (pos g.held.sheet.width) (pos g.held.sheet.height) p ≡ true = (λ i. is_on_sheet (pos (held i).width) (pos (held i).height) p) ∙ on in
      let t = place_tells g.held.sheet s.nodes built.alive built.made built.rounds built.right g.ready.few (Some p) position p refl z within in
      (t.0, (λ i. place_said (sym g.held.holds.size i) (Some p) position (points i) s.nodes (g.ready.same i)) ∙ t.1)

  room : round_room (length s.points) (length s.live) ≡ true
  room =
      let g = is_sealing _ _ _ s.board s.points s.edges s.loops s.live s.nodes s.board.stage (kept.sealed x stands) k in
      kept.roomy (wide g.held.sheet s.board.size (g.held.holds.size) g.held.holds.legal.width.0)

  place_serves : (tip : Option Spot) (o : Told) → Scaled tip → o ≡ answered_by (places s.board s.points s.live s.nodes tip) → (j : ℕ) (p : Spot)
      → slice_get (tip ∷ []) j ≡ Some (Some p) → is_on_sheet (pos sheet.width) (pos sheet.height) p ≡ true
      → (f : Found) × (slice_get (entries_of o) j ≡ Some (Ok f))
  place_serves tip o z said j p at on =
      let same : tip ≡ Some p = only tip (Some p) j at in
      let first : j ≡ 0 = only_first tip (Some p) j at in
      let t = answered_at 0 p (subst Scaled same z) on in
      let told : places s.board s.points s.live s.nodes tip ≡ Ok t.0 =
      cond-true _ _ _ room ∙ cond-true _ _ _ (kept.sealed x stands) ∙ (λ i. place_said s.board.size (same i) 0 (points_in s.board s.points) s.nodes (live_of s.board s.live)) ∙ t.1 in
      (t.0, (λ i. slice_get (entries_of (said i)) (first i)) ∙ is_answered _ t.0 told)

  list_serves : (tips : List (Option Spot)) (room : ℕ) (o : Told) → All Scaled tips → o ≡ listed_by (lists s.board s.points s.live s.nodes tips room)
      → (j : ℕ) (p : Spot) → slice_get (cond (is_granted o) tips []) j ≡ Some (Some p) → is_on_sheet (pos sheet.width) (pos sheet.height) p ≡ true
      → (f : Found) × (slice_get (entries_of o) j ≡ Some (Ok f))
  list_serves tips room o z said j p at on =
      by_said (lists s.board s.points s.live s.nodes tips room) refl said at
    where
      by_said : (x : Result (List (Result Found Refusal)) Refusal) → lists s.board s.points s.live s.nodes tips room ≡ x → o ≡ listed_by x
          → slice_get (cond (is_granted o) tips []) j ≡ Some (Some p) → (f : Found) × (slice_get (entries_of o) j ≡ Some (Ok f))
      by_said (Err e) is said at = absurd (none_at (Some p) j (sym (λ i. slice_get (cond (is_granted (said i)) tips []) j) ∙ at))
      by_said (Ok es) is said at =
          let there : slice_get tips j ≡ Some (Some p) = sym (λ i. slice_get (cond (is_granted (said i)) tips []) j) ∙ at in
          let same = ok_same _ _ (passed_by (is_sealed s.board.stage) _ _ es (passed_by (cond (nat_le (length tips) room) (round_room (length s.points) (length s.live)) false) _ _ es is).1).1 in
          let t = answered_at (0 + j) p (scaled_at tips j (Some p) z there) on in
          let entry = list_entry s.board.size (points_in s.board s.points) s.nodes (live_of s.board s.live) 0 tips j (Some p) there in
          (t.0, ap (λ o. slice_get (entries_of o) j) said ∙ ap (λ es. slice_get es j) (sym same) ∙ entry ∙ ap Some t.1)

serves : (h : History) (s : State) → Known h s → Keeps h s → (u : Turn) (o : Told) (t : State) → Step s u o t → Serves (standing h) (event u o)
serves h s k kept (load file) o t d x sheet st of j p at on = absurd (none_at (Some p) j at)
serves h s k kept check o t d x sheet st of j p at on = absurd (none_at (Some p) j at)
serves h s k kept cut o t d x sheet st of j p at on = absurd (none_at (Some p) j at)
serves h s k kept round o t d x sheet st of j p at on = absurd (none_at (Some p) j at)
serves h s k kept seal o t d x sheet st of j p at on = absurd (none_at (Some p) j at)
serves h s k kept (place tip) o t d x sheet st of j p at on = place_serves h s k kept x sheet st of tip o d.0 d.1 j p at on
serves h s k kept (list tips room) o t d x sheet st of j p at on = list_serves h s k kept x sheet st of tips room o d.0 d.1 j p at on
serves h s k kept wipe o t d x sheet st of j p at on = absurd (none_at (Some p) j at)

pub served : (begun : State) → begun.board ≡ bare → (h : History) (s : State) → Runs begun h s → Served h
served begun empty h' s' begin = tt
served begun empty h' s' (turn h s t u e run step) =
    (serves h s (known begun h s empty run) (keeps begun h s empty run) u e t step, served begun empty h s run)
