-- What a history tells of the state that it led to.
use Rattle.std.proofs.Common.{◌≡◌, ℕ, ◌+◌, ◌==◌, Bool, true, false, not, cond, List, [], ◌∷◌, Some, None, Option, Ok, Err, Result, length, refl, sym, ap, ◌∙◌, subst, inl, inr}
use Rattle.std.specs.Result.{result_ok}
use Rattle.std.proofs.lemmas.Bool.{cases_Bool}
use Rattle.plane.specs.declared.Edge.{Edge}
use Rattle.plane.specs.declared.Point.{Point}
use Rattle.plane.specs.Points.{Spot}
use Rattle.refusal.specs.declared.Cause.TheVariants.{NotThisStage, TableTooShort}
use Rattle.refusal.specs.declared.Layer.TheVariants.{Build}
use Rattle.refusal.specs.Numbers.{refused as refusal}
use Rattle.refusal.specs.declared.Refusal.{Refusal}
use Rattle.nodes.specs.declared.node.Node.{Node}
use Rattle.sheet.specs.declared.tables.Loop.{Loop}
use Rattle.sheet.specs.declared.tables.Size.{Size}
use Rattle.sheet.specs.Load.{sheet_of}
use Rattle.sheet.specs.Sheets.{Sheet}
use Rattle.checking.specs.Held.{Holds}
use Rattle.checking.proofs.Loaded.{loaded_is_held}
use Rattle.rules.specs.Rules.{first_broken}
use Rattle.bottom.specs.Cuts.{cut_live, cut_nodes, build_room}
use Rattle.rounds.specs.Rounds.{RoundLive, Rounded, round_nodes, round_said}
use Rattle.walk.specs.declared.Found.{Found}
use Rattle.board.specs.declared.stage.Board.{Board}
use Rattle.board.specs.declared.stage.Stage.{Stage}
use Rattle.board.specs.declared.stage.Stage.TheVariants.{Draft, Checked, Layered, Sealed}
use Rattle.board.specs.Histories.{Event, History, Runs, State, Step, Told, Turn, after, answered_by, event, listed_by, loaded, told_by}
use Rattle.board.specs.Histories.Runs.{begin, turn}
use Rattle.board.specs.Histories.Told.{answered, granted, listed, refused}
use Rattle.board.specs.Histories.Turn.{check, cut, list, load, place, round, seal, wipe}
use Rattle.board.specs.Law.{Seal, last_sheet, rounds_since, seal_of, standing}
use Rattle.board.specs.Turns.{bare, check_board, checks, cut_board, cuts, is_checked, is_draft, is_layered, is_loaded, is_sealed, lists, load_board, loads, places, round_board, round_room, rounds, seal_board, seals}
use Rattle.board.proofs.Standing.{Built, Ready, after_check, after_cut, after_round, after_seal, passed_by}

-- ---- by the stage of the board

-- a sheet was loaded last, and the tables hold it
pub record Held (last : Option Sheet) (z : Size) (ps : List Point) (es : List Edge) (ls : List Loop) : Type 0 where
  pub sheet : Sheet
  pub loaded : last ≡ Some sheet
  pub holds : Holds z ps es ls sheet

-- and it keeps the rules
pub record Right (last : Option Sheet) (z : Size) (ps : List Point) (es : List Edge) (ls : List Loop) : Type 0 where
  pub held : Held last z ps es ls
  pub right : first_broken held.sheet ≡ None

-- and its nodes are those of so many rounds
pub record Layering (last : Option Sheet) (count : ℕ) (b : Board) (ps : List Point) (es : List Edge) (ls : List Loop) (live : List ℕ) (nodes : List Node) : Type 0 where
  pub held : Held last b.size ps es ls
  pub built : Built held.sheet b live nodes
  pub counted : built.rounds ≡ count

-- and they are those of its seal
pub record Sealing (stands : Option Seal) (b : Board) (ps : List Point) (es : List Edge) (ls : List Loop) (live : List ℕ) (nodes : List Node) : Type 0 where
  pub seal : Seal
  pub stand : stands ≡ Some seal
  pub held : Held seal.sheet b.size ps es ls
  pub ready : Ready held.sheet b live nodes
  pub counted : ready.built.rounds ≡ seal.rounds

module _ (last : Option Sheet) (count : ℕ) (stands : Option Seal) where
  abbrev pub Knows : Stage → Board → List Point → List Edge → List Loop → List ℕ → List Node → Type 0
  Knows Draft b ps es ls live nodes = is_loaded b ≡ true → Held last b.size ps es ls
  Knows Checked b ps es ls live nodes = Right last b.size ps es ls
  Knows Layered b ps es ls live nodes = Layering last count b ps es ls live nodes
  Knows Sealed b ps es ls live nodes = Sealing stands b ps es ls live nodes

abbrev pub Known : History → State → Type 0
Known h s = Knows (last_sheet h) (rounds_since h) (standing h) s.board.stage s.board s.points s.edges s.loops s.live s.nodes

-- ---- the stage that a granted turn is of

module _ (last : Option Sheet) (count : ℕ) (stands : Option Seal) (b : Board) (ps : List Point) (es : List Edge) (ls : List Loop) (live : List ℕ) (nodes : List Node) where
  pub loaded_draft : (g : Stage) → is_draft g ≡ true → is_loaded b ≡ true → Knows last count stands g b ps es ls live nodes → Held last b.size ps es ls
  loaded_draft Draft h l k = k l
  loaded_draft Checked h l k = cc
  loaded_draft Layered h l k = cc
  loaded_draft Sealed h l k = cc

  pub is_right : (g : Stage) → is_checked g ≡ true → Knows last count stands g b ps es ls live nodes → Right last b.size ps es ls
  is_right Draft h k = cc
  is_right Checked h k = k
  is_right Layered h k = cc
  is_right Sealed h k = cc

  pub is_layering : (g : Stage) → is_layered g ≡ true → Knows last count stands g b ps es ls live nodes → Layering last count b ps es ls live nodes
  is_layering Draft h k = cc
  is_layering Checked h k = cc
  is_layering Layered h k = k
  is_layering Sealed h k = cc

  pub is_sealing : (g : Stage) → is_sealed g ≡ true → Knows last count stands g b ps es ls live nodes → Sealing stands b ps es ls live nodes
  is_sealing Draft h k = cc
  is_sealing Checked h k = cc
  is_sealing Layered h k = cc
  is_sealing Sealed h k = k

pub first_of_two : (p q : Bool) → cond p q false ≡ true → p ≡ true
first_of_two true q h = refl
first_of_two false q h = cc

-- ---- turn by turn

-- a cut that is refused leaves the nodes as they were, but of a Checked sheet
nodes_stay : (b : Board) (ps : List Point) (es : List Edge) (ls : List Loop) (live room : ℕ) (nodes : List Node) → is_checked b.stage ≡ false
    → cut_nodes (cuts b ps es ls live room) nodes ≡ nodes
nodes_stay b ps es ls live room nodes off = by_room (build_room (length ps) (length es) (length ls) live) (is_checked b.stage) _ off
  where
    by_room : (p q : Bool) (said : Result (List Node) Refusal) → q ≡ false
        → cut_nodes (cond p (cond q said (Err (refusal NotThisStage Build 0))) (Err (refusal TableTooShort Build 0))) nodes ≡ nodes
    by_room true true said off = cc
    by_room true false said off = refl
    by_room false q said off = refl

no_checked : (b : Board) (ps : List Point) (es : List Edge) (ls : List Loop) (live room : ℕ) (e : Refusal) (nodes : List Node)
    → cuts b ps es ls live room ≡ Err e → is_checked b.stage ≡ false → cut_nodes (Err e) nodes ≡ nodes
no_checked b ps es ls live room e nodes is off = ap (λ x. cut_nodes x nodes) (sym is) ∙ nodes_stay b ps es ls live room nodes off

module _ (h : History) (s : State) (k : Known h s) where
  after_load : (file : List ℕ) (x : Result Sheet Refusal) → loads s.board s.points s.edges s.loops s.live file ≡ x
      → Known (event (load file) (told_by x) ∷ h) (loaded x s)
  after_load file (Err e) is = k
  after_load file (Ok sheet) is =
      let g = passed_by (is_draft s.board.stage) _ _ sheet (passed_by (build_room (length s.points) (length s.edges) (length s.loops) (length s.live)) _ _ sheet is).1 in
      λ l. record { sheet = sheet; loaded = ap result_ok g.1; holds = loaded_is_held file sheet s.points s.edges s.loops g.1 }

  after_checking : (x : Result (Unit {0}) Refusal) → checks s.board s.points s.edges s.loops s.strokes ≡ x
      → Known (event check (told_by x) ∷ h) (after s (check_board x s.board) s.live s.nodes)
  after_checking (Err e) is = k
  after_checking (Ok tt) is =
      let g = passed_by (is_loaded s.board) _ _ tt (passed_by _ _ _ tt is).1 in
      let d = loaded_draft _ _ _ s.board s.points s.edges s.loops s.live s.nodes s.board.stage (first_of_two _ _ g.0) g.0 k in
      record { held = d; right = after_check d.sheet s.board s.points s.edges s.loops s.live s.nodes s.strokes d.holds is }

  -- at every stage but Checked a refused cut changes nothing, and at Checked the nodes do not matter
  refused_cut : (g : Stage) (e : Refusal) → (is_checked g ≡ false → cut_nodes (Err e) s.nodes ≡ s.nodes)
      → Knows (last_sheet h) (rounds_since h) (standing h) g s.board s.points s.edges s.loops s.live s.nodes
      → Knows (last_sheet h) (rounds_since h) (standing h) g s.board s.points s.edges s.loops s.live (cut_nodes (Err e) s.nodes)
  refused_cut Draft e same k = k
  refused_cut Checked e same k = k
  refused_cut Layered e same k = subst (λ nodes. Layering (last_sheet h) (rounds_since h) s.board s.points s.edges s.loops s.live nodes) (sym (same refl)) k
  refused_cut Sealed e same k = subst (λ nodes. Sealing (standing h) s.board s.points s.edges s.loops s.live nodes) (sym (same refl)) k

  after_cutting : (x : Result (List Node) Refusal) → cuts s.board s.points s.edges s.loops (length s.live) s.room ≡ x
      → Known (event cut (told_by x) ∷ h) (after s (cut_board x s.board) (cut_live x s.live) (cut_nodes x s.nodes))
  after_cutting (Err e) is = refused_cut s.board.stage e (no_checked s.board s.points s.edges s.loops (length s.live) s.room e s.nodes is) k
  after_cutting (Ok ns) is =
      let g = passed_by (is_checked s.board.stage) _ _ ns (passed_by (build_room (length s.points) (length s.edges) (length s.loops) (length s.live)) _ _ ns is).1 in
      let r = is_right _ _ _ s.board s.points s.edges s.loops s.live s.nodes s.board.stage g.0 k in
      let c = after_cut r.held.sheet s.board s.points s.edges s.loops s.live s.nodes s.room ns r.held.holds r.right is in
      record { held = r.held; built = c.0; counted = c.1 }

  after_rounding : (x : Result Rounded Refusal) (live : List ℕ) → rounds s.board s.points s.live s.nodes s.room ≡ x → RoundLive x s.live live
      → Known (event round (told_by x) ∷ h) (after s (round_board x s.board) live (round_nodes x s.nodes))
  after_rounding (Err e) live is same =
      subst (λ live. Knows (last_sheet h) (rounds_since h) (standing h) s.board.stage s.board s.points s.edges s.loops live s.nodes) (sym same) k
  after_rounding (Ok r) live is front =
      let g = passed_by (is_layered s.board.stage) _ _ r (passed_by (round_room (length s.points) (length s.live)) _ _ r is).1 in
      let l = is_layering _ _ _ s.board s.points s.edges s.loops s.live s.nodes s.board.stage g.0 k in
      let c = after_round l.held.sheet s.board s.points s.edges s.loops s.live s.nodes live s.room r l.held.holds l.built is front in
      record { held = record { sheet = l.held.sheet; loaded = l.held.loaded; holds = l.held.holds }; built = c.0; counted = c.1 ∙ ap (λ n. n + 1) l.counted }

  after_sealing : (x : Result (Unit {0}) Refusal) → seals s.board s.live s.nodes ≡ x
      → Known (event seal (told_by x) ∷ h) (after s (seal_board x s.board) s.live s.nodes)
  after_sealing (Err e) is = k
  after_sealing (Ok tt) is =
      let g = passed_by (is_layered s.board.stage) _ _ tt (passed_by _ _ _ tt is).1 in
      let l = is_layering _ _ _ s.board s.points s.edges s.loops s.live s.nodes s.board.stage g.0 k in
      let r = after_seal l.held.sheet s.board s.points s.edges s.loops s.live s.nodes l.held.holds l.built is in
      record { seal = seal_of h; stand = refl; held = record { sheet = l.held.sheet; loaded = l.held.loaded; holds = l.held.holds }; ready = r.0; counted = r.1 ∙ l.counted }

  -- a tip changes nothing, whatever is told of it
  after_tip : (tip : Option Spot) (o : Told) → Known (event (place tip) o ∷ h) s
  after_tip tip granted = k
  after_tip tip (answered f) = k
  after_tip tip (listed es) = k
  after_tip tip (refused e) = k

  after_tips : (tips : List (Option Spot)) (room : ℕ) (o : Told) → Known (event (list tips room) o ∷ h) s
  after_tips tips room granted = k
  after_tips tips room (answered f) = k
  after_tips tips room (listed es) = k
  after_tips tips room (refused e) = k

  known_next : (u : Turn) (o : Told) (t : State) → Step s u o t → Known (event u o ∷ h) t
  known_next (load file) o t d =
      let x = loads s.board s.points s.edges s.loops s.live file in
      subst (λ t. Known (event (load file) o ∷ h) t) (sym d.1) (subst (λ o. Known (event (load file) o ∷ h) (loaded x s)) (sym d.0) (after_load file x refl))
  known_next check o t d =
      let x = checks s.board s.points s.edges s.loops s.strokes in
      subst (λ t. Known (event check o ∷ h) t) (sym d.1) (subst (λ o. Known (event check o ∷ h) (after s (check_board x s.board) s.live s.nodes)) (sym d.0) (after_checking x refl))
  known_next cut o t d =
      let x = cuts s.board s.points s.edges s.loops (length s.live) s.room in
      subst (λ t. Known (event cut o ∷ h) t) (sym d.1) (subst (λ o. Known (event cut o ∷ h) (after s (cut_board x s.board) (cut_live x s.live) (cut_nodes x s.nodes))) (sym d.0) (after_cutting x refl))
  known_next round o t d =
      let x = rounds s.board s.points s.live s.nodes s.room in
      subst (λ t. Known (event round o ∷ h) t) (sym d.3)
      (subst (λ o. Known (event round o ∷ h) (after s (round_board x s.board) t.live (round_nodes x s.nodes))) (sym d.0) (after_rounding x t.live refl d.1))
  known_next seal o t d =
      let x = seals s.board s.live s.nodes in
      subst (λ t. Known (event seal o ∷ h) t) (sym d.1) (subst (λ o. Known (event seal o ∷ h) (after s (seal_board x s.board) s.live s.nodes)) (sym d.0) (after_sealing x refl))
  known_next (place tip) o t d = subst (λ t. Known (event (place tip) o ∷ h) t) (sym d.2) (after_tip tip o)
  known_next (list tips room) o t d = subst (λ t. Known (event (list tips room) o ∷ h) t) (sym d.2) (after_tips tips room o)
  known_next wipe o t d = subst (λ t. Known (event wipe o ∷ h) t) (sym d.1) (λ l. cc)

pub known : (begun : State) (h : History) (s : State) → begun.board ≡ bare → Runs begun h s → Known h s
known begun h' s' empty begin =
    subst (λ b. Knows None 0 None b.stage b begun.points begun.edges begun.loops begun.live begun.nodes) (sym empty) (λ l. cc)
known begun h' s' empty (turn h s t u o run step) = known_next h s (known begun h s empty run) u o t step
