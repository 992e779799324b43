-- What the turns tell of a sheet that nobody altered: no number outside its range.
use Rattle.std.proofs.Common.{◌≡◌, ℕ, zero, suc, ◌≤◌, Bool, true, false, cond, List, length, None, Ok, Err, Result, nat_le, sym, ap, ◌∙◌, subst, arith}
use Rattle.std.proofs.lemmas.Bool.{cond-true, false≢true, le-leb, leb-true}
use Rattle.plane.specs.declared.Edge.{Edge}
use Rattle.plane.specs.declared.Point.{Point}
use Rattle.refusal.specs.declared.Cause.{Cause}
use Rattle.refusal.specs.declared.Cause.TheVariants.{NotThisStage, OutOfRange, StoreFull, TableTooShort, VerticesLeft}
use Rattle.refusal.specs.declared.Layer.{Layer}
use Rattle.refusal.specs.declared.Layer.TheVariants.{Build}
use Rattle.refusal.specs.declared.Refusal.{Refusal}
use Rattle.refusal.specs.Numbers.{number, refused}
use Rattle.nodes.specs.declared.node.Node.{Node}
use Rattle.fans.specs.Around.{left_from}
use Rattle.reader.specs.Reading.{and_then}
use Rattle.sheet.specs.declared.tables.Loop.{Loop}
use Rattle.sheet.specs.Sheets.{Sheet, points_of, size_of}
use Rattle.checking.specs.Held.{Holds}
use Rattle.rules.specs.Rules.{first_broken}
use Rattle.bottom.specs.Cuts.{bottom_count, build_room, cut_said}
use Rattle.rounds.specs.Rounds.{most_nodes, round_said}
use Rattle.sealing.specs.Seals.{seal_said}
use Rattle.webs.specs.Theorems.{CutIsUnhindered, Never, RoundIsUnhindered, Unhindered, left_told}
use Rattle.webs.proofs.Causes.{either, granted_so, other_cause}
use Rattle.webs.proofs.Theorems.{cut_is_unhindered, layers_are_counted, round_is_unhindered, seal_tells_left}
use Rattle.board.specs.declared.stage.Board.{Board}
use Rattle.board.specs.Turns.{cuts, is_checked, is_layered, live_of, points_in, round_room, rounds, seals}
use Rattle.board.specs.Unaltered.{CutUnaltered, RoundUnaltered, SealUnaltered}
use Rattle.board.proofs.Standing.{Built, all_counted, at_checked, at_layered, inner_same, points_same, sound}

-- ---- what is told before a turn looks at a table

pub at_stage : {X : Type 0} (d : Cause) (long at : Bool) (layer : Layer) (said : Result X Refusal) → (number TableTooShort ≡ number d → ⊥) → (number NotThisStage ≡ number d → ⊥)
    → (long ≡ true → at ≡ true → Never d said) → Never d (cond long (cond at said (Err (refused NotThisStage layer 0))) (Err (refused TableTooShort layer 0)))
at_stage d long at layer said h k i =
    either d long _ _ (λ l. either d at _ _ (λ a. i l a) (λ _. other_cause NotThisStage layer 0 d k)) (λ _. other_cause TableTooShort layer 0 d h)

-- what is answered in place of what was made
answered_so : {X : Type 0} (d : Cause) (r : Result X Refusal) → Never d r → Never {X = Unit {0}} d (and_then r (λ _. Ok tt))
answered_so d (Ok x) h = granted_so {X = Unit {0}} d tt
answered_so d (Err e) h = λ f is. h f (ap Err (same is))
  where
    same : {f : Refusal} → ◌≡◌ {A = Result (Unit {0}) Refusal} (Err e) (Err f) → e ≡ f
    same is = cc

pub long_live : (points live : ℕ) → round_room points live ≡ true → 2050 ≤ live
long_live points live h = go (nat_le 1028 points) h
  where
    go : (b : Bool) → cond b (nat_le 2050 live) false ≡ true → 2050 ≤ live
    go true e = leb-true 2050 live e
    go false e = absurd (false≢true e)

-- ---- by what the tables hold

-- what holds of a turn over the sheet that the tables hold holds of the turn
pub cut_held : (b : Board) (ps : List Point) (es : List Edge) (ls : List Loop) (live room enough : ℕ)
    → (is_checked b.stage ≡ true → Unhindered enough room (cut_said b.size ps es ls room)) → Unhindered enough room (cuts b ps es ls live room)
cut_held b ps es ls live room enough held =
    let at = λ (d : Cause). at_stage d (build_room (length ps) (length es) (length ls) live) (is_checked b.stage) Build (cut_said b.size ps es ls room) in
    record {
      in_range = at OutOfRange (λ e. omega arith) (λ e. omega arith) (λ _ a. (held a).in_range);
      not_full = λ room. at StoreFull (λ e. omega arith) (λ e. omega arith) (λ _ a. (held a).not_full room);
    }

pub cut_on : (s : Sheet) (b : Board) (ps : List Point) (es : List Edge) (ls : List Loop) (room : ℕ) → Holds b.size ps es ls s → first_broken s ≡ None
    → Unhindered (bottom_count (length s.inner)) room (cut_said b.size ps es ls room)
unfolding CutIsUnhindered
cut_on s b ps es ls room holds none = cut_is_unhindered b.size ps es ls room s holds none

module _ (s : Sheet) (b : Board) (ps : List Point) (es : List Edge) (ls : List Loop) (live : List ℕ) (nodes : List Node) (holds : Holds b.size ps es ls s) (built : Built s b live nodes) where
  few : length nodes ≤ 8194
  few = let c = (layers_are_counted s nodes built.alive built.made built.rounds built.right).1 in let n = holds.legal.few in omega arith

  same_live : live_of b live ≡ built.alive
  same_live = (all_counted s b live nodes few built).1

  pub round_on : (room : ℕ) → 2050 ≤ length live
      → Unhindered (most_nodes (length s.inner)) room (round_said b.size (points_in b ps) nodes (live_of b live) b.rounds room (length live))
  unfolding RoundIsUnhindered
  round_on room long =
      let points = points_same b ps es ls s holds in
      let same : round_said (size_of s) (points_of s) nodes built.alive b.rounds room (length live) ≡ round_said b.size (points_in b ps) nodes (live_of b live) b.rounds room (length live) =
      λ i. round_said (holds.size i) (sym points i) nodes (sym same_live i) b.rounds room (length live) in
      subst (Unhindered (most_nodes (length s.inner)) room) same (round_is_unhindered s nodes built.alive built.made built.rounds built.right b.rounds room (length live) long)

  pub seal_held : seal_said b.size.inner nodes (live_of b live) ≡ left_told (left_from nodes (live_of b live) (length s.inner) 4)
  seal_held =
      (λ i. seal_said (inner_same b.size ps es ls s holds i) nodes (same_live i))
      ∙ seal_tells_left s nodes built.alive built.made built.rounds built.right
      ∙ ap (λ l. left_told (left_from nodes l (length s.inner) 4)) (sym same_live)

pub round_held : (b : Board) (ps : List Point) (live : List ℕ) (nodes : List Node) (room enough : ℕ)
    → (is_layered b.stage ≡ true → 2050 ≤ length live → Unhindered enough room (round_said b.size (points_in b ps) nodes (live_of b live) b.rounds room (length live)))
    → Unhindered enough room (rounds b ps live nodes room)
round_held b ps live nodes room enough held =
    let at = λ (d : Cause). at_stage d (round_room (length ps) (length live)) (is_layered b.stage) Build (round_said b.size (points_in b ps) nodes (live_of b live) b.rounds room (length live)) in
    let long : round_room (length ps) (length live) ≡ true → 2050 ≤ length live = long_live (length ps) (length live) in
    record {
      in_range = at OutOfRange (λ e. omega arith) (λ e. omega arith) (λ l a. (held a (long l)).in_range);
      not_full = λ room. at StoreFull (λ e. omega arith) (λ e. omega arith) (λ l a. (held a (long l)).not_full room);
    }

pub left_in_range : (n : ℕ) → Never OutOfRange (left_told n)
left_in_range zero = granted_so {X = Unit {0}} OutOfRange tt
left_in_range (suc n) = other_cause VerticesLeft Build (suc n) OutOfRange (λ e. omega arith)

pub seal_told : (b : Board) (live : List ℕ) (nodes : List Node) (n : ℕ) → (is_layered b.stage ≡ true → seal_said b.size.inner nodes (live_of b live) ≡ left_told n)
    → Never OutOfRange (seals b live nodes)
seal_told b live nodes n held =
    at_stage OutOfRange (nat_le 2050 (length live)) (is_layered b.stage) Build (seal_said b.size.inner nodes (live_of b live)) (λ e. omega arith) (λ e. omega arith)
    (λ l a. subst (Never OutOfRange) (sym (held a)) (left_in_range n))

-- ---- of a sheet that stands

answered_too : {X : Type 0} (enough room : ℕ) (r : Result X Refusal) (said : Result (Unit {0}) Refusal) → said ≡ and_then r (λ _. Ok tt) → Unhindered enough room r → Unhindered enough room said
answered_too enough room r said is h =
    record {
      in_range = subst (Never OutOfRange) (sym is) (answered_so OutOfRange r h.in_range);
      not_full = λ e. subst (Never StoreFull) (sym is) (answered_so StoreFull r (h.not_full e));
    }

pub cut_unaltered : (b : Board) (ps : List Point) (es : List Edge) (ls : List Loop) (live : List ℕ) (nodes : List Node) (room : ℕ) (said : Result (Unit {0}) Refusal)
    → said ≡ and_then (cuts b ps es ls (length live) room) (λ _. Ok tt) → CutUnaltered b ps es ls live nodes room said
unfolding CutUnaltered
cut_unaltered b ps es ls live nodes room said is s st =
    let h = sound s b ps es ls live nodes st in
    answered_too _ room (cuts b ps es ls (length live) room) said is
    (cut_held b ps es ls (length live) room _ (λ a. cut_on s b ps es ls room h.holds (at_checked b.stage s b live nodes a h.come)))

pub round_unaltered : (b : Board) (ps : List Point) (live : List ℕ) (nodes : List Node) (room : ℕ) (said : Result (Unit {0}) Refusal)
    → said ≡ and_then (rounds b ps live nodes room) (λ _. Ok tt) → RoundUnaltered b ps live nodes room said
unfolding RoundUnaltered
round_unaltered b ps live nodes room said is s es ls st =
    let h = sound s b ps es ls live nodes st in
    answered_too _ room (rounds b ps live nodes room) said is
    (round_held b ps live nodes room _ (λ a long. round_on s b ps es ls live nodes h.holds (at_layered b.stage s b live nodes a h.come) room long))

pub seal_unaltered : (b : Board) (live : List ℕ) (nodes : List Node) (said : Result (Unit {0}) Refusal) → said ≡ seals b live nodes → SealUnaltered b live nodes said
unfolding SealUnaltered
seal_unaltered b live nodes said is s ps es ls st =
    let h = sound s b ps es ls live nodes st in
    let held : is_layered b.stage ≡ true → seal_said b.size.inner nodes (live_of b live) ≡ left_told (left_from nodes (live_of b live) (length s.inner) 4) =
    λ a. seal_held s b ps es ls live nodes h.holds (at_layered b.stage s b live nodes a h.come) in
    record {
      in_range = subst (Never OutOfRange) (sym is) (seal_told b live nodes _ held);
      left = λ a long. is ∙ cond-true _ _ _ (le-leb 2050 (length live) long) ∙ cond-true _ _ _ a ∙ held a;
    }
