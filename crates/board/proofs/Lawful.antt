-- The law over histories.
use Rattle.std.proofs.Common.{◌≡◌, ℕ, zero, suc, ◌+◌, ◌*◌, ◌/◌, ◌<◌, ◌≤◌, ◌⊎◌, Bool, true, false, cond, List, [], ◌∷◌, Some, None, Option, Ok, Err, Result, length, take, drop, min, nat_le, IfOk, refl, sym, ap, ◌∙◌, subst, inl, inr, arith}
use Rattle.std.specs.List.{All, slice_get}
use Rattle.std.proofs.Math.Seq.{take-append_seam}
use Rattle.std.proofs.lemmas.Bool.{cases_Bool, cond-false, cond-true}
use Rattle.std.proofs.lemmas.Option.{get_or_from_slice_get, slice_get_within}
use Rattle.plane.specs.declared.Point.{Point}
use Rattle.plane.specs.Kernels.{Scaled}
use Rattle.plane.specs.Points.{Spot}
use Rattle.reader.specs.Reading.{and_then}
use Rattle.refusal.specs.declared.Refusal.{Refusal}
use Rattle.nodes.specs.declared.node.Node.{Node}
use Rattle.sheet.specs.declared.answer.Answer.{Answer}
use Rattle.sheet.specs.declared.answer.Answer.TheVariants.{Face, OpenEdge, Vertex}
use Rattle.sheet.specs.Sheets.{Sheet, points_of, size_of}
use Rattle.tiling.specs.Cells.{Cell, cell_holds}
use Rattle.rules.specs.Planes.{plane_of}
use Rattle.hierarchy.specs.Falls.{digits, digits_within}
use Rattle.hierarchy.proofs.Falls.{rounds_are_few}
use Rattle.placing.specs.Placings.{Names, list_said, place_said}
use Rattle.placing.proofs.Listing.{list_at, list_length}
use Rattle.placing.proofs.Tells.{answer_told}
use Rattle.walk.specs.declared.Found.{Found}
use Rattle.walk.specs.Telling.{cell_of}
use Rattle.board.specs.declared.stage.Board.{Board}
use Rattle.board.specs.Histories.{Event, History, Runs, State, Step, Told, Turn, answered_by, event, listed_by, told_by}
use Rattle.board.specs.Histories.Runs.{begin, turn}
use Rattle.board.specs.Histories.Told.{answered, granted, listed, refused}
use Rattle.board.specs.Histories.Turn.{check, cut, list, load, place, round, seal, wipe}
use Rattle.board.specs.Law.{Entered, Exactly, WalkFinds, Given, Handed, IsSealOf, Law, LawOfHistories, Led, ListRight, OneCell, Right, RightNext, Seal, SealFew, is_granted, last_sheet, rounds_since, seal_of, seal_then, standing}
use Rattle.board.specs.Turns.{bare, is_layered, is_sealed, list_answers, lists, live_of, places, points_in, round_room, seals}
use Rattle.board.proofs.Listing.{ok_same}
use Rattle.board.proofs.Known.{Known, Sealing, is_layering, is_sealing, known}
use Rattle.board.proofs.Serving.{keeps, none_at, only, scaled_at, served, some_same}
use Rattle.board.proofs.Standing.{passed_by, points_same}

-- ---- one answer

-- a seal stands, and the answer is right under it
abbrev IsRight : Option Seal → Option Spot → Found → Type 0
IsRight stands tip f = (x : Seal) × (stands ≡ Some x) × Right x tip f

module _ (h : History) (s : State) (k : Known h s) (on : is_sealed s.board.stage ≡ true) where
  right_at : (position : ℕ) (tip : Option Spot) (f : Found) → Scaled tip
      → place_said s.board.size tip position (points_in s.board s.points) s.nodes (live_of s.board s.live) ≡ Ok f → IsRight (standing h) tip f
  right_at position tip f z said =
      let g = is_sealing _ _ _ s.board s.points s.edges s.loops s.live s.nodes s.board.stage on k in
      let sheet = g.held.sheet in
      let holds = g.held.holds in
      let built = g.ready.built in
      let points = points_same s.board s.points s.edges s.loops sheet holds in
      let same : place_said (size_of sheet) tip position (points_of sheet) s.nodes built.alive ≡ Ok f =
      (λ i. place_said (holds.size i) tip position (sym points i) s.nodes (sym g.ready.same i)) ∙ said in
      let t = answer_told sheet s.nodes built.alive built.made built.rounds built.right g.ready.few tip position f z same in
      let rounds = g.counted in
      let tests = t.few in
      let two = g.ready.two in (
        g.seal,
        g.stand,
        record {
          sheet = sheet;
          sealed = g.held.loaded;
          point = t.point;
          meant = t.meant;
          names = t.names;
          walk = subst (λ n. WalkFinds sheet n t.point f) rounds (s.nodes, built.alive, built.made, built.right.layers, t.walk);
          few = omega (arith, rounds, tests, two);
        },
      )

-- ---- the answers of one turn

answer_is : (x : Result Found Refusal) (f : Found) → answered_by x ≡ answered f → x ≡ Ok f
answer_is (Ok g) f h = cc
answer_is (Err e) f h = cc

list_is : (x : Result (List (Result Found Refusal)) Refusal) (es : List (Result Found Refusal)) → listed_by x ≡ listed es → x ≡ Ok es
list_is (Ok fs) es h = cc
list_is (Err e) es h = cc

not_listed : {X : Type 0} (x : Result Found Refusal) (es : List (Result Found Refusal)) → listed es ≡ answered_by x → X
not_listed (Ok f) es h = cc
not_listed (Err e) es h = cc

not_answered : {X : Type 0} (x : Result (List (Result Found Refusal)) Refusal) (f : Found) → answered f ≡ listed_by x → X
not_answered (Ok es) f h = cc
not_answered (Err e) f h = cc

module _ (h : History) (s : State) (k : Known h s) where
  -- what a place answers is right
  right_place : (tip : Option Spot) (f : Found) → Scaled tip → places s.board s.points s.live s.nodes tip ≡ Ok f → IsRight (standing h) tip f
  right_place tip f z said =
      let g = passed_by (is_sealed s.board.stage) _ _ f (passed_by (round_room (length s.points) (length s.live)) _ _ f said).1 in
      right_at h s k g.0 0 tip f z g.1

  -- so is each answer of a list
  right_list : (tips : List (Option Spot)) (room j : ℕ) (es : List (Result Found Refusal)) (tip : Option Spot) (f : Found) → Scaled tip
      → lists s.board s.points s.live s.nodes tips room ≡ Ok es → slice_get tips j ≡ Some tip → slice_get es j ≡ Some (Ok f) → IsRight (standing h) tip f
  right_list tips room j es tip f z said at entry =
      let g = passed_by (is_sealed s.board.stage) _ _ es (passed_by (cond (nat_le (length tips) room) (round_room (length s.points) (length s.live)) false) _ _ es said).1 in
      let same : list_said s.board.size 0 (points_in s.board s.points) s.nodes (live_of s.board s.live) tips ≡ es = ok_same _ _ g.1 in
      let told = list_at s.board.size (points_in s.board s.points) s.nodes (live_of s.board s.live) 0 tips j tip (Ok f) at (ap (λ es. slice_get es j) same ∙ entry) in
      right_at h s k g.0 (0 + j) tip f z told

  given_right : (u : Turn) (o : Told) (t : State) → Step s u o t → (tip : Option Spot) (f : Found) → Given (event u o) tip f → IsRight (standing h) tip f
  given_right (load file) o t d tip f g = absurd (none_at tip g.0 g.1)
  given_right check o t d tip f g = absurd (none_at tip g.0 g.1)
  given_right cut o t d tip f g = absurd (none_at tip g.0 g.1)
  given_right round o t d tip f g = absurd (none_at tip g.0 g.1)
  given_right seal o t d tip f g = absurd (none_at tip g.0 g.1)
  given_right (place u) granted t d tip f g = absurd (none_at (Ok f) g.0 g.2)
  given_right (place u) (answered e) t d tip f g =
      let same : u ≡ tip = only u tip g.0 g.1 in
      let found : Ok e ≡ Ok f = only (Ok e) (Ok f) g.0 g.2 in
      let said = answer_is (places s.board s.points s.live s.nodes u) e (sym d.1) in
      subst (λ u. IsRight (standing h) u f) same (right_place u f d.0 (said ∙ found))
  given_right (place u) (listed es) t d tip f g = not_listed (places s.board s.points s.live s.nodes u) es d.1
  given_right (place u) (refused e) t d tip f g = absurd (none_at (Ok f) g.0 g.2)
  given_right (list tips room) granted t d tip f g = absurd (none_at (Ok f) g.0 g.2)
  given_right (list tips room) (answered e) t d tip f g = not_answered (lists s.board s.points s.live s.nodes tips room) e d.1
  given_right (list tips room) (listed es) t d tip f g =
      right_list tips room g.0 es tip f (scaled_at tips g.0 tip d.0 g.1) (list_is (lists s.board s.points s.live s.nodes tips room) es (sym d.1)) g.1 g.2
  given_right (list tips room) (refused e) t d tip f g = absurd (none_at (Ok f) g.0 g.2)
  given_right wipe o t d tip f g = absurd (none_at tip g.0 g.1)

-- ---- all turns

abbrev RoundsFew : Seal → Type 0
RoundsFew x = (sheet : Sheet) × (x.sheet ≡ Some sheet) × (x.rounds ≤ 13 * digits (length sheet.inner))

module _ (begun : State) (empty : begun.board ≡ bare) where
  answers : (h : History) (s : State) → Runs begun h s → (tip : Option Spot) (f : Found) (o : Option Seal) → Handed h tip f o → IsRight o tip f
  answers h' s' begin tip f o g = absurd g
  answers h' s' (turn h s t u e run step) tip f o (inl g) =
      subst (λ o. IsRight o tip f) (sym g.1) (given_right h s (known begun h s empty run) u e t step tip f g.0)
  answers h' s' (turn h s t u e run step) tip f o (inr g) = answers h s run tip f o g

  -- ---- the rounds of a seal

  granted_seal : (x : Result (Unit {0}) Refusal) → is_granted (told_by x) ≡ true → x ≡ Ok tt
  granted_seal (Ok tt) g = refl
  granted_seal (Err e) g = cc

  seal_rounds : (h : History) (s : State) → Known h s → (o : Told) (t : State) → Step s seal o t → is_granted o ≡ true → RoundsFew (seal_of h)
  seal_rounds h s k o t d g =
      let said = granted_seal (seals s.board s.live s.nodes) (ap is_granted (sym d.0) ∙ g) in
      let p = passed_by (is_layered s.board.stage) _ _ tt (passed_by (nat_le 2050 (length s.live)) _ _ tt said).1 in
      let l = is_layering _ _ _ s.board s.points s.edges s.loops s.live s.nodes s.board.stage p.0 k in
      let few = rounds_are_few (length l.held.sheet.inner) l.built.rounds _ l.built.fell in
      (l.held.sheet, l.held.loaded, subst (λ n. n ≤ 13 * digits (length l.held.sheet.inner)) l.counted few)

  its_rounds : (h : History) (s : State) → Known h s → (u : Turn) (o : Told) (t : State) → Step s u o t → is_granted o ≡ true → u ≡ seal → RoundsFew (seal_of h)
  its_rounds h s k (load file) o t d g is = cc
  its_rounds h s k check o t d g is = cc
  its_rounds h s k cut o t d g is = cc
  its_rounds h s k round o t d g is = cc
  its_rounds h s k seal o t d g is = seal_rounds h s k o t d g
  its_rounds h s k (place tip) o t d g is = cc
  its_rounds h s k (list tips room) o t d g is = cc
  its_rounds h s k wipe o t d g is = cc

  seals_rounds : (h : History) (s : State) → Runs begun h s → (x : Seal) → IsSealOf h x → RoundsFew x
  seals_rounds h' s' begin x g = absurd g
  seals_rounds h' s' (turn h s t u e run step) x (inl g) =
      subst RoundsFew (sym g.2) (its_rounds h s (known begun h s empty run) u e t step g.0 g.1)
  seals_rounds h' s' (turn h s t u e run step) x (inr g) = seals_rounds h s run x g

-- ---- one seal

-- the seal that stands was made, and is known by how many turns came before it
standing_made : (h : History) (x : Seal) → standing h ≡ Some x → IsSealOf h x
standing_made [] x is = cc
standing_made (e ∷ h) x is =
    elim (cases_Bool (is_granted e.told)) [
      | inl g ↦ by_turn (λ now. inr (standing_made h x now)) e.turn refl g (sym (cond-true _ _ _ g) ∙ is)
      | inr r ↦ inr (standing_made h x (sym (cond-false _ _ _ r) ∙ is))
    ]
  where
    by_turn : (standing h ≡ Some x → IsSealOf (e ∷ h) x) → (u : Turn) → e.turn ≡ u → is_granted e.told ≡ true → seal_then u h (standing h) ≡ Some x → IsSealOf (e ∷ h) x
    by_turn before (load file) same g now = before now
    by_turn before check same g now = before now
    by_turn before cut same g now = before now
    by_turn before round same g now = before now
    by_turn before seal same g now = inl (g, same, cc)
    by_turn before (place tip) same g now = before now
    by_turn before (list tips room) same g now = before now
    by_turn before wipe same g now = cc

made_before : (h : History) (x : Seal) → IsSealOf h x → x.at < length h
made_before [] x g = absurd g
made_before (e ∷ h) x (inl g) = let at : x.at ≡ length h = ap (λ (x : Seal). x.at) g.2 in omega (arith, at)
made_before (e ∷ h) x (inr g) = let l = made_before h x g in omega (arith, l)

one_seal : (h : History) (x y : Seal) → IsSealOf h x → IsSealOf h y → x.at ≡ y.at → x ≡ y
one_seal [] x y g k same = absurd g
one_seal (e ∷ h) x y (inl g) (inl k) same = g.2 ∙ sym k.2
one_seal (e ∷ h) x y (inl g) (inr k) same =
    let at : x.at ≡ length h = ap (λ (x : Seal). x.at) g.2 in
    let l = made_before h y k in
    absurd (omega (arith, at, l, same))
one_seal (e ∷ h) x y (inr g) (inl k) same =
    let at : y.at ≡ length h = ap (λ (x : Seal). x.at) k.2 in
    let l = made_before h x g in
    absurd (omega (arith, at, l, same))
one_seal (e ∷ h) x y (inr g) (inr k) same = one_seal h x y g k same

handed_under : (h : History) (tip : Option Spot) (f : Found) (x : Seal) → Handed h tip f (Some x) → IsSealOf h x
handed_under [] tip f x g = absurd g
handed_under (e ∷ h) tip f x (inl g) = inr (standing_made h x (sym g.1))
handed_under (e ∷ h) tip f x (inr g) = inr (handed_under h tip f x g)

-- ---- two answers

one_answer : (f g : Answer) → cell_of f ≡ cell_of g → f ≡ g
one_answer (Vertex u) (Vertex v) h = cc
one_answer (Vertex u) (OpenEdge v w) h = cc
one_answer (Vertex u) (Face l) h = cc
one_answer (OpenEdge u v) (Vertex w) h = cc
one_answer (OpenEdge u v) (OpenEdge w z) h = cc
one_answer (OpenEdge u v) (Face l) h = cc
one_answer (Face l) (Vertex u) h = cc
one_answer (Face l) (OpenEdge u v) h = cc
one_answer (Face l) (Face m) h = cc

two_answers : (x : Seal) (t u : Option Spot) (f g : Found) → Right x t f → Right x u g → Exactly (f.answer ≡ g.answer) (OneCell x t u)
two_answers x t u f g a b =
    let sheet : b.sheet ≡ a.sheet = some_same x.sheet b.sheet a.sheet b.sealed a.sealed in (
      λ same. (
        a.sheet,
        a.point,
        b.point,
        cell_of f.answer,
        a.sealed,
        a.meant,
        b.meant,
        a.names.holds,
        subst (λ s. cell_holds (plane_of s) (cell_of f.answer) b.point ≡ true) sheet (subst (λ w. cell_holds (plane_of b.sheet) (cell_of w) b.point ≡ true) (sym same) b.names.holds),
      ),
      λ c.
          let first : cell_holds (plane_of a.sheet) c.3 a.point ≡ true =
          (λ i. cell_holds (plane_of (some_same x.sheet a.sheet c.0 a.sealed c.4 i)) c.3 (some_same t a.point c.1 a.meant c.5 i)) ∙ c.7 in
          let second : cell_holds (plane_of b.sheet) c.3 b.point ≡ true =
          (λ i. cell_holds (plane_of (some_same x.sheet b.sheet c.0 b.sealed c.4 i)) c.3 (some_same u b.point c.2 b.meant c.6 i)) ∙ c.8 in
          one_answer f.answer g.answer (sym (a.names.alone c.3 first) ∙ b.names.alone c.3 second),
    )

-- ---- the law

pub law : LawOfHistories
law begun s h empty run =
    record {
      answers = λ tip f o g. answers begun empty h s run tip f o g;
      equal = λ t u f g x y a b same.
          let one : y ≡ x = sym (one_seal h x y (handed_under h t f x a) (handed_under h u g y b) same) in
          let first = answers begun empty h s run t f (Some x) a in
          let second = answers begun empty h s run u g (Some y) b in
          let fx : first.0 ≡ x = sym (some_same (Some x) x first.0 refl first.1) in
          let gy : second.0 ≡ x = sym (some_same (Some y) y second.0 refl second.1) ∙ one in
          two_answers x t u f g (subst (λ z. Right z t f) fx first.2) (subst (λ z. Right z u g) gy second.2);
      served = served begun empty h s run;
      rounds = λ x g. seals_rounds begun empty h s run x g;
    }

-- ---- the next turn

-- an answer that is handed out now, beside one that was handed out before
module _ (b : Board) (ps : List Point) (live : List ℕ) (nodes : List Node) (l : Led b ps live nodes) where
  knows : Known l.history l.state
  knows = known l.begin l.history l.state l.empty l.run

  -- what is right under the seal that stands, beside what was handed out under it before, or is right now too
  beside : (tips : List (Option Spot)) (entries : List (Result Found Refusal))
      → ((tip : Option Spot) (f : Found) → Entered tips entries tip f → IsRight (standing l.history) tip f)
      → (tip : Option Spot) (f : Found) → Entered tips entries tip f
      → (x : Seal) × (standing l.history ≡ Some x) × Right x tip f
      × ((u : Option Spot) (g : Found) → Handed l.history u g (Some x) ⊎ Entered tips entries u g → Exactly (f.answer ≡ g.answer) (OneCell x tip u))
  beside tips entries all tip f e =
      let r = all tip f e in
      (r.0, r.1, r.2, λ u g. other r.0 r.1 r.2 u g)
    where
      other : (x : Seal) → standing l.history ≡ Some x → Right x tip f → (u : Option Spot) (g : Found)
          → Handed l.history u g (Some x) ⊎ Entered tips entries u g → Exactly (f.answer ≡ g.answer) (OneCell x tip u)
      other x st r u g (inl before) =
          let q = answers l.begin l.empty l.history l.state l.run u g (Some x) before in
          two_answers x tip u f g r (subst (λ z. Right z u g) (some_same (Some x) q.0 x q.1 refl) q.2)
      other x st r u g (inr now) =
          let q = all u g now in
          two_answers x tip u f g r (subst (λ z. Right z u g) (some_same (standing l.history) q.0 x q.1 st) q.2)

pub next_place : (b : Board) (ps : List Point) (live : List ℕ) (nodes : List Node) (tip : Option Spot) (said : Result Found Refusal)
    → said ≡ places b ps live nodes tip → RightNext b ps live nodes (tip ∷ []) (said ∷ [])
unfolding RightNext
next_place b ps live nodes tip said is l =
    beside b ps live nodes l (tip ∷ []) (said ∷ [])
    (λ t f e.
    let same : tip ≡ t = only tip t e.0 e.1 in
    let told : said ≡ Ok f = only said (Ok f) e.0 e.3 in
    subst (λ t. IsRight (standing l.history) t f) same
    (right_place l.history l.state (knows b ps live nodes l) tip f (subst Scaled (sym same) e.2)
    ((λ i. places (l.board i) (l.points i) (l.numbers i) (l.held i) tip) ∙ sym is ∙ told)))

pub next_list : (b : Board) (ps : List Point) (live : List ℕ) (nodes : List Node) (tips : List (Option Spot)) (room : ℕ) (es : List (Result Found Refusal))
    → lists b ps live nodes tips room ≡ Ok es → RightNext b ps live nodes tips es
unfolding RightNext
next_list b ps live nodes tips room es is l =
    beside b ps live nodes l tips es
    (λ t f e. right_list l.history l.state (knows b ps live nodes l) tips room e.0 es t f e.2
    ((λ i. lists (l.board i) (l.points i) (l.numbers i) (l.held i) tips room) ∙ is) e.1 e.3)

pub listed_length : (b : Board) (ps : List Point) (live : List ℕ) (nodes : List Node) (tips : List (Option Spot)) (room : ℕ) (es : List (Result Found Refusal))
    → lists b ps live nodes tips room ≡ Ok es → length es ≡ length tips
listed_length b ps live nodes tips room es is =
    let g = passed_by (is_sealed b.stage) _ _ es (passed_by (cond (nat_le (length tips) room) (round_room (length ps) (length live)) false) _ _ es is).1 in
    let same : list_said b.size 0 (points_in b ps) nodes (live_of b live) tips ≡ es = ok_same _ _ g.1 in
    ap length (sym same) ∙ list_length b.size (points_in b ps) nodes (live_of b live) 0 tips

pub list_right : (b : Board) (ps : List Point) (live : List ℕ) (nodes : List Node) (tips : List (Option Spot)) (room : ℕ) (said : Result (Unit {0}) Refusal)
    (table old : List (Result Found Refusal)) → said ≡ and_then (lists b ps live nodes tips room) (λ _. Ok tt)
    → table ≡ list_answers (lists b ps live nodes tips room) old → ListRight b ps live nodes tips table said
unfolding ListRight
list_right b ps live nodes tips room said table old told front =
    subst (λ (said : Result (Unit {0}) Refusal). IfOk said (λ _. RightNext b ps live nodes tips (take (length tips) table))) (sym told)
    (by_entries (lists b ps live nodes tips room) refl front)
  where
    by_entries : (x : Result (List (Result Found Refusal)) Refusal) → lists b ps live nodes tips room ≡ x → table ≡ list_answers x old
        → IfOk (and_then {Y = Unit {0}} x (λ _. Ok tt)) (λ _. RightNext b ps live nodes tips (take (length tips) table))
    by_entries (Ok es) is front =
        let n = listed_length b ps live nodes tips room es is in
        let same : take (length tips) table ≡ es = (λ i. take (sym n i) (front i)) ∙ take-append_seam es (drop (length es) old) in
        subst (RightNext b ps live nodes tips) (sym same) (next_list b ps live nodes tips room es is)
    by_entries (Err e) is front = tt

-- ---- a seal that is granted

-- no number has more digits than it says
few_digits : (halvings n : ℕ) → digits_within halvings n ≤ halvings
unfolding digits_within
few_digits zero n = omega arith
few_digits (suc h) zero = omega arith
few_digits (suc h) (suc n) = let d = few_digits h (suc n / 2) in omega (arith, d)

pub seal_few : (b : Board) (live : List ℕ) (nodes : List Node) (said : Result (Unit {0}) Refusal) → said ≡ seals b live nodes → SealFew b live nodes said
unfolding SealFew
seal_few b live nodes (Err e) is = tt
seal_few b live nodes (Ok u) is = λ ps l. few ps l
  where
    least : (n : ℕ) → n ≤ 65535 → min 65535 n ≡ n
    least n l = grind (arith)

    few : (ps : List Point) (l : Led b ps live nodes)
        → (s : Sheet) × (last_sheet l.history ≡ Some s) × (rounds_since l.history ≡ b.rounds) × (b.rounds ≤ 13 * digits (length s.inner))
    few ps l =
        let h = l.history in
        let s = l.state in
        let same : seals s.board s.live s.nodes ≡ Ok u = (λ i. seals (l.board i) (l.numbers i) (l.held i)) ∙ sym is in
        let p = passed_by (is_layered s.board.stage) _ _ u (passed_by (nat_le 2050 (length s.live)) _ _ u same).1 in
        let k = is_layering _ _ _ s.board s.points s.edges s.loops s.live s.nodes s.board.stage p.0 (knows b ps live nodes l) in
        let most : rounds_since h ≤ 13 * digits (length k.held.sheet.inner) =
        subst (λ n. n ≤ 13 * digits (length k.held.sheet.inner)) k.counted (rounds_are_few (length k.held.sheet.inner) k.built.rounds _ k.built.fell) in
        let d = few_digits (length k.held.sheet.inner) (length k.held.sheet.inner) in
        let legal = k.held.holds.legal.few in
        let small : rounds_since h ≤ 65535 = omega (arith, most, d, legal) in
        let ticked : rounds_since h ≡ b.rounds =
        sym (least (rounds_since h) small) ∙ sym ((keeps l.begin h s l.empty l.run).ticked p.0) ∙ ap (λ (b : Board). b.rounds) l.board in
        (k.held.sheet, k.held.loaded, ticked, subst (λ n. n ≤ 13 * digits (length k.held.sheet.inner)) ticked most)
