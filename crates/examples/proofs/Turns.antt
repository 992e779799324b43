-- The worked examples of turns: what the definitions compute of these files, carried to tables of any lengths that serve.
use Rattle.std.proofs.Common.{◌≡◌, ℕ, ◌≤◌, true, false, cond, nat_lt, List, [], ◌∷◌, length, Ok, Err, Result, refl, ap, ◌∙◌, arith}
use Rattle.std.proofs.lemmas.Bool.{cond-true}
use Rattle.std.proofs.lemmas.Bool.Decides.{nat_tests}
use Rattle.std.proofs.lemmas.List.{length-append, length-drop}
use Rattle.lent.specs.Kept.{over}
use Rattle.plane.specs.Points.{along, det}
use Rattle.reader.specs.Kinds.{wording}
use Rattle.reader.specs.Reading.{several}
use Rattle.refusal.specs.declared.Cause.TheVariants.{EdgeTwice, NoneLeft, StoreFull}
use Rattle.refusal.specs.declared.Layer.TheVariants.{Build, Check}
use Rattle.refusal.specs.declared.Refusal.{Refusal}
use Rattle.refusal.specs.Numbers.{refused}
use Rattle.sheet.specs.Files.{contents, head, label, labels, ring, sheet}
use Rattle.sheet.specs.Load.{sheet_of}
use Rattle.sheet.specs.Sheets.{Sheet, edges_of, loops_of, points_of, size_of}
use Rattle.rules.specs.Broken as broken
use Rattle.rules.specs.Rules.{first_broken}
use Rattle.checking.specs.Checks.{SheetChecked, check_room, check_said, passes}
use Rattle.checking.proofs.Loaded.{loaded_is_held}
use Rattle.checking.proofs.Told.{sheet_told}
use Rattle.checking.proofs.Unaltered.{one_held}
use Rattle.ears.specs.Ears.{cut_by, cut_of, is_ear}
use Rattle.fans.specs.Around.{around}
use Rattle.fans.specs.Fans.{fan_from}
use Rattle.bottom.specs.Bottom.{bottom_of, cut_loops}
use Rattle.bottom.specs.Cuts.{build_room, cut_live, cut_said, or_wrong, sheet_cut}
use Rattle.rounds.specs.Choices.{closings, look_from}
use Rattle.rounds.specs.Rounds.{round_said}
use Rattle.hierarchy.specs.Examples.{plain, plain_bottom}
use Rattle.board.specs.Turns.{bare, is_loaded, load_board, round_room}
use Rattle.examples.specs.Spring.{spring, spring_file}
use Rattle.examples.specs.Turns.{CutThenRound, LoadThenCheck, TurnExamples, plain_file, turned_file}

-- ---- tables that were written over are as long as before, or longer

longer : {X : Type 0} (xs items : List X) → length items ≤ length (over xs items)
longer xs items = simp (length-append, length-drop) (omega arith)

check_room_of : (p e l m p' e' l' strokes : ℕ) → build_room p e l m ≡ true → 3077 ≤ strokes → p ≤ p' → e ≤ e' → l ≤ l' → check_room p' e' l' strokes ≡ true
check_room_of p e l m p' e' l' strokes h k hp he hl = grind (arith, nat_tests)

build_room_of : (p e l m p' e' l' : ℕ) → build_room p e l m ≡ true → p ≤ p' → e ≤ e' → l ≤ l' → build_room p' e' l' m ≡ true
build_room_of p e l m p' e' l' h hp he hl = grind (arith, nat_tests)

round_room_of : (p e l m p' m' : ℕ) → build_room p e l m ≡ true → p ≤ p' → m ≤ m' → round_room p' m' ≡ true
round_room_of p e l m p' m' h hp hm = grind (arith, nat_tests)

-- ---- load and check

load_then_check : (file : List ℕ) (s : Sheet) (said : Result (Unit {0}) Refusal) → sheet_of file ≡ Ok s → is_loaded (load_board (Ok s) bare) ≡ true
    → passes (first_broken s) ≡ said → LoadThenCheck file s said
unfolding SheetChecked
load_then_check file s said taken loaded tells ps es ls live strokes h k =
    let P = over (points_of s) ps in
    let E = over (edges_of s) es in
    let L = over (loops_of s) ls in
    let room : check_room (length P) (length E) (length L) strokes ≡ true =
    check_room_of _ _ _ _ (length P) (length E) (length L) strokes h k (longer (points_of s) ps) (longer (edges_of s) es) (longer (loops_of s) ls) in
    let holds = loaded_is_held file s ps es ls taken in (
      cond-true _ _ _ h ∙ taken,
      cond-true _ _ _ room ∙ cond-true _ _ _ loaded ∙ sheet_told (size_of s) P E L strokes (check_said (size_of s) P E L) refl s holds room ∙ tells,
    )

spring_taken : sheet_of spring_file ≡ Ok spring
unfolding sheet_of contents head label labels ring several sheet wording
spring_taken = refl

turned_taken : sheet_of turned_file ≡ Ok (broken.spring (7 ∷ 6 ∷ 5 ∷ 4 ∷ []))
unfolding sheet_of contents head label labels ring several sheet wording
turned_taken = refl

plain_taken : sheet_of plain_file ≡ Ok plain
unfolding sheet_of contents head label labels ring several sheet wording
plain_taken = refl

spring_passes : passes (first_broken spring) ≡ Ok tt
unfolding along det
spring_passes = refl

turned_told : passes (first_broken (broken.spring (7 ∷ 6 ∷ 5 ∷ 4 ∷ []))) ≡ Err (refused EdgeTwice Check 6)
unfolding along det
turned_told = refl

plain_passes : passes (first_broken plain) ≡ Ok tt
unfolding along det
plain_passes = refl

-- ---- cut and round

plain_cuts : (room : ℕ) → 2 ≤ room → sheet_cut room plain ≡ Ok plain_bottom.nodes
unfolding bottom_of cut_loops cut_of cut_by is_ear along det
plain_cuts room h = ap (λ b. cond b (Err (refused StoreFull Build 2)) (Ok plain_bottom.nodes)) (few room h)
  where
    few : (room : ℕ) → 2 ≤ room → nat_lt room 2 ≡ false
    few room h = grind (arith, nat_tests)

plain_round : (room table : ℕ) → round_said (size_of plain) (points_of plain) plain_bottom.nodes (0 ∷ 1 ∷ []) 0 room table ≡ Err (refused NoneLeft Build 0)
unfolding round_said bottom_of cut_loops cut_of cut_by is_ear around fan_from closings look_from along det
plain_round room table = refl

cut_then_round : CutThenRound
unfolding cut_said bottom_of cut_loops cut_of cut_by is_ear along det
cut_then_round ps es ls live room h k =
    let P = over (points_of plain) ps in
    let E = over (edges_of plain) es in
    let L = over (loops_of plain) ls in
    let build = build_room_of _ _ _ _ (length P) (length E) (length L) h (longer (points_of plain) ps) (longer (edges_of plain) es) (longer (loops_of plain) ls) in
    let held = one_held (size_of plain) P E L plain (loaded_is_held plain_file plain ps es ls plain_taken) in
    let live' = cut_live (Ok plain_bottom.nodes) live in
    let round = round_room_of (length ps) (length es) (length ls) (length live) (length P) (length live') h (longer (points_of plain) ps) (longer (0 ∷ 1 ∷ []) live) in (
      cond-true _ _ _ build ∙ (λ i. or_wrong (held.0 i) (sheet_cut room (held.1 i))) ∙ plain_cuts room k,
      cond-true _ _ _ round ∙ plain_round room (length live'),
    )

pub turn_examples : TurnExamples
unfolding bottom_of cut_loops cut_of cut_by is_ear along det
turn_examples =
    record {
      passes = load_then_check spring_file spring (Ok tt) spring_taken refl spring_passes;
      turned = load_then_check turned_file (broken.spring (7 ∷ 6 ∷ 5 ∷ 4 ∷ [])) (Err (refused EdgeTwice Check 6)) turned_taken refl turned_told;
      plain_passes = load_then_check plain_file plain (Ok tt) plain_taken refl plain_passes;
      plain_cut = cut_then_round;
      plain_triangles = refl;
    }
