-- What is told of a sheet is the first rule that is broken, at its first place.
use Rattle.std.proofs.Common.{◌≡◌, ℕ, suc, ◌<◌, List, [], ◌∷◌, get_or, Option, Some, None, refl, sym, ap, ◌∙◌, subst, inl, inr, arith}
use Rattle.std.proofs.lemmas.Bool.{cases_order}
use Rattle.refusal.specs.declared.Cause.{Cause}
use Rattle.refusal.specs.declared.Cause.TheVariants.{FileEnds, BadNumber, BadEdition, BadSize, OverLimit, VertexOutside, BadCornerCount, NoSuchVertex, BadNumeral, BadWording, BytesLeft, TableTooShort, LoopSum, SamePoint, VertexTwice, EdgeTwice, NoReverse, VertexUnused, EdgesTouch, LoopTurned, Stuck, StoreFull, VerticesLeft, NoneLeft, UnfitTip, OffSheet, OutOfRange, NotThisStage}
use Rattle.refusal.specs.declared.Refusal.{Refusal}
use Rattle.refusal.specs.Numbers.{number}
use Rattle.sheet.specs.Sheets.{Sheet}
use Rattle.rules.specs.Rules.{edges_broken, first_broken, loops_broken, or_else, points_broken, reverses_broken, strokes_broken, sum_broken, told, turns_broken, vertices_broken}
use Rattle.rules.specs.Sound.{Breaks, FirstBroken, KeepsRules, Rule, RulesTell}
use Rattle.rules.proofs.Places.{IsFirst}
use Rattle.rules.proofs.RulePlaces.{edges_first, loops_first, points_first, reverses_first, strokes_first, sum_first, turns_first, vertices_first}
use Rattle.rules.proofs.RulesKept.{corners_kept, corners_unbroken, edges_kept, edges_unbroken, listed_kept, listed_unbroken, points_kept, points_unbroken, reverses_kept, reverses_unbroken, sum_kept, sum_unbroken, turns_kept, turns_unbroken, used_kept, used_unbroken}

-- ---- causes by their numbers

abbrev causes : List Cause
causes =
    FileEnds ∷ FileEnds ∷ BadNumber ∷ BadEdition ∷ BadSize ∷ OverLimit ∷ VertexOutside ∷ BadCornerCount ∷ NoSuchVertex ∷ BadNumeral ∷ BadWording
    ∷ BytesLeft ∷ TableTooShort ∷ LoopSum ∷ SamePoint ∷ VertexTwice ∷ EdgeTwice ∷ NoReverse ∷ VertexUnused ∷ EdgesTouch ∷ LoopTurned ∷ Stuck
    ∷ StoreFull ∷ VerticesLeft ∷ NoneLeft ∷ UnfitTip ∷ OffSheet ∷ OutOfRange ∷ NotThisStage ∷ []

numbered : (c : Cause) → get_or causes (number c) FileEnds ≡ c
numbered FileEnds = refl
numbered _ = refl

one_cause : (c d : Cause) → number c ≡ number d → c ≡ d
one_cause c d e = sym (numbered c) ∙ ap (λ n. get_or causes n FileEnds) e ∙ numbered d

-- ---- each rule, by its cause

broken_by : Sheet → Cause → Option ℕ
broken_by s LoopSum = sum_broken s
broken_by s SamePoint = points_broken s
broken_by s VertexTwice = loops_broken s
broken_by s EdgeTwice = edges_broken s
broken_by s NoReverse = reverses_broken s
broken_by s VertexUnused = vertices_broken s
broken_by s EdgesTouch = strokes_broken s
broken_by s LoopTurned = turns_broken s
broken_by s _ = None

module _ (s : Sheet) where
  Before : Cause → Type 0
  Before c = (d : Cause) → number d < number c → Rule s d

  first_by : (c : Cause) → IsFirst (Breaks s c) (broken_by s c)
  unfolding broken_by
  first_by LoopSum = sum_first s
  first_by SamePoint = points_first s
  first_by VertexTwice = loops_first s
  first_by EdgeTwice = edges_first s
  first_by NoReverse = reverses_first s
  first_by VertexUnused = vertices_first s
  first_by EdgesTouch = strokes_first s
  first_by LoopTurned = turns_first s
  first_by _ = λ k b. b

  -- no place breaks it, and it is kept
  kept_by : (c : Cause) → ((k : ℕ) → ¬ (Breaks s c k)) → Rule s c
  kept_by LoopSum = sum_kept s
  kept_by SamePoint = points_kept s
  kept_by VertexTwice = corners_kept s
  kept_by EdgeTwice = listed_kept s
  kept_by NoReverse = reverses_kept s
  kept_by VertexUnused = used_kept s
  kept_by EdgesTouch = edges_kept s
  kept_by LoopTurned = turns_kept s
  kept_by _ = λ h. tt

  -- and back
  unbroken_by : (c : Cause) → Before c → Rule s c → (k : ℕ) → ¬ (Breaks s c k)
  unfolding Before
  unbroken_by LoopSum before = sum_unbroken s
  unbroken_by SamePoint before = points_unbroken s
  unbroken_by VertexTwice before = corners_unbroken s
  unbroken_by EdgeTwice before = listed_unbroken s
  unbroken_by NoReverse before = reverses_unbroken s
  unbroken_by VertexUnused before = used_unbroken s
  unbroken_by EdgesTouch before = edges_unbroken s (before EdgeTwice (omega arith))
  unbroken_by LoopTurned before = turns_unbroken s
  unbroken_by _ before = λ rule k b. b

  -- ---- one rule after the other

  -- all rules are kept where nothing is told, and else what is told is the first that is broken
  Told : Option Refusal → Type 0
  Told None = (c : Cause) → Rule s c
  Told (Some e) = FirstBroken s e

  Below : ℕ → Type 0
  Below n = (d : Cause) → number d < n → Rule s d

  one_more : (c : Cause) → Below (number c) → Rule s c → Below (suc (number c))
  unfolding Below
  one_more c below rule d h = elim (cases_order (number d) (number c)) [
    | inl e ↦ subst (Rule s) (one_cause c d (sym e)) rule
    | inr (inl l) ↦ below d l
    | inr (inr l) ↦ absurd (omega arith)
  ]

  step : (c : Cause) (next : Option Refusal) → Below (number c) → (Below (suc (number c)) → Told next) → Told (or_else (told c (broken_by s c)) next)
  unfolding Told Below
  step c next below after =
      elim (broken_by s c) as (λ o. IsFirst (Breaks s c) o → Told (or_else (told c o) next)) [
        | None ↦ λ none. after (one_more c below (kept_by c none))
        | Some k ↦ λ first. record { layer = refl; rules_before = below; broken = first.here; places_before = first.none_before }
      ] (first_by c)

  -- none of the causes below 13 stands for a rule, and none from 21 on
  below_13 : Below 13
  unfolding Below
  below_13 LoopSum h = absurd (omega arith)
  below_13 SamePoint h = absurd (omega arith)
  below_13 VertexTwice h = absurd (omega arith)
  below_13 EdgeTwice h = absurd (omega arith)
  below_13 NoReverse h = absurd (omega arith)
  below_13 VertexUnused h = absurd (omega arith)
  below_13 EdgesTouch h = absurd (omega arith)
  below_13 LoopTurned h = absurd (omega arith)
  below_13 _ h = tt

  from_21 : Below 21 → (c : Cause) → Rule s c
  unfolding Below
  from_21 below LoopSum = below LoopSum (omega arith)
  from_21 below SamePoint = below SamePoint (omega arith)
  from_21 below VertexTwice = below VertexTwice (omega arith)
  from_21 below EdgeTwice = below EdgeTwice (omega arith)
  from_21 below NoReverse = below NoReverse (omega arith)
  from_21 below VertexUnused = below VertexUnused (omega arith)
  from_21 below EdgesTouch = below EdgesTouch (omega arith)
  from_21 below LoopTurned = below LoopTurned (omega arith)
  from_21 below _ = tt

  none_next : (o : Option Refusal) → or_else o None ≡ o
  none_next None = refl
  none_next (Some e) = refl

  tells : Told (first_broken s)
  unfolding broken_by Told
  tells =
      step LoopSum _ below_13 (λ b₁.
      step SamePoint _ b₁ (λ b₂.
      step VertexTwice _ b₂ (λ b₃.
      step EdgeTwice _ b₃ (λ b₄.
      step NoReverse _ b₄ (λ b₅.
      step VertexUnused _ b₅ (λ b₆.
      step EdgesTouch _ b₆ (λ b₇.
      subst Told (none_next (told LoopTurned (turns_broken s))) (step LoopTurned None b₇ from_21))))))))

  -- ---- the record of eight

  keeps : ((c : Cause) → Rule s c) → KeepsRules s
  keeps all =
      record {
        loop_sum = all LoopSum;
        points = all SamePoint;
        corners = all VertexTwice;
        listed = all EdgeTwice;
        reverses = all NoReverse;
        used = all VertexUnused;
        apart = all EdgesTouch;
        turned = all LoopTurned;
      }

  kept_all : KeepsRules s → (c : Cause) → Rule s c
  kept_all k LoopSum = k.loop_sum
  kept_all k SamePoint = k.points
  kept_all k VertexTwice = k.corners
  kept_all k EdgeTwice = k.listed
  kept_all k NoReverse = k.reverses
  kept_all k VertexUnused = k.used
  kept_all k EdgesTouch = k.apart
  kept_all k LoopTurned = k.turned
  kept_all k _ = tt

  -- ---- there is one first

  none_first : ((c : Cause) → Rule s c) → (e : Refusal) → ¬ (FirstBroken s e)
  unfolding Before
  none_first all e f = unbroken_by e.cause (λ d _. all d) (all e.cause) e.place f.broken

  not_sooner : (e f : Refusal) → FirstBroken s e → FirstBroken s f → number e.cause < number f.cause → ⊥
  unfolding Before
  not_sooner e f x y l = unbroken_by e.cause x.rules_before (y.rules_before e.cause l) e.place x.broken

  one_first : (e f : Refusal) → FirstBroken s e → FirstBroken s f → e ≡ f
  one_first e f x y =
      let number_is : number e.cause ≡ number f.cause = elim (cases_order (number e.cause) (number f.cause)) [
        | inl q ↦ q
        | inr (inl l) ↦ absurd (not_sooner e f x y l)
        | inr (inr l) ↦ absurd (not_sooner f e y x l)
      ] in
      let cause : e.cause ≡ f.cause = one_cause e.cause f.cause number_is in
      let place : e.place ≡ f.place = elim (cases_order e.place f.place) [
        | inl q ↦ q
        | inr (inl l) ↦ absurd (y.places_before e.place l (subst (λ c. Breaks s c e.place) cause x.broken))
        | inr (inr l) ↦ absurd (x.places_before f.place l (subst (λ c. Breaks s c f.place) (sym cause) y.broken))
      ] in
      let layer : e.layer ≡ f.layer = x.layer ∙ sym y.layer in
      λ i. record { cause = cause i; layer = layer i; place = place i }

  -- ---- an answer that says so, and the one that is told

  none_told : (o : Option Refusal) → Told o → o ≡ None → KeepsRules s
  unfolding Told
  none_told None h e = keeps h
  none_told (Some x) h e = cc

  told_none : (o : Option Refusal) → Told o → KeepsRules s → o ≡ None
  unfolding Told
  told_none None h k = refl
  told_none (Some e) h k = absurd (none_first (kept_all k) e h)

  some_told : (o : Option Refusal) (e : Refusal) → Told o → o ≡ Some e → FirstBroken s e
  unfolding Told
  some_told None e h q = cc
  some_told (Some x) e h q = let same : x ≡ e = cc q in subst (FirstBroken s) same h

  told_some : (o : Option Refusal) (e : Refusal) → Told o → FirstBroken s e → o ≡ Some e
  unfolding Told
  told_some None e h f = absurd (none_first h e f)
  told_some (Some x) e h f = ap Some (one_first x e h f)

pub rules_tell : RulesTell
unfolding Before
rules_tell s =
    record {
      none = (none_told s (first_broken s) (tells s), told_none s (first_broken s) (tells s));
      some = λ e. (some_told s (first_broken s) e (tells s), told_some s (first_broken s) e (tells s));
      places = λ c before. (unbroken_by s c before, kept_by s c);
    }
