-- A history grows turn by turn, while the table of answers is filled behind what it holds.
use Rattle.std.proofs.Common.{◌≡◌, ℕ, zero, suc, ◌+◌, ◌-◌, ◌<◌, ◌≤◌, List, [], ◌∷◌, ◌++◌, Option, Result, drop, get_or, length, min, set, take, refl, sym, ap, ◌∙◌, subst, arith}
use borrow.Rule.Slice.PartMut.{mid_of, put_mid}
use Rattle.std.proofs.lemmas.Slice.{take-put_mid_below}
use Rattle.std.proofs.lemmas.List.{append-nil, drop-drop, drop-set-lt, drop-take, drop_all, drop_at, length-append, length-drop, length-take-le, take_all, take_more, take_more_set}
use Rattle.plane.specs.Points.{Spot}
use Rattle.refusal.specs.declared.Refusal.{Refusal}
use Rattle.walk.specs.declared.Found.{Found}
use Rattle.board.specs.Histories.{History, Runs, State, Step, event}
use Rattle.board.specs.Histories.Runs.{begin, turn}
use Rattle.board.specs.Histories.Told.{listed}
use Rattle.runs.specs.declared.turns.Outcome.{Outcome}
use Rattle.runs.specs.declared.turns.Outcome.TheVariants.{Answered, Granted, Refused}
use Rattle.runs.specs.declared.turns.Turn.{Turn}
use Rattle.runs.specs.declared.turns.Turn.TheVariants.{Check, Cut, List as Tips, Load, Place, Round, Seal, Wipe}
use Rattle.runs.specs.Plays.{all_filled, filled, history, history_on, listed_of, told_of, turn_of, where_granted}

abbrev Table : Type 0
Table = List (Result Found Refusal)

-- ---- tables that begin alike

-- so many entries in front are the same, and no table is longer
pub record Alike (n : ℕ) (xs ys : Table) : Type 0 where
  pub long : length xs ≡ length ys
  pub front : take n xs ≡ take n ys

take_less : (n m : ℕ) (xs : Table) → take n (take (n + m) xs) ≡ take n xs
take_less zero m xs = refl
take_less (suc n) m [] = let e : suc n + m ≡ suc (n + m) = omega arith in ap (λ k. take (suc n) (take k [])) e
take_less (suc n) m (x ∷ xs) =
    let e : suc n + m ≡ suc (n + m) = omega arith in
    ap (λ k. take (suc n) (take k (x ∷ xs))) e ∙ ap (λ l. x ∷ l) (take_less n m xs)

alike_front : (n m : ℕ) (xs ys : Table) → Alike (n + m) xs ys → take n xs ≡ take n ys
alike_front n m xs ys h = sym (take_less n m xs) ∙ ap (take n) h.front ∙ take_less n m ys

alike_rest : (n m : ℕ) (xs ys : Table) → Alike (n + m) xs ys → Alike m (drop n xs) (drop n ys)
alike_rest n m xs ys h =
    record {
      long = length-drop n xs ∙ ap (λ k. k - n) h.long ∙ sym (length-drop n ys);
      front = sym (drop-take n m xs) ∙ ap (drop n) h.front ∙ drop-take n m ys;
    }

-- ---- what a turn told

listed_same : (n m : ℕ) (o : Outcome) (xs ys : Table) → Alike (where_granted n o + m) xs ys → listed_of n o xs ≡ listed_of n o ys
listed_same n m Granted xs ys h = ap listed (alike_front n m xs ys h)
listed_same n m (Answered f) xs ys h = refl
listed_same n m (Refused e) xs ys h = refl

told_same : {K : Type 0} (t : Turn K) (o : Outcome) (m : ℕ) (xs ys : Table) → Alike (filled t o + m) xs ys → told_of t o xs ≡ told_of t o ys
told_same (Load file) o m xs ys h = refl
told_same Check o m xs ys h = refl
told_same Cut o m xs ys h = refl
told_same Round o m xs ys h = refl
told_same Seal o m xs ys h = refl
told_same (Place tip) o m xs ys h = refl
told_same (Tips tips) o m xs ys h = listed_same (length tips.now) m o xs ys h
told_same Wipe o m xs ys h = refl

module _ {K : Type 0} (means : K → Option Spot) where
  pub history_same : (h : History) (xs ys : Table) (ts : List (Turn K)) (os : List Outcome) → Alike (all_filled ts os) xs ys
      → history_on means h xs ts os ≡ history_on means h ys ts os
  unfolding history_on
  history_same h xs ys [] os a = refl
  history_same h xs ys (t ∷ ts) [] a = refl
  history_same h xs ys (t ∷ ts) (o ∷ os) a =
      let told = told_same t o (all_filled ts os) xs ys a in
      (λ i. history_on means (event (turn_of means (a.long i) t) (told i) ∷ h) (drop (filled t o) xs) ts os)
      ∙ history_same (event (turn_of means (length ys) t) (told_of t o ys) ∷ h) (drop (filled t o) xs) (drop (filled t o) ys) ts os (alike_rest (filled t o) (all_filled ts os) xs ys a)

  history_more : (h : History) (answers : Table) (ts : List (Turn K)) (os : List Outcome) (t : Turn K) (o : Outcome) → length ts ≡ length os
      → history_on means h answers (ts ++ t ∷ []) (os ++ o ∷ [])
      ≡ event (turn_of means (length (drop (all_filled ts os) answers)) t) (told_of t o (drop (all_filled ts os) answers)) ∷ history_on means h answers ts os
  unfolding history_on
  history_more h answers [] [] t o same = refl
  history_more h answers [] (p ∷ os) t o same = absurd (omega (arith, same))
  history_more h answers (u ∷ ts) [] t o same = absurd (omega (arith, same))
  history_more h answers (u ∷ ts) (p ∷ os) t o same =
      let next = event (turn_of means (length answers) u) (told_of u p answers) ∷ h in
      history_more next (drop (filled u p) answers) ts os t o (omega (arith, same))
      ∙ ap (λ rest. event (turn_of means (length rest) t) (told_of t o rest) ∷ history_on means next (drop (filled u p) answers) ts os) (drop-drop (all_filled ts os) (filled u p) answers)

  pub filled_more : (ts : List (Turn K)) (os : List Outcome) (t : Turn K) (o : Outcome) → length ts ≡ length os
      → all_filled (ts ++ t ∷ []) (os ++ o ∷ []) ≡ all_filled ts os + filled t o
  filled_more [] [] t o same = omega arith
  filled_more [] (p ∷ os) t o same = absurd (omega (arith, same))
  filled_more (u ∷ ts) [] t o same = absurd (omega (arith, same))
  filled_more (u ∷ ts) (p ∷ os) t o same = let rest = filled_more ts os t o (omega (arith, same)) in omega (arith, rest)

  -- one turn more
  module _ (turns : List (Turn K)) (outs : List Outcome) (i used : ℕ) (t : Turn K) (o : Outcome)
      (inside : i < length turns) (room : i < length outs) (is : t ≡ get_or turns i t) (count : used ≡ all_filled (take i turns) (take i outs)) where
    counts : length (take i turns) ≡ length (take i outs)
    counts = length-take-le i turns (omega (arith, inside)) ∙ sym (length-take-le i outs (omega (arith, room)))

    next_turns : take (i + 1) turns ≡ take i turns ++ t ∷ []
    next_turns = take_more turns i t inside ∙ ap (λ u. take i turns ++ u ∷ []) (sym is)

    next_outs : take (i + 1) (set outs i o) ≡ take i outs ++ o ∷ []
    next_outs = take_more_set outs i o room

    pub used_next : used + filled t o ≡ all_filled (take (i + 1) turns) (take (i + 1) (set outs i o))
    used_next =
        let more = filled_more (take i turns) (take i outs) t o counts in
        let all : all_filled (take (i + 1) turns) (take (i + 1) (set outs i o)) ≡ all_filled (take i turns ++ t ∷ []) (take i outs ++ o ∷ []) = λ k. all_filled (next_turns k) (next_outs k) in
        omega (arith, count, more, all)

    -- it was lent what is behind the entries that are filled, and those stay
    runs_next : (start s s' : State) (before after : Table) → Alike used before after → Runs start (history means (take i turns) (take i outs) before) s
        → Step s (turn_of means (length (drop used before)) t) (told_of t o (drop used after)) s'
        → Runs start (history means (take (i + 1) turns) (take (i + 1) (set outs i o)) after) s'
    runs_next start s s' before after alike run step =
        let h = history means (take i turns) (take i outs) before in
        let same : h ≡ history means (take i turns) (take i outs) after = history_same [] before after (take i turns) (take i outs) (subst (λ n. Alike n before after) count alike) in
        let long : length (drop used before) ≡ length (drop used after) = length-drop used before ∙ ap (λ n. n - used) alike.long ∙ sym (length-drop used after) in
        let e = event (turn_of means (length (drop used after)) t) (told_of t o (drop used after)) in
        let made : Runs start (e ∷ h) s' = turn h s s' _ _ run (subst (λ n. Step s (turn_of means n t) (told_of t o (drop used after)) s') long step) in
        let grown : history means (take (i + 1) turns) (take (i + 1) (set outs i o)) after ≡ e ∷ h =
        (λ k. history means (next_turns k) (next_outs k) after) ∙ history_more [] after (take i turns) (take i outs) t o counts
        ∙ (λ k. event (turn_of means (length (drop (sym count k) after)) t) (told_of t o (drop (sym count k) after)) ∷ sym same k) in
        subst (λ h. Runs start h s') (sym grown) made

-- what is lent is all that is behind the entries that are filled
lent_rest : (used : ℕ) (xs : Table) → mid_of used (length xs - used) xs ≡ drop used xs
lent_rest used xs = let n = length-drop used xs in take_all (length xs - used) (drop used xs) (omega (arith, n))

pub lent_long : (used : ℕ) (xs : Table) → length (mid_of used (length xs - used) xs) ≡ length xs - used
lent_long used xs = ap length (lent_rest used xs) ∙ length-drop used xs

-- and comes back there
module _ (used : ℕ) (xs ys : Table) (within : used ≤ length xs) (long : length ys ≡ length xs - used) where
  none_behind : drop (length xs - used) (drop used xs) ≡ []
  none_behind = let n = length-drop used xs in drop_all (length xs - used) (drop used xs) (omega (arith, n))

  pub put_rest : drop used (put_mid used (length xs - used) xs ys) ≡ ys
  put_rest = drop_at (take used xs) _ used (length-take-le used xs within) ∙ ap (λ l. ys ++ l) none_behind ∙ append-nil ys

  pub put_alike : Alike used xs (put_mid used (length xs - used) xs ys)
  put_alike =
      let rest = ap (λ l. length (ys ++ l)) none_behind ∙ ap length (append-nil ys) in
      let front = length-take-le used xs within in
      let all = length-append (take used xs) (ys ++ drop (length xs - used) (drop used xs)) in
      record { long = omega (arith, rest, front, all, long, within); front = sym (take-put_mid_below used (length xs - used) xs ys used (omega arith) within) }

module _ {K : Type 0} (means : K → Option Spot) (start : State) (turns : List (Turn K)) (outs : List Outcome) (xs ys : Table) (i used : ℕ) (s s' : State) (t : Turn K) (o : Outcome)
    (inside : i < length turns) (room : i < length outs) (is : t ≡ get_or turns i t) (count : used ≡ all_filled (take i turns) (take i outs))
    (within : used ≤ length xs) (long : length ys ≡ length xs - used) where
  pub played_next : Runs start (history means (take i turns) (take i outs) xs) s
      → Step s (turn_of means (length (mid_of used (length xs - used) xs)) t) (told_of t o ys) s'
      → Runs start (history means (take (i + 1) turns) (take (i + 1) (set outs i o)) (put_mid used (length xs - used) xs ys)) s'
  played_next run step =
      let lent = lent_rest used xs in
      let back = sym (put_rest used xs ys within long) in
      runs_next means turns outs i used t o inside room is count start s s' xs (put_mid used (length xs - used) xs ys) (put_alike used xs ys within long) run
      (subst (λ rest. Step s (turn_of means (length (drop used xs)) t) (told_of t o rest) s') back (subst (λ rest. Step s (turn_of means (length rest) t) (told_of t o ys) s') lent step))

-- ---- what stands behind stays

-- what is the same behind a place is so behind a later one
pub behind : {X : Type 0} (i n : ℕ) (xs ys : List X) → i ≤ n → drop i xs ≡ drop i ys → drop n xs ≡ drop n ys
behind i n xs ys l h =
    let e : i + (n - i) ≡ n = omega (arith, l) in
    ap (λ k. drop k xs) (sym e) ∙ sym (drop-drop (n - i) i xs) ∙ ap (drop (n - i)) h ∙ drop-drop (n - i) i ys ∙ ap (λ k. drop k ys) e

pub outcomes_next : (i : ℕ) (before outs : List Outcome) (o : Outcome) → drop i outs ≡ drop i before → drop (i + 1) (set outs i o) ≡ drop (i + 1) before
outcomes_next i before outs o h = drop-set-lt (i + 1) outs i o (omega arith) ∙ behind i (i + 1) outs before (omega arith) h

-- a turn that leaves all behind its own entries leaves all behind them in the whole table
pub rest_next : (used n : ℕ) (before xs ys : Table) → used ≤ length xs → length ys ≡ length xs - used → drop n ys ≡ drop n (mid_of used (length xs - used) xs)
    → drop used xs ≡ drop used before → drop (used + n) (put_mid used (length xs - used) xs ys) ≡ drop (used + n) before
rest_next used n before xs ys within long same rest =
    sym (drop-drop n used (put_mid used (length xs - used) xs ys)) ∙ ap (drop n) (put_rest used xs ys within long) ∙ same
    ∙ ap (drop n) (lent_rest used xs ∙ rest) ∙ drop-drop n used before

pub filled_whole : {K : Type 0} (n : ℕ) (ts : List (Turn K)) (os : List Outcome) → min (length ts) (length os) ≤ n → all_filled (take n ts) (take n os) ≡ all_filled ts os
filled_whole zero [] os few = refl
filled_whole zero (t ∷ ts) [] few = refl
filled_whole zero (t ∷ ts) (o ∷ os) few = absurd (omega (arith, few))
filled_whole (suc n) [] os few = refl
filled_whole (suc n) (t ∷ ts) [] few = refl
filled_whole (suc n) (t ∷ ts) (o ∷ os) few = ap (λ k. filled t o + k) (filled_whole n ts os (omega (arith, few)))

-- as many turns as have outcomes are all of the history
module _ {K : Type 0} (means : K → Option Spot) where
  pub history_whole : (n : ℕ) (h : History) (answers : Table) (ts : List (Turn K)) (os : List Outcome) → min (length ts) (length os) ≤ n
      → history_on means h answers (take n ts) (take n os) ≡ history_on means h answers ts os
  unfolding history_on
  history_whole zero h answers [] os few = refl
  history_whole zero h answers (t ∷ ts) [] few = refl
  history_whole zero h answers (t ∷ ts) (o ∷ os) few = absurd (omega (arith, few))
  history_whole (suc n) h answers [] os few = refl
  history_whole (suc n) h answers (t ∷ ts) [] few = refl
  history_whole (suc n) h answers (t ∷ ts) (o ∷ os) few =
      history_whole n (event (turn_of means (length answers) t) (told_of t o answers) ∷ h) (drop (filled t o) answers) ts os (omega (arith, few))

  pub begun : (start : State) (answers : Table) → Runs start (history means [] [] answers) start
  unfolding history_on
  begun start answers = begin

  pub runs_whole : (start s : State) (n : ℕ) (answers : Table) (ts : List (Turn K)) (os : List Outcome) → min (length ts) (length os) ≤ n
      → Runs start (history means (take n ts) (take n os) answers) s → Runs start (history means ts os answers) s
  runs_whole start s n answers ts os few run = subst (λ h. Runs start h s) (history_whole n [] answers ts os few) run
