-- The labels that were read so far, and all labels, read step by step.
use Rattle.std.proofs.Common.{◌≡◌, ℕ, ◌<◌, Bool, true, false, cond, eqb, ◌≢◌, List, [], ◌∷◌, ◌++◌, length, get_or, set, replicate, Some, None, Ok, Err, Option, Result, sym, refl, ap, ◌∙◌, ⊎_elim, arith, eq-eqb, ne_eqb}
use borrow.Author.Tests.{clash}
use Rattle.std.proofs.lemmas.List.{get_or-replicate, get_or-set_same, get_or-set_other}
use Rattle.std.specs.Option.{option_eq}
use Rattle.std.proofs.lemmas.Bool.{eqb-true, cases_Bool, cases_eq, cond-true, cond-false}
use Rattle.refusal.specs.declared.Refusal.{Refusal}
use Rattle.sheet.specs.declared.tables.Label.{Label}
use Rattle.sheet.specs.Files.{label_with, find_wanted, label, labelled, labels, Marked}
use Rattle.reader.specs.Kinds as kind
use Rattle.reader.specs.Reading.{and_then, several}

labelled_push : (m : ℕ) (ls : List Label) (l : Label) → labelled m (ls ++ l ∷ []) ≡ cond (labelled m ls) true (eqb m l.numeral)
labelled_push m [] l = elim (eqb m l.numeral) as (λ b. cond b true false ≡ b) [ true ↦ refl | false ↦ refl ]
labelled_push m (k ∷ ls) l = elim (eqb m k.numeral) as (λ b. cond b true (labelled m (ls ++ l ∷ [])) ≡ cond (cond b true (labelled m ls)) true (eqb m l.numeral)) [ true ↦ refl | false ↦ labelled_push m ls l ]

find_push : (m : ℕ) (ls : List Label) (l : Label) → label_with m (ls ++ l ∷ []) ≡ cond (labelled m ls) (label_with m ls) (cond (eqb m l.numeral) (Some l) None)
find_push m [] l = refl
find_push m (k ∷ ls) l = elim (eqb m k.numeral) as (λ b. cond b (Some k) (label_with m (ls ++ l ∷ [])) ≡ cond (cond b true (labelled m ls)) (cond b (Some k) (label_with m ls)) (cond (eqb m l.numeral) (Some l) None)) [ true ↦ refl | false ↦ find_push m ls l ]

find_none : (m : ℕ) (ls : List Label) → labelled m ls ≡ false → label_with m ls ≡ None
find_none m [] h = refl
find_none m (k ∷ ls) h =
    (elim (eqb m k.numeral) as (λ b. cond b true (labelled m ls) ≡ false → cond b (Some k) (label_with m ls) ≡ None)
    [ true ↦ λ e. absurd (clash (sym e)) | false ↦ λ e. find_none m ls e ])
    h

-- the labels so far: their numerals are marked, and the wanted one is found
pub record Found (wanted : Option ℕ) (flags : List Bool) (found : Option Label) (ls : List Label) : Type 0 where
  pub marked : Marked flags ls
  pub finds : found ≡ find_wanted wanted ls

pub found_none : (wanted : Option ℕ) → Found wanted (replicate 256 false) None []
found_none wanted =
    record {
      marked = λ m h. get_or-replicate 256 m false false h;
      finds = elim wanted as (λ w. None ≡ find_wanted w []) [ None ↦ refl | Some m ↦ refl ];
    }

-- what the test of a numeral against the wanted one says
pub is_wanted : (w : Option ℕ) (n : ℕ) → true ≡ option_eq eqb w (Some n) → w ≡ Some n
is_wanted None n e = absurd (clash (sym e))
is_wanted (Some m) n e = ap Some (eqb-true m n (sym e))

pub not_wanted : (w : Option ℕ) (n : ℕ) → false ≡ option_eq eqb w (Some n) → w ≢ Some n
not_wanted w n e h = clash (e ∙ ap (λ w. option_eq eqb w (Some n)) h ∙ eq-eqb n n refl)

-- one more, behind labels that lack its numeral
module _ (wanted : Option ℕ) (flags : List Bool) (found : Option Label) (ls : List Label) (f : Found wanted flags found ls) (l : Label)
    (small : l.numeral < 256) (long : length flags ≡ 256) (fresh : get_or flags l.numeral false ≡ false) where
  new : labelled l.numeral ls ≡ false
  new = sym (f.marked l.numeral small) ∙ fresh

  marks : Marked (set flags l.numeral true) (ls ++ l ∷ [])
  marks m h =
      let p = labelled_push m ls l in
      ⊎_elim
      (λ (e : m ≡ l.numeral).
      let t : eqb m l.numeral ≡ true = eq-eqb m l.numeral e in
      let lt : l.numeral < length flags = omega arith in
      let g : get_or (set flags l.numeral true) m false ≡ true = rw e (get_or-set_same flags l.numeral true false lt) in
      g ∙ sym (p ∙ ap (λ b. cond (labelled m ls) true b) t ∙ elim (labelled m ls) as (λ b. cond b true true ≡ true) [ true ↦ refl | false ↦ refl ]))
      (λ (n : m ≢ l.numeral).
      let t : eqb m l.numeral ≡ false = ne_eqb m l.numeral n in
      get_or-set_other flags l.numeral m true false n ∙ f.marked m h
      ∙ sym (p ∙ ap (λ b. cond (labelled m ls) true b) t ∙ elim (labelled m ls) as (λ b. cond b true false ≡ b) [ true ↦ refl | false ↦ refl ]))
      (cases_eq m l.numeral)

  found_same : (found' : Option Label) → found' ≡ Some l → found' ≡ label_with l.numeral (ls ++ l ∷ [])
  found_same found' s = s ∙ sym (find_push l.numeral ls l ∙ cond-false _ _ _ new ∙ cond-true _ _ _ (eq-eqb l.numeral l.numeral refl))

  pub found_here : (flags' : List Bool) (found' : Option Label) → flags' ≡ set flags l.numeral true → wanted ≡ Some l.numeral → found' ≡ Some l → Found wanted flags' found' (ls ++ l ∷ [])
  found_here flags' found' e h s = record { marked = rw e marks; finds = rw h (found_same found' s) }

  pub found_other : (flags' : List Bool) → flags' ≡ set flags l.numeral true → wanted ≢ Some l.numeral → Found wanted flags' found (ls ++ l ∷ [])
  found_other flags' e h = record { marked = rw e marks; finds = f.finds ∙ same wanted h }
    where
      as_before : (m : ℕ) (ks : List Label) → cond (labelled m ks) (label_with m ks) None ≡ label_with m ks
      as_before m ks = ⊎_elim (λ t. cond-true _ _ _ t) (λ t. cond-false _ _ _ t ∙ sym (find_none m ks t)) (cases_Bool (labelled m ks))

      same : (w : Option ℕ) → w ≢ Some l.numeral → find_wanted w ls ≡ find_wanted w (ls ++ l ∷ [])
      same None n = refl
      same (Some m) n =
          let t : eqb m l.numeral ≡ false = ne_eqb m l.numeral (λ q. n (ap Some q)) in
          sym (find_push m ls l ∙ ap (λ o. cond (labelled m ls) (label_with m ls) o) (cond-false _ _ _ t) ∙ as_before m ls)

module _ {Y : Type 0} (file : List ℕ) (at : ℕ) (go : List Label → Result Y Refusal) where
  module _ (n at₁ : ℕ) (file₁ : List ℕ) (h₁ : Ok (n, at₁) ≡ kind.count 255 file at) (f₁ : file₁ ≡ file) where
    pub stops_label : (e : Refusal) → several (label file₁) [] n at₁ ≡ Err e → and_then (labels file at) go ≡ Err e
    unfolding labels
    stops_label e h = rw (← h₁, ← f₁, h) refl

    module _ (ls : List Label) (at₂ : ℕ) (file₂ : List ℕ) (h₂ : several (label file₁) [] n at₁ ≡ Ok (ls, at₂)) (f₂ : file₂ ≡ file₁) where
      pub stops_end : (e : Refusal) → Err e ≡ kind.finish file₂ at₂ → and_then (labels file at) go ≡ Err e
      unfolding labels
      stops_end e h = rw (← h₁, ← f₁, h₂, ← f₂, ← h) refl

      pub ends : Ok tt ≡ kind.finish file₂ at₂ → and_then (labels file at) go ≡ go ls
      unfolding labels
      ends h = rw (← h₁, ← f₁, h₂, ← f₂, ← h) refl
