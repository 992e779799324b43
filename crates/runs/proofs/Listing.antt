-- A list as a step.
use Rattle.std.proofs.Common.{◌≡◌, ℕ, List, Ok, Err, Result, drop, length, take, refl, sym, ap, ◌∙◌}
use Rattle.std.proofs.Math.Seq.{take-append_seam}
use Rattle.reader.specs.Reading.{and_then}
use Rattle.refusal.specs.declared.Refusal.{Refusal}
use Rattle.walk.specs.declared.Found.{Found}
use Rattle.board.specs.Histories.{listed_by, told_by}
use Rattle.board.specs.Histories.Told.{listed}
use Rattle.board.specs.Turns.{list_answers}
use Rattle.runs.specs.declared.turns.Outcome.{Outcome}
use Rattle.runs.specs.declared.turns.Outcome.TheVariants.{Answered, Granted, Refused}
use Rattle.std.proofs.lemmas.List.{drop_at}
use Rattle.runs.specs.Plays.{listed_of, outcome_of, where_granted}

-- the entries behind those of its tips stay
pub listed_rest : (n : ℕ) (o : Outcome) (x : Result (List (Result Found Refusal)) Refusal) (table old : List (Result Found Refusal))
    → ((es : List (Result Found Refusal)) → x ≡ Ok es → length es ≡ n)
    → outcome_of o ≡ told_by (and_then {Y = Unit {0}} x (λ _. Ok tt)) → table ≡ list_answers x old → drop (where_granted n o) table ≡ drop (where_granted n o) old
listed_rest n Granted (Ok es) table old count told front =
    let long = count es refl in
    ap (drop n) front ∙ drop_at es (drop (length es) old) n long ∙ ap (λ k. drop k old) long
listed_rest n Granted (Err e) table old count told front = cc
listed_rest n (Answered f) (Ok es) table old count told front = cc
listed_rest n (Answered f) (Err e) table old count told front = front
listed_rest n (Refused e) (Ok es) table old count told front = cc
listed_rest n (Refused e) (Err r) table old count told front = front

-- what the outcome tells is what the list answers
pub listed_is : (n : ℕ) (o : Outcome) (x : Result (List (Result Found Refusal)) Refusal) (table old : List (Result Found Refusal))
    → ((es : List (Result Found Refusal)) → x ≡ Ok es → length es ≡ n)
    → outcome_of o ≡ told_by (and_then {Y = Unit {0}} x (λ _. Ok tt)) → table ≡ list_answers x old → listed_of n o table ≡ listed_by x
listed_is n Granted (Ok es) table old count told front =
    ap listed ((λ i. take (sym (count es refl) i) (front i)) ∙ take-append_seam es (drop (length es) old))
listed_is n Granted (Err e) table old count told front = cc
listed_is n (Answered f) (Ok es) table old count told front = cc
listed_is n (Answered f) (Err e) table old count told front = cc
listed_is n (Refused e) (Ok es) table old count told front = cc
listed_is n (Refused e) (Err r) table old count told front = cc
