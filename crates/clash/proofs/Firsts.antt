-- What the first clash of a list says of its elements, and that no other answer says it.
use Rattle.std.proofs.Common.{◌≡◌, ℕ, ◌+◌, ◌<◌, Bool, false, List, [], ◌∷◌, ◌++◌, length, get_or, Option, Some, None, refl, sym, ap, ◌∙◌, subst, append_assoc, length-append, arith}
use Rattle.std.specs.List.{position}
use Rattle.std.proofs.lemmas.Bool.{false≢true}
use Rattle.std.proofs.lemmas.Bool.Decides.{nat_tests}
use Rattle.std.proofs.lemmas.Grind.{common_steps}
use Rattle.std.proofs.lemmas.List.Quantifiers.{position-Some}
use Rattle.std.proofs.lemmas.List.Sums.{fails_before_first}
use Rattle.std.proofs.Math.ListN.{get_or-append}
use Rattle.std.proofs.Math.Seq.{get_or-append_seam}
use borrow.Author.Count.{below_more}
use Rattle.clash.specs.declared.ClashAt.{ClashAt}
use Rattle.clash.specs.Clashes.{clash_or, first_clash_from, first_clash_in, IsFreeBelow, IsFree, IsFirstClash, Tells}

-- where no element is found, each fails the test
position-None : {X : Type 0} (p : X → Bool) (xs : List X) (i : ℕ) (d : X) → position p xs ≡ None → i < length xs → p (get_or xs i d) ≡ false
position-None p xs i d none inside = grind (arith, nat_tests, fails_before_first p xs i d)

-- the element behind the first list is asked about one of that list
asked : {X : Type 0} (clashes : X → X → Bool) (before : List X) (x : X) (behind : List X) (k : ℕ) (d : X) → k < length before
    → clashes (get_or (before ++ x ∷ behind) (length before) d) (get_or (before ++ x ∷ behind) k d) ≡ clashes x (get_or before k d)
asked clashes before x behind k d inside = rw (get_or-append_seam before x behind d, get_or-append before (x ∷ behind) d k inside)

-- where it clashes with none of them
free_next : {X : Type 0} (clashes : X → X → Bool) (before : List X) (x : X) (behind : List X) → IsFreeBelow clashes (before ++ x ∷ behind) (length before)
    → position (clashes x) before ≡ None → IsFreeBelow clashes (before ++ x ∷ behind) (length before + 1)
free_next clashes before x behind free none earlier later d in_order inside =
    below_more (λ k. earlier < k → clashes (get_or (before ++ x ∷ behind) k d) (get_or (before ++ x ∷ behind) earlier d) ≡ false) (length before)
    (λ k below ordered. free earlier k d ordered below)
    (λ ordered. asked clashes before x behind earlier d ordered ∙ position-None (clashes x) before earlier d none ordered)
    later inside in_order

-- and where it clashes with one
found_next : {X : Type 0} (clashes : X → X → Bool) (before : List X) (x : X) (behind : List X) (i : ℕ) → IsFreeBelow clashes (before ++ x ∷ behind) (length before)
    → position (clashes x) before ≡ Some i → IsFirstClash clashes (before ++ x ∷ behind) (record { later = length before; earlier = i })
found_next clashes before x behind i free found =
    let in_order : i < length before = (position-Some (clashes x) before i x found).0 in
    record {
      in_order = in_order;
      in_range = omega (arith, length-append before (x ∷ behind));
      clash = λ d. asked clashes before x behind i d in_order ∙ (position-Some (clashes x) before i d found).1;
      first = free;
      earliest = λ k d below. asked clashes before x behind k d (omega arith) ∙ (position-Some (clashes x) before i d found).2 k below;
    }

tells_from : {X : Type 0} (clashes : X → X → Bool) (before behind : List X) → IsFreeBelow clashes (before ++ behind) (length before)
    → Tells clashes (before ++ behind) (first_clash_from clashes before behind)
unfolding Tells
tells_from clashes before [] free = λ earlier later d in_order inside. free earlier later d in_order (omega (arith, length-append before []))
tells_from clashes before (x ∷ behind) free =
    elim (position (clashes x) before) as (λ at. position (clashes x) before ≡ at
    → Tells clashes (before ++ x ∷ behind) (clash_or (length before) at (first_clash_from clashes (before ++ x ∷ []) behind))) [
      | None ↦ λ none.
          let joined : (before ++ x ∷ []) ++ behind ≡ before ++ x ∷ behind = append_assoc before (x ∷ []) behind in
          let more : length (before ++ x ∷ []) ≡ length before + 1 = length-append before (x ∷ []) in
          subst (λ items. Tells clashes items (first_clash_from clashes (before ++ x ∷ []) behind)) joined
          (tells_from clashes (before ++ x ∷ []) behind (rw (joined, more) (free_next clashes before x behind free none)))
      | Some i ↦ λ found. found_next clashes before x behind i free found
    ] refl

-- the first clash says of the elements what an answer has to say
pub first_clash_in_tells : {X : Type 0} (clashes : X → X → Bool) (items : List X) (answer : Option ClashAt) → first_clash_in clashes items ≡ answer → Tells clashes items answer
first_clash_in_tells clashes items answer is = subst (Tells clashes items) is (tells_from clashes [] items (λ earlier later d in_order inside. absurd (omega arith)))

-- a caller's lemmas: from no first clash to elements that do not clash, and from one to those that do
pub IsFree-from_None : {X : Type 0} (clashes : X → X → Bool) (items : List X) → first_clash_in clashes items ≡ None → IsFree clashes items
unfolding Tells
IsFree-from_None clashes items none = first_clash_in_tells clashes items None none

pub IsFirstClash-from_Some : {X : Type 0} (clashes : X → X → Bool) (items : List X) (at : ClashAt) → first_clash_in clashes items ≡ Some at → IsFirstClash clashes items at
unfolding Tells
IsFirstClash-from_Some clashes items at found = first_clash_in_tells clashes items (Some at) found

-- for the check of `first_clash`, and of what calls it: using(clash::proofs::Firsts::told)
pub ruleset told = (common_steps, first_clash_in_tells, IsFree-from_None, IsFirstClash-from_Some)

-- of two first clashes, neither comes before the other
no_sooner : {X : Type 0} (clashes : X → X → Bool) (items : List X) (d : X) (a b : ClashAt) → IsFirstClash clashes items a → IsFirstClash clashes items b
    → a.later < b.later → ⊥
no_sooner clashes items d a b first other sooner = false≢true (sym (other.first a.earlier a.later d first.in_order sooner) ∙ first.clash d)

no_nearer : {X : Type 0} (clashes : X → X → Bool) (items : List X) (d : X) (a b : ClashAt) → IsFirstClash clashes items a → IsFirstClash clashes items b
    → b.later ≡ a.later → a.earlier < b.earlier → ⊥
no_nearer clashes items d a b first other same nearer = false≢true (sym (rw same at (other.earliest a.earlier d nearer)) ∙ first.clash d)

same_at : (a b : ClashAt) → a.later ≡ b.later → a.earlier ≡ b.earlier → a ≡ b
same_at a b later earlier = ap (λ n. record { later = n; earlier = a.earlier }) later ∙ ap (λ n. record { later = b.later; earlier = n }) earlier

same_by : {X : Type 0} (clashes : X → X → Bool) (items : List X) (d : X) (a b : ClashAt) → IsFirstClash clashes items a → IsFirstClash clashes items b → a ≡ b
same_by clashes items d a b first other =
    let later : a.later ≡ b.later = omega (arith, no_sooner clashes items d a b first other, no_sooner clashes items d b a other first) in
    same_at a b later (omega (arith, no_nearer clashes items d a b first other (sym later), no_nearer clashes items d b a other first later))

-- an element of the list stands in for the default of its reads
same_first : {X : Type 0} (clashes : X → X → Bool) (items : List X) (a b : ClashAt) → IsFirstClash clashes items a → IsFirstClash clashes items b → a ≡ b
same_first clashes [] a b first other = absurd (omega (arith, first.in_range))
same_first clashes (x ∷ items) a b first other = same_by clashes (x ∷ items) x a b first other

not_free : {X : Type 0} (clashes : X → X → Bool) (items : List X) (at : ClashAt) → IsFirstClash clashes items at → IsFree clashes items → ⊥
not_free clashes [] at first free = omega (arith, first.in_range)
not_free clashes (x ∷ items) at first free = false≢true (sym (free at.earlier at.later x first.in_order first.in_range) ∙ first.clash x)

-- and back: elements that do not clash have no first clash, and what is a first clash is the one that is found
pub first_clash_in-free : {X : Type 0} (clashes : X → X → Bool) (items : List X) → IsFree clashes items → first_clash_in clashes items ≡ None
unfolding Tells
first_clash_in-free clashes items free =
    elim (first_clash_in clashes items) as (λ answer. Tells clashes items answer → answer ≡ None) [
      | None ↦ λ _. refl
      | Some at ↦ λ first. absurd (not_free clashes items at first free)
    ] (first_clash_in_tells clashes items _ refl)

pub first_clash_in-first : {X : Type 0} (clashes : X → X → Bool) (items : List X) (at : ClashAt) → IsFirstClash clashes items at → first_clash_in clashes items ≡ Some at
unfolding Tells
first_clash_in-first clashes items at first =
    elim (first_clash_in clashes items) as (λ answer. Tells clashes items answer → answer ≡ Some at) [
      | None ↦ λ free. absurd (not_free clashes items at first free)
      | Some other ↦ λ also. ap Some (same_first clashes items other at also first)
    ] (first_clash_in_tells clashes items _ refl)
