-- The first element of a list that clashes with an earlier one. A pair is only ever asked in one order: `clashes later earlier`.
-- Where facts read an element, d is what a read past the end would give; no such read is made, so it may be any.
use Rattle.std.specs.Prelude.{◌≡◌, ℕ, ◌<◌, Bool, true, false, List, [], ◌∷◌, ◌++◌, length, position, slice_index_or, AllPairs, Option, Some, None, MatchOption}
use Rattle.clash.specs.declared.ClashAt.{ClashAt}

-- the clash of the element at `later`, where it has one, or else what the elements behind it have
abbrev pub clash_or : ℕ → Option ℕ → Option ClashAt → Option ClashAt
clash_or later None behind = behind
clash_or later (Some earlier) behind = Some (record { later = later; earlier = earlier })

-- the elements of the second list in turn, each asked about all that stand before it
abbrev pub first_clash_from : {X : Type 0} → (X → X → Bool) → List X → List X → Option ClashAt
first_clash_from clashes before [] = None
first_clash_from clashes before (x ∷ behind) =
    clash_or (length before) (position (clashes x) before) (first_clash_from clashes (before ++ x ∷ []) behind)

-- the first element that clashes with an earlier one, and the earliest such
abbrev pub first_clash_in : {X : Type 0} → (X → X → Bool) → List X → Option ClashAt
first_clash_in clashes items = first_clash_from clashes [] items

-- none of the first n elements clashes with an earlier one
abbrev pub IsFreeBelow : {X : Type 0} → (X → X → Bool) → List X → ℕ → Type 0
IsFreeBelow {X} clashes items n =
    (earlier later : ℕ) (d : X) → earlier < later → later < n
    → clashes (slice_index_or items later d) (slice_index_or items earlier d) ≡ false

-- no element clashes with an earlier one
abbrev pub IsFree : {X : Type 0} → (X → X → Bool) → List X → Type 0
IsFree clashes items = AllPairs (λ earlier later. clashes later earlier ≡ false) items

-- two elements clash; none before the later one clashes with one before it, and the later one with none before the earlier one
pub record IsFirstClash {X : Type 0} (clashes : X → X → Bool) (items : List X) (at : ClashAt) : Type 0 where
  pub in_order : at.earlier < at.later
  pub in_range : at.later < length items
  pub clash : (d : X) → clashes (slice_index_or items at.later d) (slice_index_or items at.earlier d) ≡ true
  pub first : IsFreeBelow clashes items at.later
  pub earliest : (k : ℕ) (d : X) → k < at.earlier → clashes (slice_index_or items at.later d) (slice_index_or items k d) ≡ false

-- what an answer says of the elements; no `abbrev`, so that the check takes it as one fact and does not prove it part by part
unfoldable pub Tells : {X : Type 0} → (X → X → Bool) → List X → Option ClashAt → Type 0
Tells clashes items answer = MatchOption answer (IsFree clashes items) (IsFirstClash clashes items)
