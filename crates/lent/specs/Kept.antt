-- A list kept in the front of a slice, and what its calls answer and leave.
use Rattle.std.specs.Prelude.{◌≡◌, ℕ, ◌+◌, min, cond, List, [], ◌∷◌, ◌++◌, length, take, drop, Ok, Err, Result, nat_lt, slice_set}
use Rattle.std.specs.Option.{ok_or}
use Rattle.std.specs.List.{slice_get}
use Rattle.lent.specs.declared.LentList.{LentList}
use Rattle.lent.specs.declared.LentView.{LentView}
use Rattle.refusal.specs.declared.Cause.{Cause}
use Rattle.refusal.specs.declared.Cause.TheVariants.{TableTooShort, OutOfRange}

-- the whole slice, and how many of its elements are in use
pub record Kept (X : Type 0) : Type 0 where
  pub items : List X
  pub count : ℕ

abbrev pub kept : {X : Type 0} → List X → ℕ → Kept X
kept items count = record { items = items; count = count }

-- what a list over a lent slice keeps
abbrev pub kept_in : {X : Type 0} → LentList X → Kept X
kept_in l = kept l.items.now l.count

-- the list is over the slice that it was over
abbrev pub SameSlice : {X : Type 0} → LentList X → LentList X → Type 0
SameSlice old new = new.items.ghost_name ≡ old.items.ghost_name

-- the elements that a list for reading shows
abbrev pub shown : {X : Type 0} → LentView X → List X
shown v = v.items.now

-- how many elements there are: no more than the slice has
abbrev pub count_of : {X : Type 0} → Kept X → ℕ
count_of k = min k.count (length k.items)

abbrev pub elements : {X : Type 0} → Kept X → List X
elements k = take k.count k.items

-- an element more is taken while the slice has room
abbrev pub append_said : {X : Type 0} → Kept X → Result (Unit {0}) Cause
append_said k = cond (nat_lt k.count (length k.items)) (Ok tt) (Err TableTooShort)

-- one element more, behind the last; a full slice stays as it is
abbrev pub put : {X : Type 0} → Kept X → X → Kept X
put k x = kept (slice_set k.items k.count x) (cond (nat_lt k.count (length k.items)) (k.count + 1) k.count)

-- several, one after another
abbrev pub puts : {X : Type 0} → Kept X → List X → Kept X
puts k [] = k
puts k (x ∷ xs) = puts (put k x) xs

-- the element at position i
abbrev pub read_at : {X : Type 0} → List X → ℕ → Result X Cause
read_at xs i = ok_or (slice_get xs i) OutOfRange

abbrev pub read_said : {X : Type 0} → Kept X → ℕ → Result X Cause
read_said k i = read_at (elements k) i

-- no element, over the same slice
abbrev pub none : {X : Type 0} → Kept X → Kept X
none k = kept k.items 0

-- a list written over the front of a longer one, the rest of which stays
abbrev pub over : {X : Type 0} → List X → List X → List X
over xs items = xs ++ drop (length xs) items
