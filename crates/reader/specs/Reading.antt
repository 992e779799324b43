-- A reading goes from a place in the file to a value and the place behind it, or is refused.
use Rattle.std.specs.Prelude.{◌≡◌, ℕ, zero, suc, cond, List, [], ◌∷◌, ◌++◌, length, Ok, Err, Result, nat_lt, slice_index}
use Rattle.refusal.specs.declared.Cause.{Cause}
use Rattle.refusal.specs.declared.Cause.TheVariants.{FileEnds}
use Rattle.refusal.specs.declared.Layer.TheVariants.{File}
use Rattle.refusal.specs.declared.Refusal.{Refusal}
use Rattle.refusal.specs.Numbers.{refused}

-- what a reading answers
abbrev pub Read : Type 0 → Type 0
Read X = Result (X × ℕ) Refusal

-- a refusal of the file at one of its bytes
abbrev pub fault : Cause → ℕ → Refusal
fault cause at = refused cause File at

-- goes on with what was read
abbrev pub and_then : {X Y : Type 0} → Result X Refusal → (X → Result Y Refusal) → Result Y Refusal
and_then (Ok x) go = go x
and_then (Err e) go = Err e

-- the byte at a place, which the file must have
abbrev pub byte : {Y : Type 0} → List ℕ → ℕ → (ℕ → Result Y Refusal) → Result Y Refusal
byte file at go = cond (nat_lt at (length file)) (go (slice_index file at)) (Err (fault FileEnds (length file)))

-- what a reader answers, beside the place where it then stands
abbrev pub placed : {X : Type 0} → Result X Refusal → ℕ → Read X
placed (Ok x) at = Ok (x, at)
placed (Err e) at = Err e

-- the same of a reader whose answer is told otherwise: the place alone
abbrev pub ended : {X : Type 0} → Result X Refusal → ℕ → Result ℕ Refusal
ended (Ok x) at = Ok at
ended (Err e) at = Err e

-- n things more, behind those that were read before; how one is read may depend on those
unfoldable pub several : {X : Type 0} → (List X → ℕ → Read X) → List X → ℕ → ℕ → Read (List X)
several read done zero at = Ok (done, at)
several read done (suc n) at = and_then (read done at) (λ x. several read (done ++ x.0 ∷ []) n x.1)

-- a refused reader stays where it stood
abbrev pub Stays : {X : Type 0} → Result X Refusal → ℕ → ℕ → Type 0
Stays (Ok x) at at' = Unit {0}
Stays (Err e) at at' = at' ≡ at

-- how an answer tells what was to be read: the reader has come to the place behind it, and the answer has to do with it as P says
abbrev pub Reads : {X Y : Type 0} → Result Y Refusal → Read X → ℕ → (X → Y → Type 0) → Type 0
Reads {X} (Ok y) want at P = (x : X) × (want ≡ Ok (x, at)) × P x y
Reads (Err e) want at P = want ≡ Err e
