-- The numeral that a table of loops tells of a loop.
use Rattle.std.proofs.Common.{◌≡◌, ℕ, zero, suc, ◌+◌, List, [], ◌∷◌, length, Some, None, Option, refl}
use Rattle.std.specs.List.{slice_get}
use Rattle.sheet.specs.Sheets.{Ring, loops_from}
use Rattle.sheet.specs.Wordings.{numeral_at, numeral_in, numeral_of, numeral_of_entry}
use Rattle.sheet.specs.Numerals.{some_numeral}

told : (start : ℕ) (rs : List Ring) (l : ℕ) → numeral_of_entry (slice_get (loops_from start rs) l) ≡ some_numeral (numeral_at rs l)
told start [] l = refl
told start (r ∷ rs) zero = refl
told start (r ∷ rs) (suc l) = told (start + length r.corners) rs l

pub numeral_told : (rs : List Ring) (face : Option ℕ) → numeral_in (loops_from 0 rs) face ≡ some_numeral (numeral_of rs face)
numeral_told rs None = refl
numeral_told rs (Some l) = told 0 rs l
