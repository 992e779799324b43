-- What a number in a file is, in the subject's words: it is read exactly where it stands in its one spelling.
use Rattle.std.specs.Prelude.{◌≡◌, ℕ, ◌+◌, ◌<◌, List, length, Ok, slice_index}
use Rattle.reader.specs.Kinds.{part}
use Rattle.reader.specs.Number.{number, spelling}

-- the bytes of a file
abbrev pub Bytes : List ℕ → Type 0
Bytes file = (i : ℕ) → slice_index file i < 256

-- the number v stands at a place, and the file goes on at the next
pub record Stands (file : List ℕ) (at v next : ℕ) : Type 0 where
  pub small : v < 2097152
  pub there : part file at (length (spelling v)) ≡ spelling v
  pub behind : next ≡ at + length (spelling v)

-- a number is read exactly where it stands
pub record Spelled : Type 0 where
  pub read : (file : List ℕ) (at v next : ℕ) → Bytes file → number file at ≡ Ok (v, next) → Stands file at v next
  pub stands : (file : List ℕ) (at v next : ℕ) → Stands file at v next → number file at ≡ Ok (v, next)
