-- What a step of a reader answers, and where the reader stands after it.
use Rattle.std.specs.Prelude.{◌≡◌, ℕ, List, Result}
use Rattle.refusal.specs.declared.Refusal.{Refusal}
use Rattle.reader.specs.declared.Reader.{Reader}
use Rattle.reader.specs.Reading.{Read, Reads, Stays, placed}

-- a step of a reader: the answer and the place are those of the reading, the file stays, and so does the place where it is refused
pub record Walked {X : Type 0} (want : List ℕ → ℕ → Read X) (r : Result X Refusal) (old new : Reader) : Type 0 where
  pub value : placed r new.at ≡ want old.file.now old.at
  pub same : new.file.now ≡ old.file.now
  pub stays : Stays r old.at new.at

-- several steps of a reader: the answer tells what was to be read from its place on, and the file stays
pub record Passed {X Y : Type 0} (want : List ℕ → ℕ → Read X) (r : Result Y Refusal) (old new : Reader) (P : X → Y → Type 0) : Type 0 where
  pub value : Reads r (want old.file.now old.at) new.at P
  pub same : new.file.now ≡ old.file.now
