-- A number stands in one to three groups of seven bits, the lowest first; a byte of 128 or more says that another group follows.
-- Only the shortest form is taken: the last of several groups is not 0, and the third is the last.
use Rattle.std.specs.Prelude.{ℕ, ◌+◌, ◌-◌, ◌*◌, ◌/◌, ◌%◌, cond, List, [], ◌∷◌, Ok, Err, ◌==◌, nat_lt}
use Rattle.refusal.specs.declared.Cause.TheVariants.{BadNumber}
use Rattle.reader.specs.Reading.{Read, byte, fault}

-- the last group of several
abbrev pub last : ℕ → ℕ → ℕ → ℕ → Read ℕ
last start group value next = cond (group == 0) (Err (fault BadNumber start)) (Ok (value, next))

abbrev pub number : List ℕ → ℕ → Read ℕ
number file at =
    byte file at (λ a.
    cond (nat_lt a 128) (Ok (a, at + 1))
    (byte file (at + 1) (λ b.
    cond (nat_lt b 128) (last at b ((a - 128) + 128 * b) (at + 2))
    (byte file (at + 2) (λ c.
    cond (nat_lt c 128) (last at c ((a - 128) + 128 * (b - 128) + 16384 * c) (at + 3))
    (Err (fault BadNumber at)))))))

-- the one spelling of a number
abbrev pub spelling : ℕ → List ℕ
spelling v =
    cond (nat_lt v 128) (v ∷ [])
    (cond (nat_lt v 16384) ((128 + v % 128) ∷ (v / 128) ∷ [])
    ((128 + v % 128) ∷ (128 + v / 128 % 128) ∷ (v / 16384) ∷ []))
