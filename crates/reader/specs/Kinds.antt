-- The kinds of numbers in a sheet file, each with its range, and a wording.
use Rattle.std.specs.Prelude.{ℕ, zero, suc, ◌+◌, Bool, false, cond, List, length, take, drop, Ok, Err, Result, nat_le, nat_lt}
use Rattle.plane.specs.declared.Point.{Point}
use Rattle.refusal.specs.declared.Cause.{Cause}
use Rattle.refusal.specs.declared.Cause.TheVariants.{BadEdition, BadSize, OverLimit, VertexOutside, BadCornerCount, NoSuchVertex, BadNumeral, BadWording, BytesLeft}
use Rattle.refusal.specs.declared.Refusal.{Refusal}
use Rattle.reader.specs.Reading.{Read, and_then, byte, fault}
use Rattle.reader.specs.Number.{number}

-- both ends belong to the range
abbrev pub between : ℕ → ℕ → ℕ → Bool
between low high x = cond (nat_le low x) (nat_le x high) false

-- a number in its range; else the cause is told at the number's first byte
abbrev pub ranged : ℕ → ℕ → Cause → List ℕ → ℕ → Read ℕ
ranged low high cause file at = and_then (number file at) (λ x. cond (between low high x.0) (Ok x) (Err (fault cause at)))

abbrev pub edition : List ℕ → ℕ → Read ℕ
edition = ranged 1 1 BadEdition

-- a width or a height
abbrev pub extent : List ℕ → ℕ → Read ℕ
extent = ranged 2 8191 BadSize

-- how many of a kind follow
abbrev pub count : ℕ → List ℕ → ℕ → Read ℕ
count limit = ranged 0 limit OverLimit

-- strictly between the sides of the sheet
abbrev pub inside : ℕ → ℕ → Bool
inside size x = cond (nat_lt 0 x) (nat_lt x size) false

-- an inner vertex lies strictly inside; either coordinate is told at the first byte of x
abbrev pub vertex : ℕ → ℕ → List ℕ → ℕ → Read Point
vertex width height file at =
    let outside = Err (fault VertexOutside at) in
    and_then (number file at) (λ x.
    cond (inside width x.0)
    (and_then (number file x.1) (λ y. cond (inside height y.0) (Ok (record { x = x.0; y = y.0 }, y.1)) outside))
    outside)

-- the numeral of a loop
abbrev pub numeral : List ℕ → ℕ → Read ℕ
numeral = ranged 0 255 BadNumeral

-- how many corners a loop has, on a sheet of so many vertices, behind so many corners of earlier loops
abbrev pub corner_count_of : ℕ → ℕ → List ℕ → ℕ → Read ℕ
corner_count_of vertices before file at =
    and_then (number file at) (λ k.
    cond (nat_lt 6150 (before + k.0)) (Err (fault OverLimit at))
    (cond (between 3 vertices k.0) (Ok k) (Err (fault BadCornerCount at))))

-- a corner of a loop names one of so many vertices
abbrev pub corner : ℕ → List ℕ → ℕ → Read ℕ
corner vertices file at = and_then (number file at) (λ v. cond (nat_lt v.0 vertices) (Ok v) (Err (fault NoSuchVertex at)))

-- the numeral of a label
abbrev pub label_numeral_of : List ℕ → ℕ → Read ℕ
label_numeral_of = ranged 1 255 BadNumeral

-- how many bytes a wording has
abbrev pub wording_length_of : List ℕ → ℕ → Read ℕ
wording_length_of = ranged 1 63 BadWording

-- the bytes of a wording, each a printable one: the place behind them
unfoldable pub wording : List ℕ → ℕ → ℕ → Result ℕ Refusal
wording file zero at = Ok at
wording file (suc n) at = byte file at (λ b. cond (between 32 126 b) (wording file n (at + 1)) (Err (fault BadWording at)))

-- so many bytes of the file from a place on
abbrev pub part : List ℕ → ℕ → ℕ → List ℕ
part file at n = take n (drop at file)

-- the end of the file: no byte is left
abbrev pub finish : List ℕ → ℕ → Result (Unit {0}) Refusal
finish file at = cond (nat_lt at (length file)) (Err (fault BytesLeft at)) (Ok tt)
