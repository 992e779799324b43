-- A load tells faults of the file, and never a number outside its range.
use Rattle.std.proofs.Common.{◌≡◌, ℕ, zero, suc, ◌+◌, ◌-◌, ◌*◌, ◌==◌, List, [], ◌∷◌, ◌++◌, Ok, Err, Result, length, nat_lt, ap, arith}
use Rattle.reader.specs.Kinds.{between, corner, corner_count_of, count, edition, extent, finish, inside, label_numeral_of, numeral, ranged, vertex, wording, wording_length_of}
use Rattle.reader.specs.Number.{last, number}
use Rattle.reader.specs.Reading.{Read, and_then, byte, fault, several}
use Rattle.refusal.specs.declared.Cause.{Cause}
use Rattle.refusal.specs.declared.Cause.TheVariants.{BadCornerCount, BadEdition, BadNumber, BadNumeral, BadSize, BadWording, BytesLeft, FileEnds, NoSuchVertex, OutOfRange, OverLimit, VertexOutside}
use Rattle.refusal.specs.declared.Layer.TheVariants.{File}
use Rattle.refusal.specs.declared.Refusal.{Refusal}
use Rattle.refusal.specs.Numbers.{number as number_of}
use Rattle.sheet.specs.declared.tables.Label.{Label}
use Rattle.sheet.specs.Files.{contents, head, label, labelled, labels, ring, sheet}
use Rattle.sheet.specs.Load.{sheet_of}
use Rattle.sheet.specs.Sheets.{corners_in}
use Rattle.webs.specs.Theorems.{Never}
use Rattle.webs.proofs.Causes.{either, granted_so, other_cause}

abbrev Fine : {X : Type 0} → Result X Refusal → Type 0
Fine r = Never OutOfRange r

then_fine : {X Y : Type 0} (r : Result X Refusal) (go : X → Result Y Refusal) → Fine r → ((x : X) → Fine (go x)) → Fine (and_then r go)
then_fine (Ok x) go h k = k x
then_fine {X} {Y} (Err e) go h k = λ f is. h f (ap Err (same f is))
  where
    same : (f : Refusal) → ◌≡◌ {A = Result Y Refusal} (Err e) (Err f) → e ≡ f
    same f is = cc

faulty : {X : Type 0} (c : Cause) (at : ℕ) → (number_of c ≡ 27 → ⊥) → Fine {X = X} (Err (fault c at))
faulty c at other = other_cause c File at OutOfRange other

byte_fine : {Y : Type 0} (file : List ℕ) (at : ℕ) (go : ℕ → Result Y Refusal) → ((b : ℕ) → Fine (go b)) → Fine (byte file at go)
byte_fine file at go h = either OutOfRange (nat_lt at (length file)) _ _ (λ _. h _) (λ _. faulty FileEnds (length file) (λ e. omega arith))

last_fine : (start group value next : ℕ) → Fine (last start group value next)
last_fine start group value next = either OutOfRange (group == 0) _ _ (λ _. faulty BadNumber start (λ e. omega arith)) (λ _. granted_so OutOfRange _)

number_fine : (file : List ℕ) (at : ℕ) → Fine (number file at)
number_fine file at =
    byte_fine file at _ (λ a. either OutOfRange (nat_lt a 128) (Ok (a, at + 1)) _ (λ _. granted_so OutOfRange (a, at + 1))
    (λ _. byte_fine file (at + 1) _ (λ b. either OutOfRange (nat_lt b 128) _ _ (λ _. last_fine at b ((a - 128) + 128 * b) (at + 2))
    (λ _. byte_fine file (at + 2) _ (λ c. either OutOfRange (nat_lt c 128) _ _ (λ _. last_fine at c ((a - 128) + 128 * (b - 128) + 16384 * c) (at + 3))
    (λ _. faulty BadNumber at (λ e. omega arith)))))))

ranged_fine : (low high : ℕ) (c : Cause) → (number_of c ≡ 27 → ⊥) → (file : List ℕ) (at : ℕ) → Fine (ranged low high c file at)
ranged_fine low high c other file at =
    then_fine (number file at) _ (number_fine file at) (λ x. either OutOfRange (between low high x.0) _ _ (λ _. granted_so OutOfRange x) (λ _. faulty c at other))

vertex_fine : (width height : ℕ) (file : List ℕ) (at : ℕ) → Fine (vertex width height file at)
vertex_fine width height file at =
    then_fine (number file at) _ (number_fine file at) (λ x. either OutOfRange (inside width x.0) _ _
    (λ _. then_fine (number file x.1) _ (number_fine file x.1) (λ y. either OutOfRange (inside height y.0) _ _ (λ _. granted_so OutOfRange _) (λ _. faulty VertexOutside at (λ e. omega arith))))
    (λ _. faulty VertexOutside at (λ e. omega arith)))

corner_count_fine : (vertices before : ℕ) (file : List ℕ) (at : ℕ) → Fine (corner_count_of vertices before file at)
corner_count_fine vertices before file at =
    then_fine (number file at) _ (number_fine file at) (λ k. either OutOfRange (nat_lt 6150 (before + k.0)) _ _ (λ _. faulty OverLimit at (λ e. omega arith))
    (λ _. either OutOfRange (between 3 vertices k.0) _ _ (λ _. granted_so OutOfRange k) (λ _. faulty BadCornerCount at (λ e. omega arith))))

corner_fine : (vertices : ℕ) (file : List ℕ) (at : ℕ) → Fine (corner vertices file at)
corner_fine vertices file at =
    then_fine (number file at) _ (number_fine file at) (λ v. either OutOfRange (nat_lt v.0 vertices) _ _ (λ _. granted_so OutOfRange v) (λ _. faulty NoSuchVertex at (λ e. omega arith)))

wording_fine : (file : List ℕ) (n at : ℕ) → Fine (wording file n at)
unfolding wording
wording_fine file zero at = granted_so OutOfRange at
wording_fine file (suc n) at =
    byte_fine file at _ (λ b. either OutOfRange (between 32 126 b) _ _ (λ _. wording_fine file n (at + 1)) (λ _. faulty BadWording at (λ e. omega arith)))

several_fine : {X : Type 0} (read : List X → ℕ → Read X) → ((done : List X) (at : ℕ) → Fine (read done at)) → (done : List X) (n at : ℕ) → Fine (several read done n at)
unfolding several
several_fine read h done zero at = granted_so OutOfRange _
several_fine read h done (suc n) at = then_fine (read done at) _ (h done at) (λ x. several_fine read h (done ++ x.0 ∷ []) n x.1)

-- ---- the file

ring_fine : (vertices before : ℕ) (file : List ℕ) (at : ℕ) → Fine (ring vertices before file at)
unfolding ring
ring_fine vertices before file at =
    then_fine (numeral file at) _ (ranged_fine 0 255 BadNumeral (λ e. omega arith) file at)
    (λ m. then_fine (corner_count_of vertices before file m.1) _ (corner_count_fine vertices before file m.1)
    (λ k. then_fine (several (λ _. corner vertices file) [] k.0 k.1) _ (several_fine (λ _. corner vertices file) (λ _ at. corner_fine vertices file at) [] k.0 k.1) (λ cs. granted_so OutOfRange _)))

head_fine : (file : List ℕ) (at : ℕ) → Fine (head file at)
unfolding head
head_fine file at =
    then_fine (edition file at) _ (ranged_fine 1 1 BadEdition (λ e. omega arith) file at)
    (λ e. then_fine (extent file e.1) _ (ranged_fine 2 8191 BadSize (λ e. omega arith) file e.1)
    (λ w. then_fine (extent file w.1) _ (ranged_fine 2 8191 BadSize (λ e. omega arith) file w.1)
    (λ h. then_fine (count 1024 file h.1) _ (ranged_fine 0 1024 OverLimit (λ e. omega arith) file h.1) (λ n. granted_so OutOfRange _))))

sheet_fine : (file : List ℕ) (at : ℕ) → Fine (sheet file at)
unfolding sheet
sheet_fine file at =
    then_fine (head file at) _ (head_fine file at)
    (λ h. then_fine (several (λ _. vertex h.0.width h.0.height file) [] h.0.inner h.1) _ (several_fine (λ _. vertex h.0.width h.0.height file) (λ _ at. vertex_fine h.0.width h.0.height file at) [] h.0.inner h.1)
    (λ vs. then_fine (count 2050 file vs.1) _ (ranged_fine 0 2050 OverLimit (λ e. omega arith) file vs.1)
    (λ m. then_fine (several (λ before. ring (h.0.inner + 4) (corners_in before) file) [] m.0 m.1) _
    (several_fine (λ before. ring (h.0.inner + 4) (corners_in before) file) (λ before at. ring_fine (h.0.inner + 4) (corners_in before) file at) [] m.0 m.1) (λ rs. granted_so OutOfRange _))))

label_fine : (file : List ℕ) (before : List Label) (at : ℕ) → Fine (label file before at)
unfolding label
label_fine file before at =
    then_fine (label_numeral_of file at) _ (ranged_fine 1 255 BadNumeral (λ e. omega arith) file at)
    (λ m. either OutOfRange (labelled m.0 before) _ _ (λ _. faulty BadNumeral at (λ e. omega arith))
    (λ _. then_fine (wording_length_of file m.1) _ (ranged_fine 1 63 BadWording (λ e. omega arith) file m.1)
    (λ n. then_fine (wording file n.0 n.1) _ (wording_fine file n.0 n.1) (λ next. granted_so OutOfRange _))))

labels_fine : (file : List ℕ) (at : ℕ) → Fine (labels file at)
unfolding labels
labels_fine file at =
    then_fine (count 255 file at) _ (ranged_fine 0 255 OverLimit (λ e. omega arith) file at)
    (λ n. then_fine (several (label file) [] n.0 n.1) _ (several_fine (label file) (label_fine file) [] n.0 n.1)
    (λ ls. then_fine (finish file ls.1) _ (either OutOfRange (nat_lt ls.1 (length file)) _ _ (λ _. faulty {X = Unit {0}} BytesLeft ls.1 (λ e. omega arith)) (λ _. granted_so {X = Unit {0}} OutOfRange tt)) (λ _. granted_so OutOfRange ls.0)))

pub load_in_range : (file : List ℕ) → Never OutOfRange (sheet_of file)
unfolding sheet_of contents
load_in_range file =
    then_fine (contents file) _
    (then_fine (sheet file 0) _ (sheet_fine file 0) (λ s. then_fine (labels file s.1) _ (labels_fine file s.1) (λ ls. granted_so OutOfRange _)))
    (λ f. granted_so OutOfRange f.sheet)
