-- What is known of each thing that was read.
use Rattle.std.proofs.Common.{◌≡◌, ℕ, zero, suc, ◌+◌, ◌<◌, ◌≤◌, Bool, true, false, cond, ltb, List, [], ◌∷◌, ◌++◌, length, Ok, Err, Result, sym, refl, ap, ◌∙◌, subst, arith}
use Rattle.std.proofs.lemmas.List.{length_push}
use Rattle.std.proofs.lemmas.Bool.{ltb-false, ltb-true}
use Rattle.std.proofs.lemmas.Bool.Decides.{nat_tests}
use Rattle.plane.specs.declared.Point.{Point}
use Rattle.refusal.specs.declared.Cause.{Cause}
use Rattle.refusal.specs.declared.Cause.TheVariants.{BadCornerCount, NoSuchVertex, OverLimit, VertexOutside}
use Rattle.refusal.specs.declared.Refusal.{Refusal}
use Rattle.reader.specs.Kinds as kind
use Rattle.reader.specs.Number.{number}
use Rattle.reader.specs.Reading.{Read, and_then, fault, several}
use Rattle.sheet.specs.Legal.{Inside}

abbrev value_or : {X : Type 0} → X → Result X Refusal → X
value_or d (Ok x) = x
value_or d (Err e) = d

pub ok_same : {X : Type 0} (x y : X) → ◌≡◌ {A = Result X Refusal} (Ok x) (Ok y) → x ≡ y
ok_same x y h = ap (value_or x) h

never : {X : Type 0} {Z : Type 0} (e : Refusal) (y : X) → ◌≡◌ {A = Result X Refusal} (Err e) (Ok y) → Z
never e y h = let z : ◌≡◌ {A = ℕ} 0 1 = cc in absurd (omega arith)

-- what was read first, and what came of it
pub then_known : {X Y : Type 0} (o : Result X Refusal) (go : X → Result Y Refusal) (y : Y) → and_then o go ≡ Ok y → (x : X) × (o ≡ Ok x) × (go x ≡ Ok y)
then_known (Ok x) go y h = (x, refl, h)
then_known (Err e) go y h = never e y h

-- a test that was passed
pub test_known : {X : Type 0} (b : Bool) (r : Result X Refusal) (e : Refusal) (y : X) → cond b r (Err e) ≡ Ok y → (b ≡ true) × (r ≡ Ok y)
test_known true r e y h = (refl, h)
test_known false r e y h = never e y h

-- a test that was not failed
pub fault_known : {X : Type 0} (b : Bool) (r : Result X Refusal) (e : Refusal) (y : X) → cond b (Err e) r ≡ Ok y → (b ≡ false) × (r ≡ Ok y)
fault_known true r e y h = never e y h
fault_known false r e y h = (refl, h)

pub between_known : (low high x : ℕ) → kind.between low high x ≡ true → (low ≤ x) × (x ≤ high)
between_known low high x h = grind (arith, nat_tests)

inside_known : (size x : ℕ) → kind.inside size x ≡ true → (0 < x) × (x < size)
inside_known size x h = grind (arith, nat_tests)

pub ranged_known : (low high : ℕ) (cause : Cause) (file : List ℕ) (at v next : ℕ) → kind.ranged low high cause file at ≡ Ok (v, next) → (low ≤ v) × (v ≤ high)
ranged_known low high cause file at v next h =
    let n = then_known (number file at) (λ x. cond (kind.between low high x.0) (Ok x) (Err (fault cause at))) (v, next) h in
    let t = test_known (kind.between low high n.0.0) (Ok n.0) (fault cause at) (v, next) n.2 in
    let e = ap (λ (p : ℕ × ℕ). p.0) (ok_same n.0 (v, next) t.1) in
    subst (λ x. (low ≤ x) × (x ≤ high)) e (between_known low high n.0.0 t.0)

pub corner_known : (vertices : ℕ) (file : List ℕ) (at v next : ℕ) → kind.corner vertices file at ≡ Ok (v, next) → v < vertices
corner_known vertices file at v next h =
    let n = then_known (number file at) (λ x. cond (ltb x.0 vertices) (Ok x) (Err (fault NoSuchVertex at))) (v, next) h in
    let t = test_known (ltb n.0.0 vertices) (Ok n.0) (fault NoSuchVertex at) (v, next) n.2 in
    let e = ap (λ (p : ℕ × ℕ). p.0) (ok_same n.0 (v, next) t.1) in
    subst (λ x. x < vertices) e (ltb-true n.0.0 vertices t.0)

pub count_known : (vertices before : ℕ) (file : List ℕ) (at k next : ℕ) → kind.corner_count_of vertices before file at ≡ Ok (k, next) → (3 ≤ k) × (k ≤ vertices) × (before + k ≤ 6150)
count_known vertices before file at k next h =
    let good : ℕ × ℕ → Read ℕ = λ x. cond (kind.between 3 vertices x.0) (Ok x) (Err (fault BadCornerCount at)) in
    let n = then_known (number file at) (λ x. cond (ltb 6150 (before + x.0)) (Err (fault OverLimit at)) (good x)) (k, next) h in
    let l = fault_known (ltb 6150 (before + n.0.0)) (good n.0) (fault OverLimit at) (k, next) n.2 in
    let t = test_known (kind.between 3 vertices n.0.0) (Ok n.0) (fault BadCornerCount at) (k, next) l.1 in
    let e = ap (λ (p : ℕ × ℕ). p.0) (ok_same n.0 (k, next) t.1) in
    let b = between_known 3 vertices n.0.0 t.0 in
    subst (λ x. (3 ≤ x) × (x ≤ vertices) × (before + x ≤ 6150)) e (b.0, b.1, ltb-false 6150 (before + n.0.0) l.0)

pub vertex_known : (width height : ℕ) (file : List ℕ) (at : ℕ) (p : Point) (next : ℕ) → kind.vertex width height file at ≡ Ok (p, next) → Inside width height p
vertex_known width height file at p next h =
    let bad = fault VertexOutside at in
    let made : ℕ → ℕ × ℕ → Read Point = λ x y. cond (kind.inside height y.0) (Ok (record { x = x; y = y.0 }, y.1)) (Err bad) in
    let rest : ℕ × ℕ → Read Point = λ x. and_then (number file x.1) (made x.0) in
    let n = then_known (number file at) (λ x. cond (kind.inside width x.0) (rest x) (Err bad)) (p, next) h in
    let t = test_known (kind.inside width n.0.0) (rest n.0) bad (p, next) n.2 in
    let m = then_known (number file n.0.1) (made n.0.0) (p, next) t.1 in
    let u = test_known (kind.inside height m.0.0) (Ok (record { x = n.0.0; y = m.0.0 }, m.0.1)) bad (p, next) m.2 in
    let e = ap (λ (q : Point × ℕ). q.0) (ok_same (record { x = n.0.0; y = m.0.0 }, m.0.1) (p, next) u.1) in
    let a = inside_known width n.0.0 t.0 in
    let b = inside_known height m.0.0 u.0 in
    subst (Inside width height) e (record { right = a.0; left = a.1; above = b.0; below = b.1 })

-- what each step keeps holds of all that was read
pub several_known : {X : Type 0} (read : List X → ℕ → Read X) (P : List X → Type 0)
    → ((done : List X) (at : ℕ) (x : X) (at' : ℕ) → P done → read done at ≡ Ok (x, at') → P (done ++ x ∷ []))
    → (done : List X) (n at : ℕ) (xs : List X) (next : ℕ) → P done → several read done n at ≡ Ok (xs, next) → P xs × (length xs ≡ length done + n)
unfolding several
several_known {X} read P step done zero at xs next p h =
    let e : done ≡ xs = ap (λ (q : List X × ℕ). q.0) (ok_same (done, at) (xs, next) h) in
    (subst P e p, ap length (sym e) ∙ omega arith)
several_known read P step done (suc n) at xs next p h =
    let r = then_known (read done at) (λ x. several read (done ++ x.0 ∷ []) n x.1) (xs, next) h in
    let x = r.0.0 in
    let q = several_known read P step (done ++ x ∷ []) n r.0.1 xs next (step done at x r.0.1 p r.1) r.2 in
    let l = length_push done x in
    (q.0, q.1 ∙ omega arith)
