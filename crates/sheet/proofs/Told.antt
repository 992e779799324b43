-- An answer tells what was to be read: how one reading stands for another.
use Rattle.std.proofs.Common.{◌≡◌, ℕ, Ok, Err, Result, sym, ap, ◌∙◌, subst, arith}
use Rattle.refusal.specs.declared.Refusal.{Refusal}
use Rattle.reader.specs.Reading.{Read, Reads}

-- the same was to be read, and the answer has more to do with it
pub reads_by : {X Y : Type 0} (r : Result Y Refusal) (want want' : Read X) (at : ℕ) (P P' : X → Y → Type 0)
    → want' ≡ want → Reads r want at P → ((x : X) (y : Y) → P x y → P' x y) → Reads r want' at P'
reads_by (Ok y) want want' at P P' e h p = (h.0, e ∙ h.1, p h.0 y h.2)
reads_by (Err x) want want' at P P' e h p = e ∙ h

-- the value of a reading that was granted
abbrev value : {X : Type 0} → X → Read X → X
value d (Ok p) = p.0
value d (Err e) = d

-- what was to be read is known, so the answer has to do with it
pub reads_known : {X Y : Type 0} (r : Result Y Refusal) (want : Read X) (at : ℕ) (P : X → Y → Type 0) (x : X) (at' : ℕ)
    → want ≡ Ok (x, at') → Reads r want at P → (y : Y) × P x y
reads_known (Ok y) want at P x at' e h = let same : h.0 ≡ x = ap (value x) (sym h.1 ∙ e) in (y, subst (λ z. P z y) same h.2)
reads_known (Err f) want at P x at' e h = let z : ◌≡◌ {A = ℕ} 0 1 = cc (h, e) in absurd (omega arith)

-- what a list held when it ended
pub ends_as : {X : Type 0} (x y z : X) → y ≡ z → x ≡ y → x ≡ z
ends_as x y z e f = f ∙ e

-- an answer that is what was read
pub told_ok : {X : Type 0} {x y : X} {want : Read X} {at : ℕ} → want ≡ Ok (x, at) → y ≡ x → Ok (y, at) ≡ want
told_ok {at = at} e f = ap (λ z. Ok (z, at)) f ∙ sym e
