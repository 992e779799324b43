-- Answers that are granted, and refusals of another cause.
use Rattle.std.proofs.Common.{◌≡◌, ℕ, Bool, true, false, cond, Ok, Err, Result, refl, ap, ◌∙◌}
use Rattle.refusal.specs.declared.Cause.{Cause}
use Rattle.refusal.specs.declared.Layer.{Layer}
use Rattle.refusal.specs.declared.Refusal.{Refusal}
use Rattle.refusal.specs.Numbers.{number, refused}
use Rattle.webs.specs.Theorems.{Never}

cause_of : {X : Type 0} {d e : Refusal} → ◌≡◌ {A = Result X Refusal} (Err d) (Err e) → d.cause ≡ e.cause
cause_of h = cc

pub other_cause : {X : Type 0} (c : Cause) (layer : Layer) (place : ℕ) (d : Cause) → (number c ≡ number d → ⊥) → Never {X = X} d (Err (refused c layer place))
other_cause c layer place d other e is same = other (ap number (cause_of is ∙ same))

pub granted_so : {X : Type 0} (d : Cause) (x : X) → Never d (Ok x)
granted_so d x e is same = cc

-- either of two answers
pub either : {X : Type 0} (d : Cause) (b : Bool) (x y : Result X Refusal) → (b ≡ true → Never d x) → (b ≡ false → Never d y) → Never d (cond b x y)
either d true x y h k = h refl
either d false x y h k = k refl
