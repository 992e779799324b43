-- A loop, read step by step to its end.
use Rattle.std.proofs.Common.{◌≡◌, ℕ, List, [], Ok, refl}
use Rattle.sheet.specs.Files.{ring}
use Rattle.reader.specs.Kinds as kind
use Rattle.reader.specs.Reading.{several}

pub goes : (vertices before : ℕ) (file : List ℕ) (at m at₁ : ℕ) (file₁ : List ℕ) → Ok (m, at₁) ≡ kind.numeral file at → file₁ ≡ file
    → (k at₂ : ℕ) (file₂ : List ℕ) → Ok (k, at₂) ≡ kind.corner_count_of vertices before file₁ at₁ → file₂ ≡ file₁
    → (cs : List ℕ) (at₃ : ℕ) → several (λ _. kind.corner vertices file₂) [] k at₂ ≡ Ok (cs, at₃)
    → ring vertices before file at ≡ Ok (record { numeral = m; corners = cs }, at₃)
unfolding ring
goes vertices before file at m at₁ file₁ h₁ f₁ k at₂ file₂ h₂ f₂ cs at₃ h = rw (← h₁, ← f₁, ← h₂, ← f₂, h) refl
