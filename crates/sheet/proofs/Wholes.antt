-- A sheet, read step by step: where each step stops, and where none does.
use Rattle.std.proofs.Common.{◌≡◌, ℕ, ◌+◌, List, [], length, Ok, Err, refl}
use Rattle.plane.specs.declared.Point.{Point}
use Rattle.refusal.specs.declared.Refusal.{Refusal}
use Rattle.sheet.specs.declared.tables.Head.{Head}
use Rattle.sheet.specs.Files.{head, ring, sheet}
use Rattle.reader.specs.Kinds as kind
use Rattle.reader.specs.Reading.{several}
use Rattle.sheet.specs.Sheets.{Ring, corners_in, size_of, sizes}

module _ (file : List ℕ) (at : ℕ) where
  module _ (x : Head) (at₁ : ℕ) (file₁ : List ℕ) (h₁ : Ok (x, at₁) ≡ head file at) (f₁ : file₁ ≡ file) where
    module _ (vs : List Point) (at₂ : ℕ) (file₂ : List ℕ) (h₂ : several (λ _. kind.vertex x.width x.height file₁) [] x.inner at₁ ≡ Ok (vs, at₂)) (f₂ : file₂ ≡ file₁) where
      pub stops_count : (e : Refusal) → Err e ≡ kind.count 2050 file₂ at₂ → sheet file at ≡ Err e
      unfolding sheet
      stops_count e h = rw (← h₁, ← f₁, h₂, ← f₂, ← h) refl

      module _ (n at₃ : ℕ) (file₃ : List ℕ) (h₃ : Ok (n, at₃) ≡ kind.count 2050 file₂ at₂) (f₃ : file₃ ≡ file₂) where
        pub stops_loops : (e : Refusal) → several (λ before. ring (x.inner + 4) (corners_in before) file₃) [] n at₃ ≡ Err e → sheet file at ≡ Err e
        unfolding sheet
        stops_loops e h = rw (← h₁, ← f₁, h₂, ← f₂, ← h₃, ← f₃, h) refl

        pub goes : (rs : List Ring) (at₄ : ℕ) → several (λ before. ring (x.inner + 4) (corners_in before) file₃) [] n at₃ ≡ Ok (rs, at₄)
            → sheet file at ≡ Ok (record { width = x.width; height = x.height; inner = vs; rings = rs }, at₄)
        unfolding sheet
        goes rs at₄ h = rw (← h₁, ← f₁, h₂, ← f₂, ← h₃, ← f₃, h) refl

pub size_is : (width height inner loops corners : ℕ) (vs : List Point) (rs : List Ring) → length vs ≡ inner → length rs ≡ loops → corners ≡ corners_in rs
    → sizes width height inner loops corners ≡ size_of (record { width = width; height = height; inner = vs; rings = rs })
size_is width height inner loops corners vs rs a b c = cc
