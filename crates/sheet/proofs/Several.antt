-- A loop that reads several things one after another: what is left to read gives what there was to read at the start.
use Rattle.std.proofs.Common.{◌≡◌, ℕ, suc, ◌+◌, ◌-◌, ◌<◌, ◌≤◌, List, [], ◌∷◌, ◌++◌, length, Ok, Err, sym, refl, ap, ◌∙◌, arith}
use Rattle.std.proofs.lemmas.List.{length_push}
use Rattle.refusal.specs.declared.Refusal.{Refusal}
use Rattle.reader.specs.Reading.{Read, and_then, several}

module _ {X : Type 0} (read : List ℕ → List X → ℕ → Read X) where
  -- one step of several
  pub several_step : (file : List ℕ) (done : List X) (n at : ℕ) → 0 < n
      → several (read file) done n at ≡ and_then (read file done at) (λ x. several (read file) (done ++ x.0 ∷ []) (n - 1) x.1)
  unfolding several
  several_step file done n at h =
      let e : n ≡ suc (n - 1) = omega arith in
      ap (λ k. several (read file) done k at) e

  -- the first of several
  pub several_first : (file file' : List ℕ) (n at : ℕ) (x : X) (at' : ℕ) → 0 < n → Ok (x, at') ≡ read file [] at → file' ≡ file
      → several (read file) [] n at ≡ several (read file') (x ∷ []) (n - 1) at'
  several_first file file' n at x at' h e f =
      several_step file [] n at h ∙ ap (λ o. and_then o (λ y. several (read file) (y.0 ∷ []) (n - 1) y.1)) (sym e)
      ∙ ap (λ g. several (read g) (x ∷ []) (n - 1) at') (sym f)

  pub several_none : (file : List ℕ) (n at : ℕ) (e : Refusal) → 0 < n → Err e ≡ read file [] at → several (read file) [] n at ≡ Err e
  several_none file n at e h f = several_step file [] n at h ∙ ap (λ o. and_then o (λ y. several (read file) (y.0 ∷ []) (n - 1) y.1)) (sym f)

  -- after i of n things, behind those before, the reader stands at a place, and P holds of all that were read
  pub record Sofar (file₀ : List ℕ) (before : List X) (n start i : ℕ) (file : List ℕ) (at : ℕ) (P : List X → Type 0) : Type 0 where
    pub done : List X
    pub counted : length done ≡ length before + i
    pub same : several (read file₀) before n start ≡ several (read file₀) done (n - i) at
    pub file_same : file ≡ file₀
    pub held : P done

  pub sofar_none : (file : List ℕ) (before : List X) (n at : ℕ) (P : List X → Type 0) → P before → Sofar file before n at 0 file at P
  sofar_none file before n at P p =
      let e : n - 0 ≡ n = omega arith in
      record { done = before; counted = omega arith; same = rw e refl; file_same = refl; held = p }

  module _ {file₀ : List ℕ} {before : List X} {n start i : ℕ} {file : List ℕ} {at : ℕ} {P : List X → Type 0} (s : Sofar file₀ before n start i file at P) where
    next : i < n → several (read file₀) before n start ≡ and_then (read file s.done at) (λ x. several (read file₀) (s.done ++ x.0 ∷ []) (n - (i + 1)) x.1)
    next h =
        let e : n - i - 1 ≡ n - (i + 1) = omega arith in
        s.same ∙ several_step file₀ s.done (n - i) at (omega arith)
        ∙ ap (λ k. and_then (read file₀ s.done at) (λ x. several (read file₀) (s.done ++ x.0 ∷ []) k x.1)) e
        ∙ ap (λ f. and_then (read f s.done at) (λ x. several (read file₀) (s.done ++ x.0 ∷ []) (n - (i + 1)) x.1)) (sym s.file_same)

    pub sofar_more : (x : X) (file' : List ℕ) (at' : ℕ) (P' : List X → Type 0) → i < n
        → ((done : List X) → P done → Ok (x, at') ≡ read file done at)
        → file' ≡ file
        → ((done : List X) → P done → P' (done ++ x ∷ []))
        → Sofar file₀ before n start (i + 1) file' at' P'
    sofar_more x file' at' P' h e f p =
        record {
          done = s.done ++ x ∷ [];
          counted = let l = length_push s.done x in let c = s.counted in omega arith;
          same = next h ∙ ap (λ o. and_then o (λ y. several (read file₀) (s.done ++ y.0 ∷ []) (n - (i + 1)) y.1)) (sym (e s.done s.held));
          file_same = f ∙ s.file_same;
          held = p s.done s.held;
        }

    pub sofar_fault : (e : Refusal) → i < n → ((done : List X) → P done → Err e ≡ read file done at) → several (read file₀) before n start ≡ Err e
    sofar_fault e h f =
        next h ∙ ap (λ o. and_then o (λ y. several (read file₀) (s.done ++ y.0 ∷ []) (n - (i + 1)) y.1)) (sym (f s.done s.held))

    pub sofar_all : n ≤ i → (done : List X) × (several (read file₀) before n start ≡ Ok (done, at)) × P done × (length done ≡ length before + i)
    unfolding several
    sofar_all h =
        let e : n - i ≡ 0 = omega arith in
        (s.done, s.same ∙ ap (λ k. several (read file₀) s.done k at) e, s.held, s.counted)
