-- A wording byte by byte, and by its first byte that is not printable.
use Rattle.std.proofs.Common.{◌≡◌, ℕ, Bool, zero, suc, ◌+◌, ◌-◌, ◌<◌, ◌≤◌, cond, true, false, List, Ok, Err, Some, None, not, position, length, get_or, take, drop, sym, refl, ap, ◌∙◌, arith}
use Rattle.std.proofs.lemmas.Bool.Decides.{nat_tests}
use Rattle.std.proofs.lemmas.List.{places}
use Rattle.std.proofs.lemmas.List.Quantifiers.{position-Some}
use Rattle.std.proofs.lemmas.List.Sums.{fails_before_first}
use Rattle.std.specs.List.{position_or_len}
use Rattle.refusal.specs.declared.Cause.TheVariants.{BadWording, FileEnds}
use Rattle.reader.specs.Reading.{byte, fault}
use Rattle.reader.specs.Kinds.{between, wording}

pub wording_step : (file : List ℕ) (n i at : ℕ) → i < n
    → wording file (n - i) (at + i) ≡ byte file (at + i) (λ b. cond (between 32 126 b) (wording file (n - (i + 1)) (at + (i + 1))) (Err (fault BadWording (at + i))))
unfolding wording
wording_step file n i at h =
    let e : n - i ≡ suc (n - (i + 1)) = omega arith in
    let a : at + i + 1 ≡ at + (i + 1) = omega arith in
    rw (e, ← a) refl

pub wording_start : (file : List ℕ) (n at : ℕ) → wording file (n - 0) (at + 0) ≡ wording file n at
wording_start file n at = let e : n - 0 ≡ n = omega arith in let a : at + 0 ≡ at = omega arith in rw (e, a) refl

pub wording_done : (file : List ℕ) (n at : ℕ) → wording file (n - n) (at + n) ≡ Ok (at + n)
unfolding wording
wording_done file n at = let e : n - n ≡ 0 = omega arith in rw e refl

wording_goes : (file : List ℕ) (n i at : ℕ) → i < n → at + i < length file → between 32 126 (get_or file (at + i) 0) ≡ true
    → wording file (n - i) (at + i) ≡ wording file (n - (i + 1)) (at + (i + 1))
wording_goes file n i at h l p = let s = wording_step file n i at h in grind (arith, nat_tests)

wording_stops : (file : List ℕ) (n i at : ℕ) → i < n → at + i < length file → between 32 126 (get_or file (at + i) 0) ≡ false
    → wording file (n - i) (at + i) ≡ Err (fault BadWording (at + i))
wording_stops file n i at h l p = let s = wording_step file n i at h in grind (arith, nat_tests)

wording_cut : (file : List ℕ) (n i at : ℕ) → i < n → at + i ≡ length file → wording file (n - i) (at + i) ≡ Err (fault FileEnds (length file))
wording_cut file n i at h l = let s = wording_step file n i at h in grind (arith, nat_tests)

-- the first i bytes are printable
wording_front : (file : List ℕ) (n at i : ℕ) → i ≤ n → at + i ≤ length file → ((k : ℕ) → k < i → between 32 126 (get_or file (at + k) 0) ≡ true)
    → wording file n at ≡ wording file (n - i) (at + i)
wording_front file n at zero h l ok = sym (wording_start file n at)
wording_front file n at (suc i) h l ok =
    wording_front file n at i (omega arith) (omega arith) (λ k q. ok k (omega arith))
    ∙ wording_goes file n i at (omega arith) (omega arith) (ok i (omega arith))
    ∙ ap (λ j. wording file (n - j) (at + j)) (omega arith)

-- m bytes of the file, from a place on
module _ (file : List ℕ) (n at m : ℕ) (few : m ≤ n) (there : at + m ≤ length file) where
  abbrev text : List ℕ
  text = take m (take (length file - at) (drop at file))

  abbrev bad : ℕ → Bool
  bad b = not (between 32 126 b)

  all_there : length text ≡ m
  all_there = grind (arith, places)

  -- the first i of them are printable
  front : (i : ℕ) → i ≤ m → ((k : ℕ) → k < i → bad (get_or text k 0) ≡ false) → wording file n at ≡ wording file (n - i) (at + i)
  front i h ok =
      wording_front file n at i (omega arith) (omega arith) (λ k q. let e : get_or text k 0 ≡ get_or file (at + k) 0 = grind (arith, places) in let p = ok k q in grind (arith, nat_tests))

  pub wording_bad : (i : ℕ) → position bad text ≡ Some i → wording file n at ≡ Err (fault BadWording (at + i))
  wording_bad i e =
      let f = position-Some bad text i 0 e in
      let h : i < m = omega (arith, all_there) in
      let s : get_or text i 0 ≡ get_or file (at + i) 0 = grind (arith, places) in
      let b : between 32 126 (get_or file (at + i) 0) ≡ false = let p = f.1 in grind (arith, nat_tests) in
      front i (omega arith) f.2 ∙ wording_stops file n i at (omega arith) (omega arith) b

  all_pass : position bad text ≡ None → (k : ℕ) → k < m → bad (get_or text k 0) ≡ false
  all_pass e k h =
      let l : length text ≤ position_or_len bad text = grind (arith, nat_tests) in
      fails_before_first bad text k 0 (omega (arith, all_there))

  pub wording_short : position bad text ≡ None → length text < n → at + m ≡ length file → wording file n at ≡ Err (fault FileEnds (length file))
  wording_short e l w = front m (omega arith) (all_pass e) ∙ wording_cut file n m at (omega (arith, all_there)) w

  pub wording_whole : position bad text ≡ None → n ≤ length text → wording file n at ≡ Ok (at + length text)
  wording_whole e l =
      let w : m ≡ n = omega (arith, all_there) in
      front m (omega arith) (all_pass e) ∙ ap (λ j. wording file (n - j) (at + j)) w ∙ wording_done file n at ∙ ap (λ j. Ok (at + j)) (omega (arith, all_there))
