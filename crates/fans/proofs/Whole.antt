-- A fan that is whole has every entry once: its places differ, and there are as many as entries.
use Rattle.std.proofs.Common.{◌≡◌, ℕ, zero, suc, ◌+◌, ◌<◌, ◌≤◌, ◌==◌, Bool, true, false, List, [], ◌∷◌, ◌++◌, All, length, map, get_or, refl, sym, ap, ◌∙◌, subst, arith}
use Rattle.std.specs.List.{AllByRecursion, IsDistinct, list_any, range_with_len, remove}
use Rattle.std.specs.List.Sorted.{IsPermutation}
use Rattle.std.proofs.lemmas.Bool.{true≢false}
use Rattle.std.proofs.lemmas.Bool.Decides.{nat_tests}
use Rattle.std.proofs.lemmas.List.{length-map, nil_from_length}
use Rattle.std.proofs.lemmas.List.Elements.{All-cons, All-from_recursion, All-nil, All-tail}
use Rattle.std.proofs.lemmas.List.Folds.{Any-from_list_any, list_any_at}
use Rattle.std.proofs.lemmas.List.FromFn.{fill_by_all}
use Rattle.std.proofs.lemmas.List.Sorted.{All-permutation, IsPermutation-cons, IsPermutation-map, IsPermutation-refl, IsPermutation-remove, IsPermutation-sym, IsPermutation-to_front, IsPermutation-trans, length_permutation}
use Rattle.std.proofs.lemmas.Option.{same_Some}
use Rattle.std.proofs.lemmas.Map.Keys.{IsDistinct-IsPermutation, IsDistinct-cons, IsDistinct-head, IsDistinct-tail}
use Rattle.std.proofs.lemmas.Map.Steps.{length-le_from_distinct_below}
use Rattle.fans.specs.declared.around.Turned.{Turned}
use Rattle.fans.specs.Around.{around, nodes_of, turn}
use Rattle.fans.specs.Fans.{WholeFanHasAll, WholeFanHasLive, entry}
use Rattle.fans.proofs.Tallies.{around_tells}
use Rattle.fans.proofs.Fans.{IsWay, opens, way_of}

-- ---- the places differ

-- where the fan goes from a place is determined, and so is how far it goes
same_length : (ts : List Turned) (i : ℕ) (ps qs : List ℕ) → IsWay ts i ps → IsWay ts i qs → length ps ≡ length qs
same_length ts i [] [] h k = refl
same_length ts i [] (q ∷ qs) h k = absurd (k.1 (same_Some _ _ (sym k.0 ∙ h)))
same_length ts i (p ∷ ps) [] h k = absurd (h.1 (same_Some _ _ (sym h.0 ∙ k)))
same_length ts i (p ∷ ps) (q ∷ qs) h k =
    let e = same_Some _ _ (sym h.0 ∙ k.0) in
    ap suc (same_length ts q ps qs (subst (λ j. IsWay ts j ps) e h.2) k.2)

-- so it does not come again to a place from which it goes farther
apart : (ts : List Turned) (i : ℕ) (qs : List ℕ) → IsWay ts i qs → (j : ℕ) (ps : List ℕ) → IsWay ts j ps → length ps ≤ length qs
    → AllByRecursion (λ p. (i == p) ≡ false) ps
apart ts i qs k j [] h l = tt
apart ts i qs k j (p ∷ ps) h l = (not_again (i == p) refl, apart ts i qs k p ps h.2 (omega arith))
  where
    not_again : (b : Bool) → (i == p) ≡ b → b ≡ false
    not_again true e =
        let same : p ≡ i = grind (arith, nat_tests) in
        let n = same_length ts i ps qs (subst (λ j. IsWay ts j ps) same h.2) k in
        absurd (omega arith)
    not_again false e = refl

distinct : (ts : List Turned) (i : ℕ) (ps : List ℕ) → IsWay ts i ps → IsDistinct ◌==◌ (i ∷ ps)
unfolding IsDistinct
distinct ts i [] h = IsDistinct-cons ◌==◌ i [] tt tt
distinct ts i (j ∷ ps) h = IsDistinct-cons ◌==◌ i (j ∷ ps) (apart ts i (j ∷ ps) h i (j ∷ ps) h (omega arith)) (distinct ts j ps h.2)

within : (ts : List Turned) (i : ℕ) (ps : List ℕ) → i < length ts → IsWay ts i ps → All (λ p. p < length ts) (i ∷ ps)
within ts i [] l h = All-cons (λ p. p < length ts) i [] l (All-nil _)
within ts i (j ∷ ps) l h = All-cons (λ p. p < length ts) i (j ∷ ps) l (within ts j ps (opens ts _ j h.0).0 h.2)

-- ---- as many different numbers below n as n are all of them

flips : (u v : ℕ) → (u == v) ≡ (v == u)
flips u v = grind (arith, nat_tests)

below_one : (n p : ℕ) → p < suc n → (n == p) ≡ false → p < n
below_one n p h k = grind (arith, nat_tests)

-- all but n itself
below_all : (n : ℕ) (ps : List ℕ) → All (λ p. p < suc n) ps → All (λ p. (n == p) ≡ false) ps → All (λ p. p < n) ps
below_all n ps b k = λ i d l. below_one n (get_or ps i d) (b i d l) (k i d l)

none_there : (n : ℕ) (ps : List ℕ) → list_any (λ p. n == p) ps ≡ false → All (λ p. (n == p) ≡ false) ps
none_there n ps h = λ i d l. told i d l (n == get_or ps i d) refl
  where
    told : (i d : ℕ) → i < length ps → (b : Bool) → (n == get_or ps i d) ≡ b → (n == get_or ps i d) ≡ false
    told i d l true e = absurd (true≢false (sym (list_any_at (λ p. n == p) ps i d l e) ∙ h))
    told i d l false e = e

members : (n : ℕ) (ps : List ℕ) → All (λ p. p < n) ps → (q : ℕ) → list_any (λ p. q == p) ps ≡ true → q < n
members n ps b q h =
    let a = Any-from_list_any (λ p. q == p) ps h in
    let here = b a.0 a.1 a.2 in
    let same = a.3 in
    let test = a.4 in
    grind (arith, nat_tests)

range_more : (a n m : ℕ) → a + n ≡ m → range_with_len a (suc n) ≡ range_with_len a n ++ m ∷ []
range_more a zero m h = ap (λ k. k ∷ []) (omega arith)
range_more a (suc n) m h = ap (λ l. a ∷ l) (range_more (a + 1) n m (omega arith))

module _ (n : ℕ) (ps : List ℕ) (l : length ps ≡ suc n) (d : IsDistinct ◌==◌ ps) (b : All (λ p. p < suc n) ps)
    (next : (qs : List ℕ) → length qs ≡ n → IsDistinct ◌==◌ qs → All (λ p. p < n) qs → IsPermutation (range_with_len 0 n) qs) where
  taken : (k : ℕ) → k < length ps → n ≡ get_or ps k n → IsPermutation (range_with_len 0 (suc n)) ps
  taken k inside is =
      let rest = remove ps k in
      let moved = IsPermutation-remove ps k n inside is in
      let differ = IsDistinct-IsPermutation ◌==◌ flips ps (n ∷ rest) moved d in
      let below = All-tail (λ p. p < suc n) n rest (All-permutation (λ p. p < suc n) ps (n ∷ rest) moved b) in
      let others = All-from_recursion (λ p. (n == p) ≡ false) rest (IsDistinct-head ◌==◌ n rest differ) in
      let count : suc (length rest) ≡ length ps = length_permutation ps (n ∷ rest) moved in
      let fewer : length rest ≡ n = omega arith in
      let front = next rest fewer (IsDistinct-tail ◌==◌ n rest differ) (below_all n rest below others) in
      subst (λ qs. IsPermutation qs ps) (sym (range_more 0 n n (omega arith)))
      (IsPermutation-trans _ _ _ (IsPermutation-to_front (range_with_len 0 n) n)
      (IsPermutation-trans _ _ _ (IsPermutation-cons n (range_with_len 0 n) rest front) (IsPermutation-sym ps (n ∷ rest) moved)))

  found : (there : Bool) → list_any (λ p. n == p) ps ≡ there → IsPermutation (range_with_len 0 (suc n)) ps
  found true e =
      let a = Any-from_list_any (λ p. n == p) ps e in
      let same = a.3 in
      let test = a.4 in
      let is : n ≡ a.1 = grind (arith, nat_tests) in
      taken a.0 a.2 (subst (λ x. n ≡ get_or ps a.0 x) (sym is) (is ∙ sym same))
  found false e =
      let few = length-le_from_distinct_below ps n d (λ q h. members n ps (below_all n ps b (none_there n ps e)) q h) in
      absurd (omega arith)

all_numbers : (n : ℕ) (ps : List ℕ) → length ps ≡ n → IsDistinct ◌==◌ ps → All (λ p. p < n) ps → IsPermutation (range_with_len 0 n) ps
all_numbers zero ps l d b = subst (λ qs. IsPermutation [] qs) (sym (nil_from_length ps l)) (IsPermutation-refl [])
all_numbers (suc n) ps l d b = found n ps l d b (λ qs m e c. all_numbers n qs m e c) (list_any (λ p. n == p) ps) refl

-- ---- the theorems

pub whole_fan_has_all : WholeFanHasAll
whole_fan_has_all ts es h whole =
    let w = way_of ts es h in
    let l : length es ≡ length ts = grind (arith, nat_tests) in
    let n : length (0 ∷ w.places) ≡ length ts = sym (length-map (0 ∷ w.places) (entry ts)) ∙ ap length w.entries ∙ l in
    let all = all_numbers (length ts) (0 ∷ w.places) n (distinct ts 0 w.places w.way) (within ts 0 w.places (omega arith) w.way) in
    let front = fill_by_all (entry ts) ts (length ts) (turn 0 0 0) refl (λ k i. refl) in
    subst (λ l. IsPermutation ts l) w.entries
    (subst (λ l. IsPermutation l (map (entry ts) (0 ∷ w.places))) (sym front) (IsPermutation-map (entry ts) (range_with_len 0 (length ts)) (0 ∷ w.places) all))

pub whole_fan_has_live : WholeFanHasLive
whole_fan_has_live nodes live v es h whole =
    let all = whole_fan_has_all (around nodes live v) es h whole in
    subst (λ l. IsPermutation l (nodes_of es)) ((around_tells nodes live v).0) (IsPermutation-map (λ (t : Turned). t.node) (around nodes live v) es all)
