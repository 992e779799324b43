-- The first position in a list whose element passes a test.
use Rattle.std.proofs.Common.{◌≡◌, ℕ, zero, suc, ◌+◌, Bool, true, false, cond, List, [], ◌∷◌, map, Option, Some, None, refl, sym, ap, ◌∙◌, arith}
use Rattle.std.specs.List.{find, position, range_with_len}
use Rattle.std.specs.Option.{option_map}
use Rattle.std.proofs.lemmas.Bool.Decides.{nat_tests}

-- a position in a list, by its first element
pub position_cons : {X : Type 0} (p : X → Bool) (x : X) (xs : List X) → position p (x ∷ xs) ≡ cond (p x) (Some 0) (option_map (λ i. i + 1) (position p xs))
position_cons p x xs = grind (arith, nat_tests)

-- the first number of a range that passes a test
one_less : (b : Bool) (a : ℕ) (o f : Option ℕ) → f ≡ option_map (λ i. a + 1 + i) o → cond b (Some a) f ≡ option_map (λ i. a + i) (cond b (Some 0) (option_map (λ i. i + 1) o))
one_less true a o f h = ap Some (omega arith)
one_less false a None f h = h
one_less false a (Some i) f h = h ∙ ap Some (omega arith)

find_from : (p : ℕ → Bool) (a n : ℕ) → find p (range_with_len a n) ≡ option_map (λ i. a + i) (position p (range_with_len a n))
find_from p a zero = refl
find_from p a (suc n) =
    one_less (p a) a (position p (range_with_len (a + 1) n)) (find p (range_with_len (a + 1) n)) (find_from p (a + 1) n)
    ∙ ap (option_map (λ i. a + i)) (sym (position_cons p a (range_with_len (a + 1) n)))

as_found : {X : Type 0} (o : Option X) → o ≡ option_map (λ x. x) o
as_found None = refl
as_found (Some x) = refl

pub find_in_range : (p : ℕ → Bool) (n : ℕ) (r : Option ℕ) → option_map (λ x. x) r ≡ find p (range_with_len 4 n) → r ≡ option_map (λ i. 4 + i) (position p (range_with_len 4 n))
find_in_range p n r h = as_found r ∙ h ∙ find_from p 4 n

-- of a list that was made of another one
pub position_map : {X Y : Type 0} (f : X → Y) (p : Y → Bool) (xs : List X) → position p (map f xs) ≡ position (λ x. p (f x)) xs
position_map f p [] = refl
position_map f p (x ∷ xs) =
    position_cons p (f x) (map f xs) ∙ ap (λ o. cond (p (f x)) (Some 0) (option_map (λ i. i + 1) o)) (position_map f p xs)
    ∙ sym (position_cons (λ x. p (f x)) x xs)
