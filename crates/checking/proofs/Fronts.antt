-- Tables in whose fronts something stands, and lists without a wrong entry.
use Rattle.std.proofs.Common.{◌≡◌, ◌+◌, ℕ, Bool, true, false, cond, List, [], ◌∷◌, ◌++◌, length, take, Option, Some, None, refl, sym, ap, ◌∙◌}
use Rattle.std.proofs.Math.Seq.{drop-append_seam}
use Rattle.std.proofs.lemmas.Bool.{cond-true}
use Rattle.lent.specs.Kept.{over}
use Rattle.checking.specs.Entries.{first_of, unlike}

-- a test that leaves nothing to tell was passed, and what comes after it tells nothing
pub goes_on : {X : Type 0} (b : Bool) (o : Option X) (x : X) → cond b o (Some x) ≡ None → (b ≡ true) × (o ≡ None)
goes_on true o x h = (refl, h)
goes_on false o x h = cc

pub neither : (a b : Option ℕ) → first_of a b ≡ None → (a ≡ None) × (b ≡ None)
neither None b h = (refl, h)
neither (Some i) b h = cc

pub neither_of : (a b : Option ℕ) → a ≡ None → b ≡ None → first_of a b ≡ None
neither_of None b h k = k
neither_of (Some i) b h k = cc

module _ {X : Type 0} where
  -- what stands in the front already can be written there
  pub over_front : (xs rest items : List X) → items ≡ xs ++ rest → over xs items ≡ items
  over_front xs rest items e = rw e (ap (λ l. xs ++ l) (drop-append_seam xs rest))

  module _ (same : X → X → Bool) where
    pub front_is : ((x y : X) → same x y ≡ true → x ≡ y) → (at : ℕ) (wanted found : List X) → unlike same at wanted found ≡ None → take (length wanted) found ≡ wanted
    front_is is at [] found h = refl
    front_is is at (x ∷ wanted) [] h = cc
    front_is is at (x ∷ wanted) (y ∷ found) h =
        let g = goes_on (same x y) (unlike same (at + 1) wanted found) at h in
        let here = sym (is x y g.0) in
        let next = front_is is (at + 1) wanted found g.1 in
        λ i. here i ∷ next i

    pub itself : ((x : X) → same x x ≡ true) → (at : ℕ) (xs : List X) → unlike same at xs xs ≡ None
    itself is at [] = refl
    itself is at (x ∷ xs) = cond-true (same x x) _ _ (is x) ∙ itself is (at + 1) xs
