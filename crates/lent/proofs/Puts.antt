-- What a slice holds after several elements were put into it.
use Rattle.std.proofs.Common.{◌≡◌, ℕ, zero, suc, ◌+◌, ◌-◌, ◌<◌, ◌≤◌, List, [], ◌∷◌, ◌++◌, add-one, length, get_or, take, drop, drop-cons, set, sym, refl, ap, ◌∙◌, append_assoc, arith}
use Rattle.std.specs.List.{range_with_len}
use Rattle.std.proofs.Math.Seq.{set-append_seam}
use Rattle.std.proofs.lemmas.List.{length-append, length-set, take_more, take_more_set, drop-set-lt, take-append-drop, take_at}
use Rattle.std.proofs.lemmas.Bool.{lt-ltb, cond-true}
use Rattle.lent.specs.Kept.{Kept, count_of, elements, kept, put, puts, over}

pub puts_push : {X : Type 0} (k : Kept X) (xs : List X) (x : X) → puts k (xs ++ x ∷ []) ≡ put (puts k xs) x
puts_push k [] x = refl
puts_push k (y ∷ xs) x = puts_push (put k y) xs x

pub puts_append : {X : Type 0} (k : Kept X) (xs ys : List X) → puts k (xs ++ ys) ≡ puts (puts k xs) ys
puts_append k [] ys = refl
puts_append k (x ∷ xs) ys = puts_append (put k x) xs ys

-- more, behind those that were put
pub puts_both : {X : Type 0} (k₀ k k' : Kept X) (xs ys : List X) → k ≡ puts k₀ xs → k' ≡ puts k ys → k' ≡ puts k₀ (xs ++ ys)
puts_both k₀ k k' xs ys e e' = e' ∙ ap (λ j. puts j ys) e ∙ sym (puts_append k₀ xs ys)

-- where there is room for all, they stand behind the first count, and the rest stays
pub puts_room : {X : Type 0} (items : List X) (n : ℕ) (xs : List X) → n + length xs ≤ length items
    → puts (kept items n) xs ≡ kept (take n items ++ (xs ++ drop (n + length xs) items)) (n + length xs)
puts_room items n [] h = let e : n + 0 ≡ n = omega arith in rw e (ap (λ l. kept l n) (sym (take-append-drop n items)))
puts_room {X} items n (x ∷ xs) h =
    let lt : n < length items = omega arith in
    let items' : List X = set items n x in
    let m : ℕ = n + 1 + length xs in
    let room : n + 1 + length xs ≤ length items' = rw (length-set items n x) (omega arith) in
    let first : put (kept items n) x ≡ kept items' (n + 1) = ap (kept items') (cond-true _ (n + 1) n (lt-ltb n (length items) lt)) in
    let front : take (n + 1) items' ≡ take n items ++ x ∷ [] = take_more_set items n x lt in
    let back : drop m items' ≡ drop m items = drop-set-lt m items n x (omega arith) in
    let all : m ≡ n + suc (length xs) = omega arith in
    ap (λ k. puts k xs) first ∙ puts_room items' (n + 1) xs room ∙ ap (λ l. kept l m) (
    ap (λ l. l ++ (xs ++ drop m items')) front
    ∙ append_assoc (take n items) (x ∷ []) (xs ++ drop m items')
    ∙ ap (λ l. take n items ++ x ∷ (xs ++ l)) back)
    ∙ ap (λ j. kept (take n items ++ x ∷ (xs ++ drop j items)) j) all

-- a list that was empty and has room holds them in its front
pub puts_over : {X : Type 0} (items : List X) (xs : List X) → length xs ≤ length items → puts (kept items 0) xs ≡ kept (over xs items) (length xs)
puts_over items xs h =
    let z : 0 + length xs ≡ length xs = omega arith in
    let room : 0 + length xs ≤ length items = omega arith in
    puts_room items 0 xs room ∙ ap (λ j. kept (xs ++ drop j items) j) z

-- one entry more, behind those that are written over the front
pub over_more : {X : Type 0} (items xs : List X) (x : X) → length xs < length items → set (over xs items) (length xs) x ≡ over (xs ++ x ∷ []) items
over_more items xs x inside =
    let n = length xs in
    let rest = drop (n + 1) items in
    let here : drop n items ≡ get_or items n x ∷ rest = rw (← add-one n) at (drop-cons items n x inside) in
    ap (λ l. set (xs ++ l) n x) here ∙ set-append_seam xs (get_or items n x) rest x
    ∙ sym (ap (λ k. (xs ++ x ∷ []) ++ drop k items) (length-append xs (x ∷ [])) ∙ append_assoc xs (x ∷ []) rest)

-- one more, behind those that were put
pub puts_next : {X : Type 0} (k₀ k k' : Kept X) (xs : List X) (x : X) → k ≡ puts k₀ xs → k' ≡ put k x → k' ≡ puts k₀ (xs ++ x ∷ [])
puts_next k₀ k k' xs x e e' = e' ∙ ap (λ j. put j x) e ∙ sym (puts_push k₀ xs x)

-- one turn of a loop that puts each of a list
pub puts_more : {X : Type 0} (k₀ k k' : Kept X) (more : List X) (i : ℕ) (x : X) → i < length more → x ≡ get_or more i x
    → k ≡ puts k₀ (take i more) → k' ≡ put k x → k' ≡ puts k₀ (take (i + 1) more)
puts_more k₀ k k' more i x h r e e' =
    let next : take (i + 1) more ≡ take i more ++ x ∷ [] = take_more more i x h ∙ ap (λ y. take i more ++ y ∷ []) (sym r) in
    puts_next k₀ k k' (take i more) x e e' ∙ ap (puts k₀) (sym next)

-- what the slice holds then
pub over_from_puts : {X : Type 0} (k k₁ : Kept X) (items xs : List X) → k ≡ puts k₁ xs → k₁ ≡ kept items 0 → length xs ≤ length items → k.items ≡ over xs items
over_from_puts k k₁ items xs e f h = ap (λ (j : Kept _). j.items) (e ∙ ap (λ j. puts j xs) f ∙ puts_over items xs h)

-- and the elements of the list
pub elements_from_puts : {X : Type 0} (k k₁ : Kept X) (items xs : List X) → k ≡ puts k₁ xs → k₁ ≡ kept items 0 → length xs ≤ length items → elements k ≡ xs
elements_from_puts k k₁ items xs e f h = ap elements (e ∙ ap (λ j. puts j xs) f ∙ puts_over items xs h) ∙ take_at xs (drop (length xs) items) (length xs) refl

-- how many they are, and where they stand
pub counted_from_puts : {X : Type 0} (k k₁ : Kept X) (items xs : List X) → k ≡ puts k₁ xs → k₁ ≡ kept items 0 → length xs ≤ length items → count_of k ≡ length xs
counted_from_puts k k₁ items xs e f h =
    let long = length-append xs (drop (length xs) items) in
    ap count_of (e ∙ ap (λ j. puts j xs) f ∙ puts_over items xs h) ∙ omega (arith, long)

pub front_from_puts : {X : Type 0} (k k₁ : Kept X) (items xs : List X) → k ≡ puts k₁ xs → k₁ ≡ kept items 0 → length xs ≤ length items → take (length xs) k.items ≡ xs
front_from_puts k k₁ items xs e f h = ap (take (length xs)) (over_from_puts k k₁ items xs e f h) ∙ take_at xs (drop (length xs) items) (length xs) refl

-- ---- a range of numbers

range_push : (a n : ℕ) → range_with_len a (n + 1) ≡ range_with_len a n ++ (a + n) ∷ []
range_push a zero = ap (λ k. k ∷ []) (omega arith)
range_push a (suc n) =
    let e : suc n + 1 ≡ suc (n + 1) = omega arith in
    ap (range_with_len a) e ∙ ap (λ ks. a ∷ ks) (range_push (a + 1) n ∙ ap (λ k. range_with_len (a + 1) n ++ k ∷ []) (omega arith))

-- one number more, where those from a up to i were put
pub range_next : (k₀ k k' : Kept ℕ) (a i : ℕ) → a ≤ i → k ≡ puts k₀ (range_with_len a (i - a)) → k' ≡ put k i → k' ≡ puts k₀ (range_with_len a (i + 1 - a))
range_next k₀ k k' a i from e e' =
    let more : i + 1 - a ≡ i - a + 1 = omega arith in
    let last : a + (i - a) ≡ i = omega arith in
    puts_next k₀ k k' (range_with_len a (i - a)) i e e'
    ∙ ap (puts k₀) (sym (ap (range_with_len a) more ∙ range_push a (i - a) ∙ ap (λ n. range_with_len a (i - a) ++ n ∷ []) last))

-- none of them yet, and all where the end is come to
pub range_none : (k₀ : Kept ℕ) (a : ℕ) → k₀ ≡ puts k₀ (range_with_len a (a - a))
range_none k₀ a = let n : a - a ≡ 0 = omega arith in ap (λ m. puts k₀ (range_with_len a m)) (sym n)
