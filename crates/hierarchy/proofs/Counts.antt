-- How many numbers of a range pass a test, and how many vertices have a live node.
use Rattle.std.proofs.Common.{◌≡◌, ℕ, zero, suc, ◌+◌, ◌<◌, ◌≤◌, Bool, true, false, cond, List, [], ◌∷◌, length, nat_lt, is_some, sym, refl, ap, ◌∙◌, inl, arith}
use Rattle.std.proofs.lemmas.Bool.{cond-true, lt-ltb, ltb-true}
use Rattle.std.proofs.lemmas.List.{length-map}
use Rattle.plane.specs.Edges.{In}
use Rattle.nodes.specs.declared.node.Node.{Node}
use Rattle.fans.specs.declared.around.Turned.{Turned}
use Rattle.fans.specs.Around.{around, degree, live_around, turned_at}
use Rattle.fans.proofs.Tallies.{around_tells}
use Rattle.hierarchy.proofs.Elements.{filter_in, in_filter, place_in}

-- of so many numbers from v on, how many pass a test
abbrev pub counted : (ℕ → Bool) → (n v : ℕ) → ℕ
counted test zero v = 0
counted test (suc n) v = cond (test v) 1 0 + counted test n (v + 1)

one_apart : (p q r : Bool) → (p ≡ true → r ≡ true) → (q ≡ true → r ≡ true) → (p ≡ true → q ≡ true → ⊥) → cond p 1 0 + cond q 1 0 ≤ cond r 1 0
one_apart true true r h k apart = absurd (apart refl refl)
one_apart true false r h k apart = let e : cond {A = ℕ} r 1 0 ≡ 1 = cond-true r 1 0 (h refl) in omega arith
one_apart false true r h k apart = let e : cond {A = ℕ} r 1 0 ≡ 1 = cond-true r 1 0 (k refl) in omega arith
one_apart false false r h k apart = omega arith

-- where no number passes both of two tests, and a third test passes what either of them does, the two count no more than the third
pub counted_apart : (p q r : ℕ → Bool) → ((w : ℕ) → p w ≡ true → r w ≡ true) → ((w : ℕ) → q w ≡ true → r w ≡ true)
    → ((w : ℕ) → p w ≡ true → q w ≡ true → ⊥) → (n v : ℕ) → counted p n v + counted q n v ≤ counted r n v
counted_apart p q r h k apart zero v = omega arith
counted_apart p q r h k apart (suc n) v =
    let a = one_apart (p v) (q v) (r v) (h v) (k v) (apart v) in
    let b = counted_apart p q r h k apart n (v + 1) in
    omega arith

-- ---- vertices with a live node

abbrev pub has_live : List Node → List ℕ → ℕ → Bool
has_live nodes live v = nat_lt 0 (degree nodes live v)

first_in : (l : List ℕ) → 0 < length l → (k : ℕ) × In k l
first_in [] h = absurd (omega arith)
first_in (k ∷ l) h = (k, inl refl)

module _ (nodes : List Node) (live : List ℕ) (v : ℕ) where
  -- the degree counts the live nodes that turn to v
  degree_is : degree nodes live v ≡ length (live_around nodes live v)
  degree_is = sym (length-map (around nodes live v) (λ (t : Turned). t.node)) ∙ ap length (around_tells nodes live v).0

  -- so it is above 0 exactly where there is such a node
  pub live_from : has_live nodes live v ≡ true → (k : ℕ) × In k live × (is_some (turned_at nodes v k) ≡ true)
  live_from h =
      let d = degree_is in
      let b = ltb-true _ _ h in
      let r = first_in (live_around nodes live v) (omega arith) in
      let i = in_filter (λ k. is_some (turned_at nodes v k)) r.0 live r.1 in
      (r.0, i.0, i.1)

  pub live_to : (k : ℕ) → In k live → is_some (turned_at nodes v k) ≡ true → has_live nodes live v ≡ true
  live_to k i t =
      let r = place_in 0 k (live_around nodes live v) (filter_in (λ k. is_some (turned_at nodes v k)) k live i t) in
      let d = degree_is in
      lt-ltb _ _ (let b = r.1 in omega arith)
