-- A round over numbers that are right.
use Rattle.std.proofs.Common.{◌≡◌, ℕ, ◌+◌, ◌-◌, ◌<◌, Bool, min, List, [], ◌++◌, length, get_or, take, drop, Some, Ok, Err, Result, sym, ap, ap₂, ◌∙◌, arith}
use Rattle.std.proofs.lemmas.List.{get_or-drop, length-append, length-drop, nil_from_length, take_all}
use Rattle.std.proofs.lemmas.List.FromFn.{length-range_with_len}
use Rattle.std.specs.List.{range_with_len}
use Rattle.plane.specs.declared.Point.{Point}
use Rattle.plane.specs.Points.{GridPoint, place_of}
use Rattle.refusal.specs.declared.Cause.TheVariants.{OutOfRange}
use Rattle.refusal.specs.declared.Layer.TheVariants.{Build}
use Rattle.refusal.specs.Numbers.{refused}
use Rattle.sheet.specs.declared.tables.Size.{Size}
use Rattle.fans.specs.Around.{around, degree, live_said}
use Rattle.nodes.specs.declared.node.Node.{Node}
use Rattle.rounds.specs.declared.held.Held.{Held}
use Rattle.refusal.specs.declared.Refusal.{Refusal}
use Rattle.rounds.specs.declared.choices.Tally.{Tally}
use Rattle.rounds.specs.Near.{found_of, held_of, kept_near, look_near, near, rounded_near, taken_said}
use Rattle.rounds.specs.Rounds.{Rounded, found_refusal, found_said, look_said, right_said, unless}
use Rattle.rounds.specs.Choices.{Found, look_all, nothing_found}
use Rattle.rounds.proofs.Nears.{closings_is, kept_is, look_is, near_is}

-- a vertex that is counted at no live node has none around it
pub none_around : (nodes : List Node) (live ds : List ℕ) (held : List Held) → held ≡ held_of nodes live → Ok tt ≡ live_said nodes live
    → ((v : ℕ) → v < length ds → get_or ds v 0 ≡ min 65535 (degree nodes live v))
    → (i : ℕ) → i < length (take (length ds - 4) (drop 4 ds)) → get_or (take (length ds - 4) (drop 4 ds)) i 0 ≡ 0 → near held (4 + i) ≡ []
none_around nodes live ds held same h counts i inside none =
    let all = take_all (length ds - 4) (drop 4 ds) (omega (arith, length-drop 4 ds)) in
    let here = ap length all in
    let long = length-drop 4 ds in
    let within : 4 + i < length ds = omega arith in
    let count = sym (counts (4 + i) within) ∙ sym (get_or-drop 4 ds i 0) ∙ sym (ap (λ xs. get_or xs i 0) all) ∙ none in
    let zero : degree nodes live (4 + i) ≡ 0 = omega arith in
    ap (λ hs. near hs (4 + i)) same ∙ near_is nodes (4 + i) live (sym h) ∙ nil_from_length (around nodes live (4 + i)) zero

-- ---- why a round goes no further

module _ (at : ℕ → GridPoint) (held : List Held) (nodes : List Node) (marks : List Bool) (t : Tally) (rounds room table count kept capacity : ℕ) where
  pub taken_refused : (e : Refusal) → count ≡ length nodes → capacity ≡ room → kept ≡ length (kept_near marks held)
      → Some e ≡ found_refusal count rounds capacity table (kept + t.fresh) (found_of [] t)
      → taken_said at held nodes marks t rounds room table ≡ Err e
  taken_refused e n r k h =
      let live : length (kept_near marks held ++ range_with_len (length nodes) t.fresh) ≡ kept + t.fresh =
      length-append _ _ ∙ ap (λ m. length (kept_near marks held) + m) (length-range_with_len (length nodes) t.fresh) ∙ ap (λ m. m + t.fresh) (sym k) in
      let f = found_of marks t in
      let r' = rounded_near at held nodes (length marks - 4) f in
      ap (λ m. unless (found_refusal (length nodes) rounds room table m f) r') live
      ∙ ap (λ m. unless (found_refusal m rounds room table (kept + t.fresh) f) r') (sym n)
      ∙ ap (λ m. unless (found_refusal count rounds m table (kept + t.fresh) f) r') (sym r)
      ∙ ap (λ o. unless o r') (sym h)

pub ruleset refusing = (taken_refused)

-- ---- as the nodes of the store are

module _ (z : Size) (ps : List Point) (nodes : List Node) (live : List ℕ) (rounds room table : ℕ) (held : List Held) (marks : List Bool)
    (right : live_said nodes live ≡ Ok tt) (same : held ≡ held_of nodes live) (long : length marks ≡ z.inner + 4) where
  -- what is found over the nodes that are held is found over those of the store
  found_is : (r : Result Found ℕ) → r ≡ look_near (place_of ps) held (length marks - 4) 4 (nothing_found (length marks))
      → r ≡ look_all (place_of ps) nodes live z.inner
  found_is r h =
      let inner : length marks - 4 ≡ z.inner = omega arith in
      h ∙ ap (λ n. look_near (place_of ps) held n 4 (nothing_found (length marks))) inner
      ∙ ap (λ n. look_near (place_of ps) held z.inner 4 (nothing_found n)) long
      ∙ ap (λ hs. look_near (place_of ps) hs z.inner 4 (nothing_found (z.inner + 4))) same
      ∙ look_is nodes (place_of ps) live right z.inner 4 (nothing_found (z.inner + 4))

  pub right_broken : (v : ℕ) → Err v ≡ look_near (place_of ps) held (length marks - 4) 4 (nothing_found (length marks))
      → right_said z ps nodes live rounds room table ≡ Err (refused OutOfRange Build v)
  right_broken v h = ap (look_said z ps nodes live rounds room table) (sym (found_is (Err v) h))

  pub right_taken : (others : List Bool) (t : Tally) → length others ≡ length marks
      → Ok (found_of others t) ≡ look_near (place_of ps) held (length marks - 4) 4 (nothing_found (length marks))
      → right_said z ps nodes live rounds room table ≡ taken_said (place_of ps) held nodes others t rounds room table
  right_taken others t width h =
      let f = found_of others t in
      let inner : z.inner ≡ length others - 4 = omega arith in
      let said : Rounded → Result Rounded Refusal = λ r. found_said nodes rounds room table r f in
      let added = closings_is nodes (place_of ps) live right others z.inner 4 in
      let kept = kept_is nodes (place_of ps) others live live in
      ap (look_said z ps nodes live rounds room table) (sym (found_is (Ok f) h))
      ∙ ap₂ (λ (ns : List Node) (ks : List ℕ). said (record { nodes = nodes ++ ns; live = ks ++ range_with_len (length nodes) t.fresh }))
      (sym added) (sym kept)
      ∙ ap (λ hs. said (rounded_near (place_of ps) hs nodes z.inner f)) (sym same)
      ∙ ap (λ n. said (rounded_near (place_of ps) held nodes n f)) inner

pub ruleset right = (right_broken, right_taken)
