-- At most half of the edges that a sheet lists are drawn, where no loop names a vertex twice, no edge is listed twice and the reverse of
-- each is listed: an edge that is drawn has a reverse, which is another edge and is not drawn.
use Rattle.std.proofs.Common.{◌≡◌, ◌≢◌, ℕ, ◌+◌, ◌*◌, ◌≤◌, true, false, cond, eqb, ◌||◌, ◌⊎◌, List, [], ◌∷◌, ◌++◌, length, Option, Some, None, is_some, refl, sym, ap, ◌∙◌, subst, inl, inr, arith}
use Rattle.std.proofs.lemmas.Bool.{eq-eqb, false≢true}
use Rattle.std.proofs.lemmas.List.{length-append}
use Rattle.plane.specs.declared.Edge.{Edge}
use Rattle.plane.specs.Edges.{In, Once, back, edge, links, outside, ring_edges, same_edge}
use Rattle.clash.specs.Clashes.{first_clash_in}
use Rattle.clash.proofs.Firsts.{IsFree-from_None}
use Rattle.sheet.specs.Legal.{LegalRing, LegalSheet}
use Rattle.sheet.specs.Sheets.{Ring, Sheet, corners_in, edges_of}
use Rattle.tiling.proofs.Lists.{in_left, in_right, in_split, joined_in}
use Rattle.rules.specs.Rules.{drawn_edges, edges_broken, first_listed, is_listed, loops_broken, names_twice, reverses_broken}
use Rattle.rules.proofs.Drawn.{Has, has_more}
use Rattle.rules.proofs.Elements.{all_in, none_passes, once_from_free}
use Rattle.rules.proofs.Nothing.{edges_free}
use Rattle.rules.proofs.Orders.{paired, same_edge_itself}
use Rattle.rules.proofs.Rows.{ring_length, rows_of}

-- ---- a list of different elements is no longer than one that has all of them

module _ {X : Type 0} where
  -- one element less, and every other is still there
  without : (x : X) (m : List X) → In x m → (rest : List X) × (length m ≡ length rest + 1) × ((y : X) → In y m → (y ≡ x) ⊎ In y rest)
  without x [] i = absurd i
  without x (z ∷ m) (inl e) = (m, omega arith, λ y j. elim j [ inl q ↦ inl (q ∙ sym e) | inr k ↦ inr k ])
  without x (z ∷ m) (inr i) =
      let r = without x m i in
      (z ∷ r.0, omega (arith, r.1), λ y j. elim j [ inl q ↦ inr (inl q) | inr k ↦ elim (r.2 y k) [ inl q ↦ inl q | inr n ↦ inr (inr n) ] ])

  -- so elements that all differ and are all in m are no more than those of m
  no_longer : (l m : List X) → Once l → ((x : X) → In x l → In x m) → length l ≤ length m
  no_longer [] m once has = omega arith
  no_longer (x ∷ l) m once has =
      let r = without x m (has x (inl refl)) in
      let others : (y : X) → In y l → In y r.0 = λ y j. elim (r.2 y (has y (inr j))) [ inl q ↦ absurd (once.0 (subst (λ z. In z l) q j)) | inr k ↦ k ] in
      omega (arith, no_longer l r.0 once.1 others, r.1)

-- ---- edges, each with its reverse

abbrev pairs : List Edge → List Edge
pairs [] = []
pairs (e ∷ es) = e ∷ back e ∷ pairs es

pairs_length : (es : List Edge) → length (pairs es) ≡ 2 * length es
pairs_length [] = refl
pairs_length (e ∷ es) = omega (arith, pairs_length es)

-- what stands among the pairs is an edge of the list or the reverse of one
pairs_has : (es : List Edge) (e : Edge) → In e (pairs es) → Has es e
pairs_has [] e i = absurd i
pairs_has (x ∷ es) e (inl q) = inl (inl q)
pairs_has (x ∷ es) e (inr (inl q)) = inr (inl (ap back q))
pairs_has (x ∷ es) e (inr (inr i)) = has_more es x e (pairs_has es e i)

-- and a list has an edge where it has the reverse
has_turned : (es : List Edge) (e : Edge) → Has es (back e) → Has es e
has_turned es e (inl i) = inr i
has_turned es e (inr i) = inl i

-- neither an edge nor its reverse follows
abbrev pub Single : List Edge → Type 0
Single [] = Unit {0}
Single (e ∷ es) = (¬ (Has es e)) × Single es

-- so each stands once among the pairs, where it is another one than its reverse
once_pairs : (es : List Edge) → Single es → ((e : Edge) → In e es → ¬ (e ≡ back e)) → Once (pairs es)
once_pairs [] single turned = tt
once_pairs (e ∷ es) single turned = (
  λ i. elim i [ inl q ↦ turned e (inl refl) q | inr j ↦ single.0 (pairs_has es e j) ],
  (λ i. single.0 (has_turned es e (pairs_has es (back e) i)), once_pairs es single.1 (λ f i. turned f (inr i))),
)

-- ---- the edges that are drawn are single

-- what is in a list is found there
pub listed_in : (l : List Edge) (e : Edge) → In e l → is_listed l e ≡ true
listed_in [] e i = absurd i
listed_in (x ∷ l) e (inl q) = subst (λ y. is_listed (y ∷ l) e ≡ true) q (ap (λ b. b || is_listed l e) (same_edge_itself e))
listed_in (x ∷ l) e (inr i) = elim (same_edge e x) as (λ b. (b || is_listed l e) ≡ true) [ true ↦ refl | false ↦ listed_in l e i ]

-- what is drawn is listed
pub drawn_in : (before es : List Edge) (e : Edge) → In e (first_listed before es) → In e es
drawn_in before [] e i = i
drawn_in before (x ∷ es) e i =
    let rest = first_listed (before ++ x ∷ []) es in
    let later = drawn_in (before ++ x ∷ []) es e in
    elim (is_listed before (back x)) as (λ b. In e (cond b rest (x ∷ rest)) → In e (x ∷ es)) [
      | true ↦ λ j. inr (later j)
      | false ↦ λ j. elim j [ inl q ↦ inl q | inr k ↦ inr (later k) ]
    ] i

-- and its reverse was not listed before
drawn_first : (before es : List Edge) (e : Edge) → In e (first_listed before es) → ¬ (In (back e) before)
drawn_first before [] e i = absurd i
drawn_first before (x ∷ es) e i = λ h.
    let rest = first_listed (before ++ x ∷ []) es in
    let later : ¬ (In e rest) = λ j. drawn_first (before ++ x ∷ []) es e j (in_left (back e) before (x ∷ []) h) in
    elim (is_listed before (back x)) as (λ b. is_listed before (back x) ≡ b → In e (cond b rest (x ∷ rest)) → ⊥) [
      | true ↦ λ _ j. later j
      | false ↦ λ is j. elim j [ inl q ↦ false≢true (sym is ∙ listed_in before (back x) (subst (λ y. In (back y) before) q h)) | inr k ↦ later k ]
    ] refl i

-- so the reverse of what is drawn is not drawn
pub drawn_single : (before es : List Edge) → Once es → Single (first_listed before es)
drawn_single before [] once = tt
drawn_single before (x ∷ es) once =
    let behind = before ++ x ∷ [] in
    let rest = first_listed behind es in
    let later = drawn_single behind es once.1 in
    elim (is_listed before (back x)) as (λ b. Single (cond b rest (x ∷ rest))) [
      | true ↦ later
      | false ↦ (
        λ h. elim h [ inl i ↦ once.0 (drawn_in behind es x i) | inr i ↦ drawn_first behind es (back x) i (in_right x before (x ∷ []) (inl refl)) ],
        later,
      )
    ]

-- ---- no edge of a loop, and none of the outside, is its own reverse

-- an edge between two vertices
joins : (e : Edge) (u v : ℕ) → e ≡ edge u v → u ≢ v → e.from ≢ e.to
joins e u v q other = λ h. other (sym (ap (λ (f : Edge). f.from) q) ∙ h ∙ ap (λ (f : Edge). f.to) q)

-- an edge of a path that ends in another vertex w
links_join : (e : Edge) (u w : ℕ) (cs : List ℕ) → u ≢ w → Once (u ∷ cs) → ¬ (In w cs) → In e (links (u ∷ cs ++ w ∷ [])) → e.from ≢ e.to
links_join e u w [] other once last (inl q) = joins e u w q other
links_join e u w [] other once last (inr n) = absurd n
links_join e u w (c ∷ cs) other once last (inl q) = joins e u c q (λ h. once.0 (inl h))
links_join e u w (c ∷ cs) other once last (inr i) = links_join e c w cs (λ h. last (inl (sym h))) once.1 (λ j. last (inr j)) i

ring_join : (e : Edge) (cs : List ℕ) → Once cs → 3 ≤ length cs → In e (ring_edges cs) → e.from ≢ e.to
ring_join e [] once many i = absurd i
ring_join e (u ∷ []) once many i = absurd (omega arith)
ring_join e (u ∷ v ∷ cs) once many (inl q) = joins e u v q (λ h. once.0 (inl h))
ring_join e (u ∷ v ∷ cs) once many (inr i) = links_join e v u cs (λ h. once.0 (inl (sym h))) once.1 (λ j. once.0 (inr j)) i

outside_join : (e : Edge) → In e outside → e.from ≢ e.to
outside_join e (inl q) = joins e 1 0 q (λ h. omega arith)
outside_join e (inr (inl q)) = joins e 2 1 q (λ h. omega arith)
outside_join e (inr (inr (inl q))) = joins e 3 2 q (λ h. omega arith)
outside_join e (inr (inr (inr (inl q)))) = joins e 0 3 q (λ h. omega arith)
outside_join e (inr (inr (inr (inr n)))) = absurd n

-- ---- what the limits and the rules say of loops

nothing_said : {X : Type 0} (o : Option X) → is_some o ≡ false → o ≡ None
nothing_said None h = refl
nothing_said (Some x) h = cc

pub ring_once : (r : Ring) → names_twice r ≡ false → Once r.corners
ring_once r h =
    once_from_free eqb (λ v. eq-eqb v v refl) r.corners (IsFree-from_None eqb r.corners (nothing_said (first_clash_in eqb r.corners) h))

rows_length : (rs : List Ring) → length (rows_of rs) ≡ corners_in rs
rows_length [] = refl
rows_length (r ∷ rs) = omega (arith, length-append (ring_edges r.corners) (rows_of rs), ring_length r.corners, rows_length rs)

-- ---- the sheet

module _ (s : Sheet) (legal : LegalSheet s) (loops : loops_broken s ≡ None) (edges : edges_broken s ≡ None) (reverses : reverses_broken s ≡ None) where
  edges_join : (e : Edge) → In e (edges_of s) → e.from ≢ e.to
  edges_join e i = elim (in_split e (rows_of s.rings) outside i) [
    | inl j ↦
        let r = joined_in (λ r. ring_edges r.corners) e s.rings j in
        let once = all_in (λ r. names_twice r ≡ false) s.rings (none_passes names_twice s.rings loops) r.0 r.1 in
        let ring = all_in (LegalRing (length s.inner + 4)) s.rings legal.rings r.0 r.1 in
        ring_join e r.0.corners (ring_once r.0 once) ring.least r.2
    | inr j ↦ outside_join e j
  ]

  -- the edges that are drawn, and their reverses, are all listed
  pairs_listed : (e : Edge) → In e (pairs (drawn_edges s)) → In e (edges_of s)
  pairs_listed e i = elim (pairs_has (drawn_edges s) e i) [
    | inl j ↦ drawn_in [] (edges_of s) e j
    | inr j ↦ paired s reverses (back e) (drawn_in [] (edges_of s) (back e) j)
  ]

  -- as many as the loops' corners, and four outside
  few_listed : length (edges_of s) ≤ 6154
  few_listed = omega (arith, length-append (rows_of s.rings) outside, rows_length s.rings, legal.corners)

  pub few_drawn : length (drawn_edges s) ≤ 3077
  few_drawn =
      let once = once_from_free same_edge same_edge_itself (edges_of s) (edges_free s edges) in
      let turned : (e : Edge) → In e (drawn_edges s) → ¬ (e ≡ back e) = λ e i q. edges_join e (drawn_in [] (edges_of s) e i) (ap (λ (f : Edge). f.from) q) in
      let pairs_once = once_pairs (drawn_edges s) (drawn_single [] (edges_of s) once) turned in
      let fits = no_longer (pairs (drawn_edges s)) (edges_of s) pairs_once pairs_listed in
      omega (arith, fits, pairs_length (drawn_edges s), few_listed)
