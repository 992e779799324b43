-- The live nodes around a vertex, counted one after another.
use Rattle.std.proofs.Common.{◌≡◌, ℕ, ◌+◌, ◌<◌, ◌≤◌, ◌==◌, ◌||◌, Bool, true, false, cond, min, List, [], ◌∷◌, ◌++◌, length, map, get_or, take, drop, Ok, Err, Some, None, Option, is_some, IfSome, refl, sym, ap, ◌∙◌, subst, arith}
use Rattle.std.specs.List.{All, cons_option, filter_map}
use Rattle.std.specs.Option.{option_and_then}
use Rattle.std.proofs.lemmas.List.{at_drop_all, at_drop_more, append-nil, get_or_past, length_push, take_all, take_more}
use Rattle.std.proofs.lemmas.List.Elements.{All-cons, All-nil, filter_map-append}
use Rattle.nodes.specs.declared.node.Node.{Node}
use Rattle.nodes.specs.Nodes.{blank}
use Rattle.refusal.specs.declared.Refusal.{Refusal}
use Rattle.refusal.specs.declared.Cause.TheVariants.{OutOfRange}
use Rattle.refusal.specs.declared.Layer.TheVariants.{Store}
use Rattle.refusal.specs.Numbers.{refused}
use Rattle.fans.specs.declared.around.Turned.{Turned}
use Rattle.plane.specs.declared.Corners.{Corners}
use Rattle.fans.specs.Around.{AroundTells, around, corners_of, corners_said, degree, is_corner, live_around, live_said, nodes_of, or_refused, raised, turn, turned, turned_at}

-- ---- what one read tells

read_node : (b : Bool) (k : ℕ) (x c : Corners) → Ok c ≡ or_refused k (cond b (Some x) None) → (b ≡ true) × (x ≡ c)
read_node true k x c h = (refl, cc)
read_node false k x c h = cc

read_past : (b : Bool) (k : ℕ) (x : Corners) (e : Refusal) → Err e ≡ or_refused k (cond b (Some x) None) → (b ≡ false) × (e ≡ refused OutOfRange Store k)
read_past true k x e h = cc
read_past false k x e h = (refl, cc)

-- where no node is, the corners are those of the node that stands for none
pub corners_or_none : (nodes : List Node) (k : ℕ) → length nodes ≤ k → corners_of (get_or nodes k blank) ≡ record { a = 0; b = 0; c = 0 }
corners_or_none nodes k h = ap corners_of (get_or_past nodes k blank h)

-- a node turns exactly where it has the corner
one_of : (b c d : Bool) (t u w : Turned) → is_some (cond b (Some t) (cond c (Some u) (cond d (Some w) None))) ≡ (b || (c || d))
one_of true c d t u w = refl
one_of false true d t u w = refl
one_of false false true t u w = refl
one_of false false false t u w = refl

turns : (v k : ℕ) (c : Corners) → is_some (turned v k c) ≡ is_corner v c
turns v k c = one_of (c.a == v) (c.b == v) (c.c == v) (turn k c.b c.c) (turn k c.c c.a) (turn k c.a c.b)

-- ---- one more live node

module _ (nodes : List Node) (live : List ℕ) (i : ℕ) (more : i < length live) where
  around_more : (v : ℕ) → around nodes (take (i + 1) live) v ≡ around nodes (take i live) v ++ around nodes (get_or live i 0 ∷ []) v
  unfolding around
  around_more v = ap (filter_map (turned_at nodes v)) (take_more live i 0 more) ∙ filter_map-append (turned_at nodes v) (take i live) (get_or live i 0 ∷ [])

  around_one : (v : ℕ) (t : Turned) → turned_at nodes v (get_or live i 0) ≡ Some t → around nodes (take (i + 1) live) v ≡ around nodes (take i live) v ++ t ∷ []
  unfolding around
  around_one v t h = around_more v ∙ rw h refl

  around_none : (v : ℕ) → turned_at nodes v (get_or live i 0) ≡ None → around nodes (take (i + 1) live) v ≡ around nodes (take i live) v
  unfolding around
  around_none v h = around_more v ∙ rw h (append-nil _)

  live_more : (c : Corners) → Ok c ≡ corners_said nodes (get_or live i 0) → live_said nodes (drop i live) ≡ live_said nodes (drop (i + 1) live)
  unfolding live_said
  live_more c h =
      at_drop_more (live_said nodes) live i 0 more
      ∙ ap (λ b. cond b (live_said nodes (drop (i + 1) live)) (Err (refused OutOfRange Store (get_or live i 0)))) ((read_node _ _ _ _ h).0)

  live_ends : (e : Refusal) → Err e ≡ corners_said nodes (get_or live i 0) → live_said nodes (drop i live) ≡ Err e
  unfolding live_said
  live_ends e h =
      let r = read_past _ _ _ _ h in
      at_drop_more (live_said nodes) live i 0 more
      ∙ ap (λ b. cond b (live_said nodes (drop (i + 1) live)) (Err (refused OutOfRange Store (get_or live i 0)))) r.0
      ∙ ap Err (sym r.1)

-- ---- the counts in a table

pub record Counted (nodes : List Node) (live ds : List ℕ) (i : ℕ) : Type 0 where
  pub said : live_said nodes live ≡ live_said nodes (drop i live)
  pub counts : (v : ℕ) → v < length ds → get_or ds v 0 ≡ min 65535 (degree nodes (take i live) v)

pub counted_none : (nodes : List Node) (live ds : List ℕ) → ((v : ℕ) → v < length ds → get_or ds v 0 ≡ 0) → Counted nodes live ds 0
unfolding around
counted_none nodes live ds h = record { said = refl; counts = h }

one_more : (o : Option Turned) (nodes : List Node) (live : List ℕ) (i v : ℕ) → i < length live → turned_at nodes v (get_or live i 0) ≡ o
    → degree nodes (take (i + 1) live) v ≡ cond (is_some o) (degree nodes (take i live) v + 1) (degree nodes (take i live) v)
one_more (Some t) nodes live i v more h = ap length (around_one nodes live i more v t h) ∙ length_push _ t
one_more None nodes live i v more h = ap length (around_none nodes live i more v h)

capped : (b : Bool) (d : ℕ) → raised b (min 65535 d) ≡ min 65535 (cond b (d + 1) d)
capped true d = omega arith
capped false d = refl

module _ (nodes : List Node) (live ds : List ℕ) (i : ℕ) (g : Counted nodes live ds i) where
  pub counted_refused : (e : Refusal) → i < length live → Err e ≡ corners_said nodes (get_or live i 0) → Err e ≡ live_said nodes live
  counted_refused e more h = sym (g.said ∙ live_ends nodes live i more e h)

  pub counted_more : (c : Corners) (es : List ℕ) → i < length live → Ok c ≡ corners_said nodes (get_or live i 0) → length es ≡ length ds
      → ((v : ℕ) → v < length ds → get_or es v 0 ≡ raised (is_corner v c) (get_or ds v 0)) → Counted nodes live es (i + 1)
  counted_more c es more h same up =
      let k = get_or live i 0 in
      let r = read_node _ _ _ _ h in
      let at : (v : ℕ) → turned_at nodes v k ≡ turned v k c = λ v. ap (λ b. option_and_then (turned v k) (cond b (Some (corners_of (get_or nodes k blank))) None)) r.0 ∙ ap (turned v k) r.1 in
      record {
        said = g.said ∙ live_more nodes live i more c h;
        counts = λ v l.
            let inside : v < length ds = omega arith in
            up v inside ∙ ap (raised (is_corner v c)) (g.counts v inside) ∙ capped (is_corner v c) _
            ∙ ap (min 65535) (ap (λ b. cond b (degree nodes (take i live) v + 1) (degree nodes (take i live) v)) (sym (turns v k c)) ∙ sym (one_more _ nodes live i v more (at v)));
      }

  pub counted_all : length live ≤ i → Ok tt ≡ live_said nodes live
  unfolding live_said
  counted_all done = sym (g.said ∙ at_drop_all (live_said nodes) live i done)

  pub counted_at : length live ≤ i → (v : ℕ) → v < length ds → get_or ds v 0 ≡ min 65535 (degree nodes live v)
  counted_at done v l = g.counts v l ∙ ap (λ xs. min 65535 (degree nodes xs v)) (take_all i live done)

-- ---- the theorems

-- an entry has the number of its node
numbered : (b c d : Bool) (k p q r s t u : ℕ)
    → IfSome (cond b (Some (turn k p q)) (cond c (Some (turn k r s)) (cond d (Some (turn k t u)) None))) (λ (t : Turned). t.node ≡ k)
numbered true c d k p q r s t u = refl
numbered false true d k p q r s t u = refl
numbered false false true k p q r s t u = refl
numbered false false false k p q r s t u = tt

numbered_at : (b : Bool) (v k : ℕ) (c : Corners) → IfSome (option_and_then (turned v k) (cond b (Some c) None)) (λ (t : Turned). t.node ≡ k)
numbered_at true v k c = numbered (c.a == v) (c.b == v) (c.c == v) k c.b c.c c.c c.a c.a c.b
numbered_at false v k c = tt

kept : (o : Option Turned) (k : ℕ) (ts : List Turned) (ks : List ℕ) → IfSome o (λ (t : Turned). t.node ≡ k) → map (λ (t : Turned). t.node) ts ≡ ks
    → map (λ (t : Turned). t.node) (cons_option o ts) ≡ cond (is_some o) (k ∷ ks) ks
kept (Some t) k ts ks h e = cc
kept None k ts ks h e = e

nodes_around : (nodes : List Node) (v : ℕ) (live : List ℕ) → nodes_of (around nodes live v) ≡ live_around nodes live v
unfolding around
nodes_around nodes v [] = refl
nodes_around nodes v (k ∷ live) = kept (turned_at nodes v k) k _ _ (numbered_at _ v k _) (nodes_around nodes v live)

-- and it is as that node turns
as_turned : List Node → ℕ → Turned → Type 0
as_turned nodes v t = turned_at nodes v t.node ≡ Some t

one_as_turned : (nodes : List Node) (v k : ℕ) (o : Option Turned) (ts : List Turned) → turned_at nodes v k ≡ o → All (as_turned nodes v) ts
    → All (as_turned nodes v) (cons_option o ts)
unfolding as_turned
one_as_turned nodes v k None ts e all = all
one_as_turned nodes v k (Some t) ts e all =
    let n = subst (λ o. IfSome o (λ (t : Turned). t.node ≡ k)) e (numbered_at _ v k _) in
    All-cons (as_turned nodes v) t ts (ap (turned_at nodes v) n ∙ e) all

all_as_turned : (nodes : List Node) (v : ℕ) (live : List ℕ) → All (as_turned nodes v) (around nodes live v)
unfolding around
all_as_turned nodes v [] = All-nil _
all_as_turned nodes v (k ∷ live) = one_as_turned nodes v k (turned_at nodes v k) _ refl (all_as_turned nodes v live)

pub around_tells : AroundTells
unfolding as_turned
around_tells nodes live v = (nodes_around nodes v live, all_as_turned nodes v live)
