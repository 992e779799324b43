-- The live nodes with their corners.
use Rattle.std.proofs.Common.{◌≡◌, ℕ, zero, suc, ◌+◌, ◌<◌, Bool, true, false, not, cond, nat_lt, List, [], ◌∷◌, ◌++◌, length, get_or, map, take, set, Some, None, Ok, Err, Result, refl, sym, ap, ◌∙◌}
use Rattle.std.specs.List.{cons_option, filter, filter_map}
use Rattle.std.specs.Option.{option_and_then}
use Rattle.std.proofs.lemmas.List.{append-nil, take_more, take_more_set}
use Rattle.std.proofs.lemmas.List.Elements.{filter_map-append}
use Rattle.plane.specs.Points.{GridPoint}
use Rattle.fans.specs.declared.around.Turned.{Turned}
use Rattle.fans.specs.Around.{around, corners_of, live_said, turned}
use Rattle.fans.specs.Fans.{fan_of}
use Rattle.refusal.specs.declared.Cause.TheVariants.{OutOfRange}
use Rattle.refusal.specs.declared.Layer.TheVariants.{Store}
use Rattle.refusal.specs.declared.Refusal.{Refusal}
use Rattle.refusal.specs.Numbers.{refused}
use Rattle.nodes.specs.declared.node.Node.{Node}
use Rattle.nodes.specs.Nodes.{blank}
use Rattle.rounds.specs.declared.held.Held.{Held}
use Rattle.rounds.specs.Choices.{Found, closed_fan, closing, closings, goes, is_marked, look, look_from, look_on}
use Rattle.rounds.specs.Near.{closings_near, held_at, held_of, kept_near, look_near, near, turned_held}

-- ---- gathering those around a vertex

pub gathered_none : (v : ℕ) → [] ≡ near [] v
unfolding near
gathered_none v = refl

module _ (held : List Held) (v i : ℕ) (d : Held) (more : i < length held) where
  near_more : near (take (i + 1) held) v ≡ near (take i held) v ++ cons_option (turned_held v (get_or held i d)) []
  unfolding near
  near_more = ap (filter_map (turned_held v)) (take_more held i d more) ∙ filter_map-append (turned_held v) (take i held) (get_or held i d ∷ [])

module _ (found : List Turned) (n : ℕ) (held : List Held) (v i : ℕ) (d : Held) (front : take n found ≡ near (take i held) v) (more : i < length held) where
  pub gathered_skip : None ≡ turned_held v (get_or held i d) → take n found ≡ near (take (i + 1) held) v
  gathered_skip h = front ∙ sym (near_more held v i d more ∙ ap (λ o. near (take i held) v ++ cons_option o []) (sym h) ∙ append-nil _)

  pub gathered_more : (t : Turned) → Some t ≡ turned_held v (get_or held i d) → n < length found
      → take (n + 1) (set found n t) ≡ near (take (i + 1) held) v
  gathered_more t h inside =
      take_more_set found n t inside ∙ ap (λ ts. ts ++ t ∷ []) front
      ∙ sym (near_more held v i d more ∙ ap (λ o. near (take i held) v ++ cons_option o []) (sym h))

pub ruleset gathering = (gathered_none, gathered_skip, gathered_more)

-- ---- as the nodes of the store are

module _ (nodes : List Node) where
  held_more : (b : Bool) (k : ℕ) (rest : Result (Unit {0}) Refusal) → cond b rest (Err (refused OutOfRange Store k)) ≡ Ok tt → (b ≡ true) × (rest ≡ Ok tt)
  held_more true k rest h = (refl, h)
  held_more false k rest h = cc

  -- those around a vertex, where every live number is one of a node
  pub near_is : (v : ℕ) (live : List ℕ) → live_said nodes live ≡ Ok tt → near (held_of nodes live) v ≡ around nodes live v
  unfolding near around live_said
  near_is v [] h = refl
  near_is v (k ∷ live) h =
      let both = held_more (nat_lt k (length nodes)) k (live_said nodes live) h in
      ap (λ ts. cons_option (turned_held v (held_at nodes k)) ts) (near_is v live both.1)
      ∙ ap (λ b. cons_option (option_and_then (turned v k) (cond b (Some (corners_of (get_or nodes k blank))) None)) (around nodes live v)) (sym both.0)

  -- and so are the numbers of those that stay live
  pub kept_is : (at : ℕ → GridPoint) (marks : List Bool) (all live : List ℕ) → kept_near marks (held_of nodes live) ≡ filter (λ k. not (goes at nodes all marks k)) live
  unfolding kept_near
  kept_is at marks all [] = refl
  kept_is at marks all (k ∷ live) = one (not (goes at nodes all marks k)) _ _ (kept_is at marks all live)
    where
      one : (b : Bool) (hs : List Held) (ks : List ℕ) → map (λ (h : Held). h.node) hs ≡ ks
          → map (λ (h : Held). h.node) (cond b (held_at nodes k ∷ hs) hs) ≡ cond b (k ∷ ks) ks
      one true hs ks e = ap (λ ks. k ∷ ks) e
      one false hs ks e = e

  module _ (at : ℕ → GridPoint) (live : List ℕ) (h : live_said nodes live ≡ Ok tt) where
    pub look_is : (k v : ℕ) (f : Found) → look_near at (held_of nodes live) k v f ≡ look_from at nodes live k v f
    unfolding look_near look_from
    look_is zero v f = refl
    look_is (suc k) v f =
        ap (λ ts. look_on at (look at v ts f) (look_near at (held_of nodes live) k (v + 1))) (near_is v live h)
        ∙ on (look at v (around nodes live v) f) (λ g. look_is k (v + 1) g)
      where
        on : (r : Result Found ℕ) → ((g : Found) → look_near at (held_of nodes live) k (v + 1) g ≡ look_from at nodes live k (v + 1) g)
            → look_on at r (look_near at (held_of nodes live) k (v + 1)) ≡ look_on at r (look_from at nodes live k (v + 1))
        on (Ok g) same = same g
        on (Err u) same = refl

    pub closings_is : (marks : List Bool) (k v : ℕ) → closings_near at (held_of nodes live) marks k v ≡ closings at nodes live marks k v
    unfolding closings_near closings
    closings_is marks zero v = refl
    closings_is marks (suc k) v =
        ap (λ ts. cond (is_marked marks v) (closed_fan at [] [] (fan_of ts)) [] ++ closings_near at (held_of nodes live) marks k (v + 1)) (near_is v live h)
        ∙ ap (λ ns. cond (is_marked marks v) (closing at nodes live v) [] ++ ns) (closings_is marks k (v + 1))
