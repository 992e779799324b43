-- What the blocks hold: the numbers of each node, and the nodes after one is written.
use Rattle.std.proofs.Common.{◌≡◌, ℕ, ◌+◌, ◌*◌, ◌<◌, ◌⊎◌, List, length, get_or, set, sym, ap, ◌∙◌, inl, inr, arith}
use Rattle.std.proofs.lemmas.Bool.{cases_order}
use Rattle.std.proofs.lemmas.List.FromFn.{length-map-range_with_len, get_or-map-range_with_len, fill_by_all}
use Rattle.std.proofs.lemmas.List.{length-set, get_or-set_same, get_or-set_other, take_all}
use Rattle.nodes.specs.declared.node.Node.{Node}
use Rattle.nodes.specs.Bytes.{offset, word, words, node_of, node_at, nodes_in, KeptBut}
use Rattle.nodes.specs.Nodes.{numbers, blank, number_in}

-- node k is what is held where it begins
node_held : (bytes : List ℕ) (n k : ℕ) → k < n → get_or (nodes_in bytes n) k blank ≡ node_at bytes (offset k)
node_held bytes n k h = get_or-map-range_with_len (λ k. node_at bytes (offset k)) 0 n k k blank h (omega arith)

-- and number i is the word there
pub number_held : (bytes : List ℕ) (n k i : ℕ) → k < n → i < 14 → number_in (nodes_in bytes n) k i ≡ word bytes (offset k + 2 * i)
number_held bytes n k i h l =
    ap (λ node. get_or (numbers node) i 0) (node_held bytes n k h)
    ∙ get_or-map-range_with_len (λ i. word bytes (offset k + 2 * i)) 0 14 i i 0 l (omega arith)

-- a node is what its fourteen numbers make
node_of_numbers : (node : Node) → length node.children ≡ 8 → node_of (numbers node) ≡ node
node_of_numbers node l = rw (take_all 8 node.children (omega arith))

module _ (old new : List ℕ) (n k at : ℕ) (node : Node) (within : k < n) (begins : at ≡ offset k) (rest : KeptBut at old new)
    (eight : length node.children ≡ 8) (written : (i : ℕ) → i < 14 → word new (at + 2 * i) ≡ get_or (numbers node) i 0) where
  -- the nodes before the one that is written end where it begins, or before, and those after it begin where it ends, or after
  word_kept : (j i : ℕ) → (j < k) ⊎ (k < j) → i < 14 → word new (offset j + 2 * i) ≡ word old (offset j + 2 * i)
  word_kept j i apart l = grind (arith, rest (offset j + 2 * i), rest (offset j + 2 * i + 1))

  -- so they are as they were
  node_kept : (j : ℕ) → (j < k) ⊎ (k < j) → node_at new (offset j) ≡ node_at old (offset j)
  node_kept j apart =
      ap node_of (fill_by_all (λ i. word old (offset j + 2 * i)) (words new (offset j)) 14 0 (omega arith)
      (λ i l. get_or-map-range_with_len (λ i. word new (offset j + 2 * i)) 0 14 i i 0 l (omega arith) ∙ word_kept j i apart l))

  -- and the one that is written is what is read there
  node_put : node ≡ node_at new (offset k)
  node_put =
      sym (node_of_numbers node eight)
      ∙ ap node_of (fill_by_all (λ i. word new (offset k + 2 * i)) (numbers node) 14 0 (omega arith) (λ i l. rw (← begins) (sym (written i l))))

  -- there is a node at each place
  sized : length (nodes_in old n) ≡ n
  sized = length-map-range_with_len (λ j. node_at old (offset j)) 0 n

  -- each place has the node that was put there, or the one that it had
  place_put : (j : ℕ) → j < n → (j ≡ k) ⊎ ((j < k) ⊎ (k < j)) → get_or (set (nodes_in old n) k node) j blank ≡ node_at new (offset j)
  place_put j h (inl same) = rw same (get_or-set_same (nodes_in old n) k node blank (omega (arith, sized)) ∙ node_put)
  place_put j h (inr apart) = get_or-set_other (nodes_in old n) k j node blank (omega (arith, apart)) ∙ node_held old n j h ∙ sym (node_kept j apart)

  pub nodes_written : nodes_in new n ≡ set (nodes_in old n) k node
  nodes_written =
      sym (fill_by_all (λ j. node_at new (offset j)) (set (nodes_in old n) k node) n blank (length-set (nodes_in old n) k node ∙ sized)
      (λ j h. place_put j h (cases_order j k)))
