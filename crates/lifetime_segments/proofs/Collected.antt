-- Items that are collected span by span are those that are there at a label.
use Rattle.std.proofs.Common.{◌≡◌, ℕ, ◌+◌, ◌-◌, ◌≤◌, ◌<◌, Bool, List, [], ◌∷◌, ◌++◌, map, length, take, drop, sym, ap, ◌∙◌, arith, append_assoc}
use Rattle.std.specs.Prelude.{◌^◌}
use Rattle.std.proofs.lemmas.List.{map-id, take_all, append-nil, drop_all}
use Rattle.std.proofs.Math.Seq.{take-append_seam}
use Rattle.weighted_tree.specs.Reads.{overwritten}
use Rattle.lifetime_segments.specs.declared.lifetime.Lifetime.{Lifetime}
use Rattle.lifetime_segments.specs.declared.trie.Trie.{Trie, Few}
use Rattle.lifetime_segments.specs.declared.trie.Node.{Node}
use Rattle.lifetime_segments.specs.Lawful.{most_items}
use Rattle.lifetime_segments.specs.Lifetimes.{items_at}
use Rattle.lifetime_segments.specs.Ordered.{IsOrder, insert_by, in_order}
use Rattle.lifetime_segments.specs.OrderedLaws.{length-in_order}
use Rattle.lifetime_segments.specs.Tries.{Collects, IsOf, IsOfNode, in_first, items_below, in_second, taken}
use Rattle.lifetime_segments.proofs.FewLives.{few_of}
use Rattle.lifetime_segments.proofs.Moved.{few_items}
use Rattle.lifetime_segments.proofs.Nodes.{absorbs_after, items_at-few, node_at, node_at_zero}
use Rattle.lifetime_segments.proofs.Spans.{items_below-first, items_below-second}

-- items that were read over as many others
pub read_all : {A : Type 0} (items former new rest : List A) (count room : ℕ) → count ≡ length items → length former ≡ count → room ≡ count
    → new ≡ overwritten former 0 (map (λ (item : A). item) (take count items)) → take room (new ++ rest) ≡ items
read_all {A = A} items former new rest count room all long whole is =
    let taken : map (λ (item : A). item) (take count items) ≡ items = map-id (take count items) ∙ take_all count items (omega arith) in
    let read : new ≡ items = is ∙ ap (λ xs. xs ++ drop (0 + length xs) former) taken ∙ ap (λ more. items ++ more) (drop_all (0 + length items) former (omega arith)) ∙ append-nil items in
    ap (λ xs. take room (xs ++ rest)) read ∙ ap (λ n. take n (items ++ rest)) (let same : room ≡ length items = omega arith in same) ∙ take-append_seam items rest

module _ {A : Type 0} {before : A → A → Bool} (order : IsOrder before) where
  -- lists that are one in their order are so after the same elements
  one_after : (zs xs ys : List A) → in_order before xs ≡ in_order before ys → in_order before (zs ++ xs) ≡ in_order before (zs ++ ys)
  one_after [] xs ys one = one
  one_after (z ∷ zs) xs ys one = ap (insert_by before z) (one_after zs xs ys one)

  module _ {M : Type 0} where
    -- those of few lifetimes
    pub collects_few : (level label : ℕ) (few : List (Lifetime A)) (trie : Trie A M) (old new : List A) → trie ≡ Few few → new ≡ old ++ items_at label few → Collects before (items_at label) (IsOf before level trie) old new
    collects_few level label few trie old new is items lives is_of =
        ap (in_order before) items
        ∙ one_after old (items_at label few) (items_at label lives) (few_items order label lives few (few_of before level lives few trie is is_of).1)

    module _ (level label : ℕ) (node : Node A M) (old new : List A) where
      pub collects_zero : level ≡ 0 → label < 2 ^ level → new ≡ old ++ node.items → Collects before (items_at label) (IsOfNode before level node) old new
      collects_zero bottom within is lives is_of =
          ap (in_order before) is
          ∙ ap (λ xs. in_order before (old ++ xs)) (node_at_zero order level label lives node within is_of bottom)
          ∙ absorbs_after order old (items_at label lives)

      pub collects_more : (own : List A) → label < 2 ^ level → own ≡ old ++ node.items → Collects before (items_below level label) (IsOfNode before level node) own new → Collects before (items_at label) (IsOfNode before level node) old new
      collects_more own within is below lives is_of =
          let items = items_below level label lives in
          below lives is_of
          ∙ ap (λ xs. in_order before (xs ++ items)) is
          ∙ ap (in_order before) (append_assoc old node.items items)
          ∙ one_after old (node.items ++ items) (items_at label lives) (sym (absorbs_after order node.items items) ∙ node_at order level label lives node within is_of)

      pub collects_first : label < 2 ^ (level - 1) → Collects before (items_at label) (IsOf before (level - 1) node.left) old new → Collects before (items_below level label) (IsOfNode before level node) old new
      collects_first within left lives is_of = left (taken (in_first level) lives) is_of.left ∙ ap (λ xs. in_order before (old ++ xs)) (items_below-first level label lives within)

      pub collects_second : 2 ^ (level - 1) ≤ label → Collects before (items_at (label - 2 ^ (level - 1))) (IsOf before (level - 1) node.right) old new → Collects before (items_below level label) (IsOfNode before level node) old new
      collects_second from right lives is_of = right (taken (in_second level) lives) is_of.right ∙ ap (λ xs. in_order before (old ++ xs)) (items_below-second level label lives from)

-- no more are collected than there are lifetimes
pub collected-few : {A : Type 0} (before : A → A → Bool) (label : ℕ) (lives : List (Lifetime A)) (items : List A) → length lives ≤ most_items → in_order before items ≡ in_order before (items_at label lives)
    → length items ≤ most_items
collected-few before label lives items few one =
    omega (arith, length-in_order before items, ap length one, length-in_order before (items_at label lives), items_at-few label lives)
