-- A trie has its lifetimes in any order.
use Rattle.std.proofs.Common.{◌≡◌, ℕ, ◌-◌, Bool, true, false, cond, Some, List, [], ◌∷◌, append-nil, length, sym, subst, ap, ◌∙◌, arith}
use Rattle.std.specs.List.{AllByRecursion}
use Rattle.lifetime_segments.specs.declared.lifetime.Lifetime.{Lifetime}
use Rattle.lifetime_segments.specs.declared.trie.Trie.{Trie, Few, Full'}
use Rattle.lifetime_segments.specs.declared.trie.Node.{Node}
use Rattle.lifetime_segments.specs.Ordered.{IsOrder, AreInOrder, insert_by, in_order, is_in, without}
use Rattle.lifetime_segments.specs.OrderedLaws.{all-in_order, length-in_order, in_order-kept, in_order-insert_by, insert_by-swap, insert_by-without, without-ordered}
use Rattle.lifetime_segments.specs.Lifetimes.{stands_by_item, stands_earlier, items_at}
use Rattle.lifetime_segments.specs.LifetimeLaws.{by_item_order, earlier_order}
use Rattle.lifetime_segments.specs.Tries.{IsOf, IsOfNode, Lies, in_first, in_second, taken, whole_item}
use Rattle.lifetime_segments.proofs.Spans.{item_there, items-taken}
use Rattle.lifetime_segments.proofs.Taken.{taken-alike, taken-in_order, taken-some}

-- what holds of all elements that are put in order holds of all
all-put_back : {X : Type 0} (P : X → Type 0) (earlier : X → X → Bool) (x : X) (xs : List X) → AllByRecursion P (insert_by earlier x xs) → P x × AllByRecursion P xs
all-put_back P earlier x [] all = (all.0, tt)
all-put_back P earlier x (y ∷ ys) all = elim (earlier y x) as (λ b. AllByRecursion P (cond b (y ∷ insert_by earlier x ys) (x ∷ y ∷ ys)) → P x × AllByRecursion P (y ∷ ys)) [
  | true ↦ λ all. let both = all-put_back P earlier x ys all.1 in (both.0, (all.0, both.1))
  | false ↦ λ all. (all.0, all.1)
] all

all-of_order : {X : Type 0} (P : X → Type 0) (earlier : X → X → Bool) (xs : List X) → AllByRecursion P (in_order earlier xs) → AllByRecursion P xs
all-of_order P earlier [] all = tt
all-of_order P earlier (x ∷ xs) all = let both = all-put_back P earlier x (in_order earlier xs) all in (both.0, all-of_order P earlier xs both.1)

module _ {A : Type 0} {before : A → A → Bool} (order : IsOrder before) where
  -- the same lifetimes in another order
  abbrev AreSame : List (Lifetime A) → List (Lifetime A) → Type 0
  AreSame lives others = in_order (stands_earlier before) lives ≡ in_order (stands_earlier before) others

  all_same : (level : ℕ) (lives others : List (Lifetime A)) → AreSame lives others → AllByRecursion (Lies level) lives → AllByRecursion (Lies level) others
  all_same level lives others same all =
      all-of_order (Lies level) (stands_earlier before) others (subst (AllByRecursion (Lies level)) same (all-in_order (Lies level) (stands_earlier before) lives all))

  module _ {M : Type 0} where
    of_same : (level : ℕ) (lives others : List (Lifetime A)) (trie : Trie A M) → AreSame lives others → IsOf before level trie lives → IsOf before level trie others
    of_same level lives others (Few few) same is_of = (
      all_same level lives others same is_of.0,
      is_of.1
          ∙ sym (ap (in_order (stands_by_item before)) (taken-some lives))
          ∙ taken-alike (stands_earlier before) (by_item_order order) (λ life. Some life) lives others same
          ∙ ap (in_order (stands_by_item before)) (taken-some others),
    )
    of_same level lives others (Full' p items left right) same is_of = (
      omega (arith, is_of.0, ap length same, length-in_order (stands_earlier before) lives, length-in_order (stands_earlier before) others),
      all_same level lives others same is_of.1,
      is_of.2 ∙ taken-alike (stands_earlier before) order (whole_item level) lives others same,
      of_same (level - 1) (taken (in_first level) lives) (taken (in_first level) others) left (taken-alike (stands_earlier before) (earlier_order order) (in_first level) lives others same) is_of.3,
      of_same (level - 1) (taken (in_second level) lives) (taken (in_second level) others) right (taken-alike (stands_earlier before) (earlier_order order) (in_second level) lives others same) is_of.4,
    )

    node_of_same : (level : ℕ) (lives others : List (Lifetime A)) (node : Node A M) → AreSame lives others → IsOfNode before level node lives → IsOfNode before level node others
    node_of_same level lives others node same is_of = record {
      lie = all_same level lives others same is_of.lie;
      items = is_of.items ∙ taken-alike (stands_earlier before) order (whole_item level) lives others same;
      left = of_same (level - 1) _ _ node.left (taken-alike (stands_earlier before) (earlier_order order) (in_first level) lives others same) is_of.left;
      right = of_same (level - 1) _ _ node.right (taken-alike (stands_earlier before) (earlier_order order) (in_second level) lives others same) is_of.right;
    }

    -- the first two lifetimes of a node
    pub node_swapped : (level : ℕ) (x y : Lifetime A) (lives : List (Lifetime A)) (node : Node A M) → IsOfNode before level node (x ∷ y ∷ lives) → IsOfNode before level node (y ∷ x ∷ lives)
    node_swapped level x y lives node is_of = node_of_same level (x ∷ y ∷ lives) (y ∷ x ∷ lives) node (insert_by-swap (earlier_order order) x y (in_order (stands_earlier before) lives)) is_of

    -- lifetimes that were kept by their items, with one more
    pub node_of_few : (level : ℕ) (life : Lifetime A) (lives few : List (Lifetime A)) (node : Node A M) → few ≡ in_order (stands_by_item before) lives → IsOfNode before level node (life ∷ few)
        → IsOfNode before level node (life ∷ lives)
    node_of_few level life lives few node is is_of =
        let earlier = stands_earlier before in
        let all : List (Lifetime A) = in_order (stands_by_item before) lives in
        node_of_same level (life ∷ few) (life ∷ lives) node
        (ap (insert_by earlier life) (ap (in_order earlier) (is ∙ sym (taken-some all)) ∙ taken-in_order (stands_by_item before) (earlier_order order) (λ life. Some life) lives ∙ ap (in_order earlier) (taken-some lives)))
        is_of

    -- a lifetime at the front, and at its place
    pub of_insert_by : (level : ℕ) (life : Lifetime A) (lives : List (Lifetime A)) (trie : Trie A M) → IsOf before level trie (life ∷ lives) → IsOf before level trie (insert_by (stands_earlier before) life lives)
    of_insert_by level life lives trie is_of =
        let earlier = stands_earlier before in
        of_same level (life ∷ lives) (insert_by earlier life lives) trie
        (sym (ap (in_order earlier) (sym (append-nil (insert_by earlier life lives))) ∙ in_order-insert_by (earlier_order order) life lives [] ∙ ap (λ ls. insert_by earlier life (in_order earlier ls)) (append-nil lives))) is_of

    pub of_without : (level : ℕ) (life : Lifetime A) (lives : List (Lifetime A)) (trie : Trie A M) → AreInOrder (stands_earlier before) lives → is_in (stands_earlier before) life lives ≡ true
        → IsOf before level trie lives → IsOf before level trie (life ∷ without (stands_earlier before) life lives)
    of_without level life lives trie ordered there is_of =
        let earlier = stands_earlier before in
        let rest = without earlier life lives in
        of_same level lives (life ∷ rest) trie
        (in_order-kept (earlier_order order) lives ordered
        ∙ sym (insert_by-without (earlier_order order) life lives ordered there)
        ∙ sym (ap (insert_by earlier life) (in_order-kept (earlier_order order) rest (without-ordered (earlier_order order) life lives ordered))))
        is_of

  pub few_items : (label : ℕ) (lives few : List (Lifetime A)) → few ≡ in_order (stands_by_item before) lives → in_order before (items_at label few) ≡ in_order before (items_at label lives)
  few_items label lives few is =
      ap (in_order before) (ap (items_at label) is ∙ items-taken label (in_order (stands_by_item before) lives))
      ∙ taken-in_order (stands_by_item before) order (item_there label) lives
      ∙ sym (ap (in_order before) (items-taken label lives))
