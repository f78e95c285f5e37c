-- Lists and nodes as they stand from a side: from the right, lists are reversed and joins turned round.
use Rattle.std.proofs.Common.{◌≡◌, ℕ, ◌+◌, ◌-◌, ◌<◌, ◌≤◌, List, [], ◌∷◌, ◌++◌, refl, sym, ap, ◌∙◌, arith, drop, reverse, length, length-append}
use Rattle.std.proofs.Math.Seq.{append_snoc}
use Rattle.std.proofs.lemmas.Grind.{reverse_onto}
use Rattle.std.proofs.lemmas.List.{reverse-append, length-reverse, length-drop, drop-append-le}
use Rattle.monoids.specs.Laws.{MonoidLaws}
use Rattle.monoids.specs.Measure.{measure_of}
use Rattle.monoids.specs.MeasureLaws.{measure_of-append}
use Rattle.weighted_tree.specs.Balance.{Part}
use Rattle.weighted_tree.specs.Nodes.{IsRoot}
use Rattle.weighted_tree.specs.Sides.{seen_from, join_from, IsOpened}
use Rattle.weighted_tree.specs.declared.node.Side.{Side}
use Rattle.weighted_tree.specs.declared.node.Side.TheVariants.{Left, Right}
use Rattle.weighted_tree.specs.declared.subtree.Node.{Node}
use Rattle.weighted_tree.proofs.Ranges.{drop-after}
use Rattle.weighted_tree.proofs.Boundaries.{IsParted}

module _ {M : Type 0} {items : M → ℕ} {unit : M} {join : M → M → M} (laws : MonoidLaws items unit join) where
  -- a monoid is one from each side
  pub laws_from : (side : Side) → MonoidLaws items unit (join_from side join)
  laws_from Left = laws
  laws_from Right = record {
    unit_items = laws.unit_items;
    join_items = λ a b. omega (arith, laws.join_items b a);
    left_unit = laws.right_unit;
    right_unit = laws.left_unit;
    assoc = λ a b c. sym (laws.assoc c b a);
  }

  -- a list measures the same from each side
  pub measure-seen : {A : Type 0} (measured : A → M) (side : Side) (xs : List A) → measure_of unit (join_from side join) measured (seen_from side xs) ≡ measure_of unit join measured xs
  measure-seen measured Left xs = refl
  measure-seen measured Right [] = refl
  measure-seen {A} measured Right (x ∷ xs) =
      ap (measure_of unit (join_from Right join) measured) (reverse_onto xs x [])
      ∙ measure_of-append (laws_from Right) measured (reverse xs) (x ∷ [])
      ∙ ap (λ m. join m (measure_of unit (join_from Right join) measured (reverse xs))) (laws.left_unit (measured x))
      ∙ ap (join (measured x)) (measure-seen measured Right xs)

pub length-seen : {A : Type 0} (side : Side) (xs : List A) → length (seen_from side xs) ≡ length xs
length-seen Left xs = refl
length-seen Right xs = length-reverse xs

-- two parts of a list, the first of them first from the left and last from the right
module _ {A : Type 0} (first last items : List A) (both : first ++ last ≡ items) where
  pub seen_left : (side : Side) → side ≡ Left → seen_from side items ≡ seen_from side first ++ seen_from side last
  seen_left Left is = sym both
  seen_left Right is = cc is

  pub seen_right : (side : Side) → side ≡ Right → seen_from side items ≡ seen_from side last ++ seen_from side first
  seen_right Left is = cc is
  seen_right Right is = ap reverse (sym both) ∙ reverse-append first last

module _ {A M : Type 0} (part : Part A) (node : Node A M) (root : IsRoot part node) where
  sizes : length part.items ≡ length node.left.items + 1 + length node.right.items
  sizes = omega (arith, ap length root.items_are, length-append node.left.items (node.item ∷ node.right.items))

  pub opened_left : IsOpened Left part node.left node.right node
  opened_left = record { seen = root.items_are; sizes = sizes; counts = root.nodes_are; balanced = root.balanced }

  pub opened_right : IsOpened Right part node.right node.left node
  opened_right = record {
    seen =
        ap reverse root.items_are
        ∙ reverse-append node.left.items (node.item ∷ node.right.items)
        ∙ ap (λ xs. xs ++ reverse node.left.items) (reverse_onto node.right.items node.item [])
        ∙ append_snoc (reverse node.right.items) node.item (reverse node.left.items);
    sizes = omega (arith, sizes);
    counts = omega (arith, root.nodes_are);
    balanced = record { left_light = root.balanced.right_light; right_light = root.balanced.left_light };
  }

module _ {A M : Type 0} {side : Side} {part near far : Part A} {node : Node A M} (root : IsOpened side part near far node) where
  -- beyond the node, the far side is left
  pub left_beyond : (from : ℕ) → length near.items < from → drop from (seen_from side part.items) ≡ drop (from - length near.items - 1) (seen_from side far.items)
  left_beyond from beyond =
      ap (drop from) root.seen
      ∙ drop-after (seen_from side near.items) (seen_from side far.items) node.item from (omega (arith, length-seen side near.items))
      ∙ ap (λ n. drop (from - n - 1) (seen_from side far.items)) (length-seen side near.items)

  -- the items from a place on, parted at the node
  pub parted_from : (from : ℕ) → from ≤ length near.items → IsParted (drop from (seen_from side part.items)) (drop from (seen_from side near.items))
      (seen_from side far.items) node.item (length part.items - from) (length near.items - from) (length far.items)
  parted_from from within = record {
    split = ap (drop from) root.seen ∙ drop-append-le from (seen_from side near.items) (node.item ∷ seen_from side far.items) (omega (arith, length-seen side near.items));
    ends = omega (arith, root.sizes);
    near_size = omega (arith, length-drop from (seen_from side near.items), length-seen side near.items);
    far_size = length-seen side far.items;
  }

  pub parted : IsParted (seen_from side part.items) (seen_from side near.items) (seen_from side far.items) node.item (length part.items) (length near.items) (length far.items)
  parted = record { split = root.seen; ends = root.sizes; near_size = length-seen side near.items; far_size = length-seen side far.items }
