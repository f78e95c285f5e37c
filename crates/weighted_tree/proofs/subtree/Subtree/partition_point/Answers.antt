use Rattle.std.proofs.Common.{ℕ, ◌+◌, ◌<◌, ◌≤◌, ◌∙◌, refl, sym, subst, arith, length}
use Rattle.std.specs.List.Sorted.{IsPartitionedBy}
use Rattle.weighted_tree.proofs.Descents.{sizes_of}
use Rattle.weighted_tree.proofs.Levels.{one_left, one_right}
use Rattle.weighted_tree.proofs.Partitions.{HasBoundary, own_boundary, turn_left, turn_right, boundary_after, turned}
use Rattle.weighted_tree.proofs.subtree.Subtree.partition_point.Goals as goal

visited : (part whole first down last : ℕ) → (part < whole → first + 1 ≤ down) → part ≤ whole → down ≤ last → (0 < part → down + 1 ≤ last) → first ≤ down → 0 < whole → first + 1 ≤ last
visited part whole first down last before within lost leaf former some = grind arith

pub down-init : goal.down-init
down-init g c = record {
  boundary = λ holds tells parted. own_boundary holds c.args.self.now.items parted _ (omega arith);
  some_left = omega arith;
  within = omega arith;
  none_lost = omega arith;
  some = λ fewer. absurd (omega arith);
  levels = λ after below. below;
}

pub down-preserved-then-passes : goal.down-preserved-then-passes
down-preserved-then-passes g c =
    let node = c.in-Some.node.now in
    let root = c.in-Some.ensures.0 in
    let sizes = sizes_of c.down.subtree.now.items node.left.items node.right.items node.item root.items_are in
    record {
      boundary = λ holds tells parted. boundary_after (c.down.invariant.boundary holds tells parted)
          (λ part. subst (λ items. HasBoundary holds items (length node.left.items + 1) node.right.items) (sym root.items_are)
          (turn_right holds node.left.items node.right.items node.item (subst (IsPartitionedBy holds) root.items_are part)
          (sym (tells node.item _ c.passes.ensures) ∙ c.if-passes.true))) (omega arith) _ (omega arith);
      some_left = omega arith;
      within = omega arith;
      none_lost = omega (arith, c.in-Some.ensures.1);
      some = λ fewer. omega (arith, c.in-Some.ensures.1);
      levels = λ after below. c.down.invariant.levels after (one_right c.down.subtree.now node _ _ root c.in-Some.ensures.1 after below);
    }

pub down-preserved : goal.down-preserved
down-preserved g c =
    let node = c.in-Some.node.now in
    let root = c.in-Some.ensures.0 in
    let sizes = sizes_of c.down.subtree.now.items node.left.items node.right.items node.item root.items_are in
    record {
      boundary = λ holds tells parted. boundary_after (c.down.invariant.boundary holds tells parted)
          (λ part. subst (λ items. HasBoundary holds items 0 node.left.items) (sym root.items_are)
          (turn_left holds node.left.items node.right.items node.item (subst (IsPartitionedBy holds) root.items_are part)
          (sym (tells node.item _ c.passes.ensures) ∙ c.if-passes.false))) (omega arith) _ (omega arith);
      some_left = omega arith;
      within = omega arith;
      none_lost = omega (arith, c.in-Some.ensures.1);
      some = λ fewer. omega (arith, c.in-Some.ensures.1);
      levels = λ after below. c.down.invariant.levels after (one_left c.down.subtree.now node _ _ root c.in-Some.ensures.1 after below);
    }

pub returns-clause-partition : goal.returns-clause-partition
returns-clause-partition g c = λ holds tells parted.
    turned (c.down.invariant.boundary holds tells parted) c.down.subtree.now.items refl c.partition_in_leaf.result c.partition_in_leaf.ensures.within
    (c.partition_in_leaf.ensures.partition holds tells) _ (omega arith)

pub returns-clause-visits : goal.returns-clause-visits
returns-clause-visits g c = c.down.invariant.levels _ (λ levels within. omega (arith, c.in_default.ensures.1, c.partition_in_leaf.ensures.visits))

pub down-smaller-then-passes : goal.down-smaller-then-passes
down-smaller-then-passes g c =
    let node = c.in-Some.node.now in
    omega (arith, sizes_of c.down.subtree.now.items node.left.items node.right.items node.item c.in-Some.ensures.0.items_are)

pub down-smaller : goal.down-smaller
down-smaller g c =
    let node = c.in-Some.node.now in
    omega (arith, sizes_of c.down.subtree.now.items node.left.items node.right.items node.item c.in-Some.ensures.0.items_are)

pub overflow_sub-end : goal.overflow_sub-end
overflow_sub-end g c =
    let node = c.in-Some.node.now in
    omega (arith, sizes_of c.down.subtree.now.items node.left.items node.right.items node.item c.in-Some.ensures.0.items_are)

pub overflow_sub-end-else-passes : goal.overflow_sub-end-else-passes
overflow_sub-end-else-passes g c =
    let node = c.in-Some.node.now in
    omega (arith, sizes_of c.down.subtree.now.items node.left.items node.right.items node.item c.in-Some.ensures.0.items_are)

pub overflow_sub-result : goal.overflow_sub-result
overflow_sub-result g c = omega arith

pub overflow_add-result : goal.overflow_add-result
overflow_add-result g c = omega arith

pub returns-clause-within : goal.returns-clause-within
returns-clause-within g c = omega arith

pub returns-clause-few : goal.returns-clause-few
returns-clause-few g c = c.len-end.ensures.few

pub returns-clause-none_lost : goal.returns-clause-none_lost
returns-clause-none_lost g c = omega (arith, c.in_default.ensures.1)

-- a step was counted on the way down, or is counted at its end
pub returns-clause-some : goal.returns-clause-some
returns-clause-some g c = visited _ _ _ _ _ (λ fewer. omega (arith, c.in_default.ensures.1, c.down.invariant.some fewer)) (omega arith) c.partition_in_leaf.ensures.none_lost c.partition_in_leaf.ensures.some (omega (arith, c.in_default.ensures.1))
