use Rattle.std.proofs.Common.{◌≡◌, ◌-◌, arith, length}
use Rattle.weighted_tree.proofs.Levels.{level_left, level_right}
use Rattle.weighted_tree.proofs.Middles.{get-middle, get-after}
use Rattle.weighted_tree.proofs.subtree.Subtree.+item_at.Goals as goal

pub returns-then-place-before-clause-visits : goal.returns-then-place-before-clause-visits
returns-then-place-before-clause-visits g t c = level_left _ _ _ _ _ _ c.in-Some.ensures.0 c.in-Some.ensures.1 c.item_at.ensures.visits (omega arith)

pub returns-then-place-before-2-clause-item : goal.returns-then-place-before-2-clause-item
returns-then-place-before-2-clause-item g t c =
    let node = c.in-Some.node.now in
    let place : c.args.place - c.len-before.result - 1 ≡ c.args.place - length node.left.items - 1 = omega arith in
    rw (c.in-Some.ensures.0.items_are, get-after node.left.items node.right.items node.item c.args.place (omega arith)) (rw place at c.item_at-then-place-before-2.ensures.item)

pub returns-then-place-before-2-clause-visits : goal.returns-then-place-before-2-clause-visits
returns-then-place-before-2-clause-visits g t c = level_right _ _ _ _ _ _ c.in-Some.ensures.0 c.in-Some.ensures.1 c.item_at-then-place-before-2.ensures.visits (omega arith)

pub returns-else-place-before-2-clause-item : goal.returns-else-place-before-2-clause-item
returns-else-place-before-2-clause-item g t c =
    let node = c.in-Some.node.now in
    let place : c.args.place ≡ length node.left.items = omega arith in
    rw (c.in-Some.ensures.0.items_are, place) (get-middle node.left.items node.right.items node.item)
