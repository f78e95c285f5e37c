use Rattle.std.specs.Prelude.{◌+◌, ◌*◌, drop}
use Rattle.lifetime_segments.specs.Tries.{IsOfNode}
use Rattle.lifetime_segments.proofs.adding.+add.Given as goal

abbrev pub decreases-add : goal.decreases-add
decreases-add g l = 4 * l.level + 2

abbrev pub decreases-divided_with : goal.decreases-divided_with
decreases-divided_with g l = 4 * l.level + 1

abbrev pub decreases-add_to_node : goal.decreases-add_to_node
decreases-add_to_node g l = 4 * l.level

abbrev pub decreases-add_in_half : goal.decreases-add_in_half
decreases-add_in_half g l = 4 * l.level + 3

abbrev pub invariant-divided_with-loop-place : goal.invariant-divided_with-loop-place
invariant-divided_with-loop-place g l = IsOfNode g.O.Order.stands_before l.level l.node.value (drop l.place l.few)
