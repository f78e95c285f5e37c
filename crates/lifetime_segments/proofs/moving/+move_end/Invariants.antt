use Rattle.std.specs.Prelude.{◌+◌, ◌*◌}
use Rattle.lifetime_segments.proofs.moving.+move_end.Given as goal

abbrev pub decreases-move_end : goal.decreases-move_end
decreases-move_end g l = 3 * l.level + 2

abbrev pub decreases-move_in_node : goal.decreases-move_in_node
decreases-move_in_node g l = 3 * l.level + 1

abbrev pub decreases-move_in_halves : goal.decreases-move_in_halves
decreases-move_in_halves g l = 3 * l.level
