use Rattle.std.specs.Prelude.{◌+◌, ◌*◌}
use Rattle.lifetime_segments.proofs.taking.+take.Given as goal

abbrev pub decreases-take : goal.decreases-take
decreases-take g l = 3 * l.level + 2

abbrev pub decreases-take_from_node : goal.decreases-take_from_node
decreases-take_from_node g l = 3 * l.level + 1

abbrev pub decreases-take_in_half : goal.decreases-take_in_half
decreases-take_in_half g l = 3 * l.level + 3
