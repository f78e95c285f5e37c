use Rattle.std.specs.Prelude.{◌+◌, ◌*◌}
use Rattle.lifetime_segments.proofs.search.+ask.Given as goal

abbrev pub decreases-ask : goal.decreases-ask
decreases-ask g l = 4 * l.level + 3

abbrev pub decreases-ask_node : goal.decreases-ask_node
decreases-ask_node g l = 4 * l.level + 2

abbrev pub decreases-ask_half : goal.decreases-ask_half
decreases-ask_half g l = 4 * l.level

abbrev pub decreases-ask_with_own : goal.decreases-ask_with_own
decreases-ask_with_own g l = 4 * l.level + 1
