use Rattle.std.specs.Prelude.{◌+◌, ◌*◌}
use Rattle.lifetime_segments.proofs.collect.+collect.Given as goal

abbrev pub decreases-collect : goal.decreases-collect
decreases-collect g l = 2 * l.level + 1

abbrev pub decreases-collect_half : goal.decreases-collect_half
decreases-collect_half g l = 2 * l.level
