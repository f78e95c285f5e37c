use Rattle.std.proofs.Common.{◌≡◌}
use Rattle.checkpoint_full.specs.Checkpoints.{without_row}
use Rattle.checkpoint_full.proofs.Mapped.{map_first}
use Rattle.checkpoint_full.proofs.follow.remove_in_each.Given as goal

abbrev pub invariant-loop-checkpoint : goal.invariant-loop-checkpoint
invariant-loop-checkpoint g l = l.checkpoints ≡ map_first (without_row l.place) l.checkpoint-index l.fn.checkpoints
