use Rattle.std.proofs.Common.{◌≡◌}
use Rattle.checkpoint_full.specs.Checkpoints.{with_row}
use Rattle.checkpoint_full.proofs.Mapped.{map_first}
use Rattle.checkpoint_full.proofs.follow.insert_in_each.Given as goal

abbrev pub invariant-loop-index : goal.invariant-loop-index
invariant-loop-index g l = l.checkpoints ≡ map_first (with_row l.place l.row) l.index l.fn.checkpoints
