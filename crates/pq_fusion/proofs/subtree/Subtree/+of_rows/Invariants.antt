use Rattle.std.proofs.Common.{length}
use Rattle.pq_fusion.proofs.subtree.Subtree.+of_rows.Given as goal

abbrev pub decreases-of_rows : goal.decreases-of_rows
decreases-of_rows g l = length l.rows.now
