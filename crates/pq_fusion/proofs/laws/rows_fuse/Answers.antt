use Rattle.pq_fusion.proofs.FromRows.{rows_fuse}
use Rattle.pq_fusion.proofs.laws.rows_fuse.Goals as goal

pub returns : goal.returns
returns c = rows_fuse
