use Rattle.pq_fusion.proofs.Counted.{reaching_counts}
use Rattle.pq_fusion.proofs.entry_counts.reaching.Goals as goal

pub returns-clause-count : goal.returns-clause-count
returns-clause-count g c = let found = c.place_of.ensures.place in reaching_counts c.args.bound c.args.entries.now c.place_of.result found.within found.before found.from
