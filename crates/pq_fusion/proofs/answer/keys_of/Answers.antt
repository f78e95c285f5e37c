use Rattle.std.proofs.Common.{arith}
use Rattle.retro_base.specs.Answers.{content}
use Rattle.pq_fusion.proofs.Listed.{listing_ends}
use Rattle.pq_fusion.proofs.answer.keys_of.Goals as goal

pub returns : goal.returns
unfolding content
returns c = listing_ends c.args.held.now c.loop-entry.listing c.loop-entry.entry-index c.loop-entry.invariant (omega arith)
