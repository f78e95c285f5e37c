use Rattle.std.proofs.Common.{arith}
use Rattle.retro_base.specs.Answers.{content}
use Rattle.retro_dictionary.proofs.ListedPairs.{listing_ends}
use Rattle.retro_dictionary.proofs.listed.listing_of.Goals as goal

pub returns : goal.returns
unfolding content
returns c = listing_ends c.args.held.now c.loop-pair.listing c.loop-pair.pair-index c.loop-pair.invariant (omega arith)
