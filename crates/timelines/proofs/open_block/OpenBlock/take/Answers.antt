use Rattle.timelines.proofs.OpenBlocks.{next_stays}
use Rattle.timelines.proofs.open_block.OpenBlock.take.Goals as goal

pub invariant_of-self : goal.invariant_of-self
invariant_of-self c = next_stays c.take.result _ c.take.new.self _ _ c.take.ensures.ok c.take.ensures.err c.self.invariant
