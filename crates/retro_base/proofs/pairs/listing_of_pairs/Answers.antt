use Rattle.retro_base.proofs.PairSteps.{room}
use Rattle.retro_base.proofs.pairs.listing_of_pairs.Goals as goal

pub push-requires : goal.push-requires
push-requires c = room _ _ _ _ _ _ c.loop-key.invariant c.in-Some.ensures.steps c.requires
