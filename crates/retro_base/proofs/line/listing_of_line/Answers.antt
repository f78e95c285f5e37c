use Rattle.retro_base.proofs.PairSteps.{room}
use Rattle.retro_base.proofs.line.listing_of_line.Goals as goal

pub push-requires : goal.push-requires
push-requires c = room _ _ _ _ _ _ c.loop-value.invariant c.in-Some.ensures.steps c.requires
