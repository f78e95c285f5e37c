use Rattle.retro_base.proofs.PairSteps.{room}
use Rattle.retro_base.proofs.entries.keys_of.Goals as goal

pub push-requires : goal.push-requires
push-requires c = room _ _ _ _ _ _ c.loop-entry.invariant c.in-Some.ensures.steps c.requires
