use Rattle.retro_base.specs.lemmas.bridges.LossTable.{added_take_loses, cut_dead_loses, cut_survivor_loses}
use Rattle.retro_base.proofs.laws.least_before_bridge_is_lost.Goals as goal

pub returns-clause-added_take : goal.returns-clause-added_take
returns-clause-added_take c = added_take_loses

pub returns-clause-cut_dead : goal.returns-clause-cut_dead
returns-clause-cut_dead c = cut_dead_loses

pub returns-clause-cut_survivor : goal.returns-clause-cut_survivor
returns-clause-cut_survivor c = cut_survivor_loses
