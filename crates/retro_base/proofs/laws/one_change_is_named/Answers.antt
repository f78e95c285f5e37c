use Rattle.retro_base.specs.lemmas.bridges.StatedBridges.{one_bridge_stated}
use Rattle.retro_base.specs.lemmas.bridges.OneChange.{one_change_of_pq, one_change_of_others}
use Rattle.retro_base.proofs.laws.one_change_is_named.Goals as goal

pub returns-clause-bridge : goal.returns-clause-bridge
returns-clause-bridge c = one_bridge_stated

pub returns-clause-of_pq : goal.returns-clause-of_pq
returns-clause-of_pq c = one_change_of_pq

pub returns-clause-of_others : goal.returns-clause-of_others
returns-clause-of_others c = one_change_of_others
