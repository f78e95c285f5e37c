use Rattle.retro_base.specs.lemmas.bridges.Weighing.{weights_count, bridge_is_zero, sum_not_negative}
use Rattle.retro_base.proofs.laws.weights_count_the_dead.Goals as goal

pub returns-clause-count : goal.returns-clause-count
returns-clause-count c = weights_count

pub returns-clause-never_negative : goal.returns-clause-never_negative
returns-clause-never_negative c = sum_not_negative

pub returns-clause-bridges : goal.returns-clause-bridges
returns-clause-bridges c = bridge_is_zero
