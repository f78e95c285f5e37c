use Rattle.retro_base.specs.lemmas.bridges.EditsCarry.{giving_accepted, one_carried, presents_differ}
use Rattle.retro_base.proofs.laws.one_entry_is_carried.Goals as goal

pub returns-clause-giving : goal.returns-clause-giving
returns-clause-giving c = giving_accepted

pub returns-clause-one : goal.returns-clause-one
returns-clause-one c = one_carried

pub returns-clause-presents : goal.returns-clause-presents
returns-clause-presents c = presents_differ
