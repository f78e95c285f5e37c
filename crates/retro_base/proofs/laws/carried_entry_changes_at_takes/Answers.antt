use Rattle.retro_base.specs.lemmas.bridges.EditsCarry.{adding_carries_on, missing_stays}
use Rattle.retro_base.proofs.laws.carried_entry_changes_at_takes.Goals as goal

pub returns-clause-adding : goal.returns-clause-adding
returns-clause-adding c = adding_carries_on

pub returns-clause-missing : goal.returns-clause-missing
returns-clause-missing c = missing_stays
