use Rattle.retro_base.specs.lemmas.bridges.Gained.{added_entry_gains, cut_take_gains}
use Rattle.retro_base.proofs.laws.greatest_from_bridge_is_gained.Goals as goal

pub returns-clause-added_entry : goal.returns-clause-added_entry
returns-clause-added_entry c = added_entry_gains

pub returns-clause-cut_take : goal.returns-clause-cut_take
returns-clause-cut_take c = cut_take_gains
