use Rattle.retro_dictionary.proofs.KeptEdits.{removals-kept}
use Rattle.retro_dictionary.proofs.laws.removals_are_kept.Goals as goal

pub returns : goal.returns
returns c = removals-kept
