use Rattle.retro_dictionary.proofs.KeptEdits.{insertions-kept}
use Rattle.retro_dictionary.proofs.laws.insertions_are_kept.Goals as goal

pub returns : goal.returns
returns c = insertions-kept
