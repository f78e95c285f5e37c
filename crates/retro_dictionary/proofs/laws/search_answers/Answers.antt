use Rattle.retro_dictionary.proofs.AskedPast.{answers-found}
use Rattle.retro_dictionary.proofs.laws.search_answers.Goals as goal

pub returns : goal.returns
returns c = answers-found
