use Rattle.retro_dictionary.proofs.OrderedEdits.{ends-one}
use Rattle.retro_dictionary.proofs.laws.an_edit_ends_one_lifetime.Goals as goal

pub returns : goal.returns
returns c = ends-one
