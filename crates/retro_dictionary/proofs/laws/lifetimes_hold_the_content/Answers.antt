use Rattle.retro_dictionary.proofs.AskedPast.{holds-content}
use Rattle.retro_dictionary.proofs.laws.lifetimes_hold_the_content.Goals as goal

pub returns : goal.returns
returns c = holds-content
