use Rattle.retro_base.specs.lemmas.bridges.MarkedChange.{marks_tell}
use Rattle.retro_base.proofs.laws.marks_tell_the_change.Goals as goal

pub returns : goal.returns
returns c = marks_tell
