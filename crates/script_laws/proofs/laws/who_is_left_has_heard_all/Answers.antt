use Rattle.script_laws.proofs.HeardEvents.{all_is_heard}
use Rattle.script_laws.proofs.laws.who_is_left_has_heard_all.Goals as goal

pub returns : goal.returns
returns c = all_is_heard
