use Rattle.script_laws.proofs.OwnLines.{own_lines_alone}
use Rattle.script_laws.proofs.laws.own_lines_are_answered_alone.Goals as goal

pub returns : goal.returns
returns c = own_lines_alone
