use Rattle.evidence.proofs.Short.{line_is_short}
use Rattle.evidence.proofs.laws.lines_are_short.Goals as goal

pub returns : goal.returns
returns c = line_is_short
