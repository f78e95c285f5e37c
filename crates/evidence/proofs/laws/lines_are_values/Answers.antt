use Rattle.evidence.proofs.Lines.{reads_back, one_line}
use Rattle.evidence.proofs.laws.lines_are_values.Goals as goal

pub returns-clause-back : goal.returns-clause-back
returns-clause-back c = reads_back

pub returns-clause-lines : goal.returns-clause-lines
returns-clause-lines c = one_line
