use Rattle.evidence_check.proofs.Walks.{best_here}
use Rattle.evidence_check.proofs.one_row.WeighedRowPart.best_place.Goals as goal

pub returns : goal.returns
returns c = best_here c.args._sought c.args._place c.args.self.now c.args._entry c.requires.there
