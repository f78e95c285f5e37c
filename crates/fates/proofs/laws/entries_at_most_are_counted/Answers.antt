use Rattle.fates.proofs.Counts.{at_most_counted}
use Rattle.fates.proofs.laws.entries_at_most_are_counted.Goals as goal

pub returns : goal.returns
returns c = at_most_counted
