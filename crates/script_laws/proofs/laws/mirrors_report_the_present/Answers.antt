use Rattle.script_laws.proofs.HeardEvents.{mirrors_report}
use Rattle.script_laws.proofs.laws.mirrors_report_the_present.Goals as goal

pub returns : goal.returns
returns c = mirrors_report c.changes_alone_hold_the_present.ensures
