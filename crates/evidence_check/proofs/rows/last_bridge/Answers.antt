use Rattle.evidence_check.proofs.Weighing.{last_is}
use Rattle.evidence_check.proofs.rows.last_bridge.Goals as goal

pub returns-clause-bridge : goal.returns-clause-bridge
returns-clause-bridge g c = last_is c.weights_count_the_dead.ensures.count c.args.rows.now c.requires.kept c.args.place c.last_zero.result c.requires.within c.last_zero.ensures
