use Rattle.evidence_check.proofs.TrueEvidence.{reported_stays, true_is_accepted}
use Rattle.evidence_check.proofs.laws.true_evidence_is_accepted.Goals as goal

pub returns-clause-accepted : goal.returns-clause-accepted
returns-clause-accepted c rows e reported is = true_is_accepted c.one_change_is_named.ensures.bridge c.one_change_is_named.ensures.of_pq rows e reported is

pub returns-clause-stays : goal.returns-clause-stays
returns-clause-stays c = reported_stays
