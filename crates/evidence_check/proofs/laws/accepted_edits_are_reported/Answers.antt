use Rattle.evidence_check.proofs.EditsSpelled.{edit_is_spelled}
use Rattle.evidence_check.proofs.EditsReported.{edit_is_reported}
use Rattle.evidence_check.proofs.laws.accepted_edits_are_reported.Goals as goal

pub returns-clause-reported : goal.returns-clause-reported
returns-clause-reported c = edit_is_reported c.one_change_is_named.ensures.bridge c.one_change_is_named.ensures.of_pq

pub returns-clause-spelled : goal.returns-clause-spelled
returns-clause-spelled c = edit_is_spelled c.one_change_is_named.ensures.of_pq
