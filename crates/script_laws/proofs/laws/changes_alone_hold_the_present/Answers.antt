use Rattle.script_laws.proofs.Mirrored.{changes_hold}
use Rattle.script_laws.proofs.laws.changes_alone_hold_the_present.Goals as goal

pub returns : goal.returns
returns c = changes_hold c.accepted_edits_are_reported.ensures.reported c.accepted_edits_are_reported.ensures.spelled c.an_undo_leads_back.ensures.shifts
    c.true_evidence_is_accepted.ensures.accepted c.true_evidence_is_accepted.ensures.stays c.lines_are_values.ensures.back c.mirrors_hold_the_present.ensures
