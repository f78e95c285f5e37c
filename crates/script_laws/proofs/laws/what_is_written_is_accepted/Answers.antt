use Rattle.script_laws.proofs.accepted.Script.{written_is_accepted}
use Rattle.script_laws.proofs.laws.what_is_written_is_accepted.Goals as goal

pub returns : goal.returns
returns c = written_is_accepted c.accepted_edits_are_reported.ensures.reported c.accepted_edits_are_reported.ensures.spelled c.an_undo_leads_back.ensures.shifts
    c.lines_are_values.ensures.back c.lines_are_short.ensures
