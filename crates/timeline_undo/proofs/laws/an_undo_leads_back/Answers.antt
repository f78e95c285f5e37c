use Rattle.std.proofs.Common.{ap, refl}
use Rattle.retro_base.specs.Edits.{edited_by}
use Rattle.timeline_undo.proofs.Rings.{newest-recorded}
use Rattle.timeline_undo.proofs.Steps.{step_and_back, shift_can_be_made}
use Rattle.timeline_undo.proofs.laws.an_undo_leads_back.Goals as goal

pub returns-clause-steps : goal.returns-clause-steps
returns-clause-steps c = λ session step next made. record {
  newest = newest-recorded session.history.undo step;
  undone = step_and_back session.rows step made;
  newest_undone = refl;
  redone = ap (λ rows. edited_by rows step) (step_and_back session.rows step made);
  next_undone = refl;
  next_redone = refl;
}

pub returns-clause-shifts : goal.returns-clause-shifts
returns-clause-shifts c = λ rows target number index old there. shift_can_be_made rows target number index old there
