-- The answers were written, and then the reports.
use Rattle.std.proofs.lemmas.Result.{err_from_is_err_and}
use Rattle.retro_run.proofs.Reported.{reported, stands_at_reports}
use Rattle.retro_run.proofs.followed.answer_and_report.Goals as goal

pub returns-in_err-refused-clause-stands : goal.returns-in_err-refused-clause-stands
returns-in_err-refused-clause-stands g c =
    let p = err_from_is_err_and c.from_residual.result c.from_residual.ensures.1 in
    rw (p.1, p.2) c.in_err-refused.ensures.stands

pub returns-in_err-write_reports-clause-stands : goal.returns-in_err-write_reports-clause-stands
returns-in_err-write_reports-clause-stands g c =
    let p = err_from_is_err_and c.from_residual-in_err-write_reports.result c.from_residual-in_err-write_reports.ensures.1 in
    rw (p.1, p.2)
    (stands_at_reports g.S.Source g.K.Sink g.K.SendingSink.sends _ _ _ _ _ _ _ _ c.in_err-write_reports.field-0.0
    c.in_ok-refused.ensures.handed c.in_ok-refused.ensures.answered c.in_err-write_reports.ensures.writes)

pub returns-clause-answered : goal.returns-clause-answered
returns-clause-answered g c =
    reported g.S.Source g.K.Sink g.K.SendingSink.sends _ _ _ _ _ _ _ _
    c.in_ok-refused.ensures.handed c.in_ok-refused.ensures.answered c.in_ok-write_reports.ensures.writes
