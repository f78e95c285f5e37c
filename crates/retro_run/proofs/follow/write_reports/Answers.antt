-- One report after another is appended.
use Rattle.std.proofs.Common.{sym, subst, rules, arith}
use Rattle.std.proofs.lemmas.Result.{err_from_is_err_and}
use Rattle.retro_io.specs.FlushLaws.{StaysUnflushed-none, StaysUnflushed-more}
use Rattle.retro_io.specs.Sink.{Appends}
use Rattle.retro_io.specs.SinkLaws.{Appends-append, Appends-none}
use Rattle.retro_run.proofs.Reported.{next_report, reports_stand}
use Rattle.retro_run.proofs.follow.write_reports.Goals as goal

pub loop-number-init : goal.loop-number-init
loop-number-init g c = record { appended = Appends-none _; unflushed = StaysUnflushed-none g.K.Sink g.K.SendingSink.sends _; sink_faults = omega arith }

pub loop-number-preserved : goal.loop-number-preserved
loop-number-preserved g c = record {
  appended = subst (λ text. Appends (g.K.Sink.written c.args.sink.now) text (g.K.Sink.written c.write_report_left.new.sink))
      (sym (next_report _ c.args.followers.now c.loop-number.number c.index-followers-number.result
      (search rules) c.index-followers-number.is))
      (Appends-append _ (g.K.Sink.written c.loop-number.sink) _ _ _ c.loop-number.invariant.appended c.in_ok-write_report_left.ensures.writes.0);
  unflushed = StaysUnflushed-more g.K.Sink g.K.SendingSink.sends _ _ _ c.loop-number.invariant.unflushed c.in_ok-write_report_left.ensures.writes.1;
  sink_faults = omega (arith, c.in_ok-write_report_left.ensures.sink_faults, c.loop-number.invariant.sink_faults);
}

pub returns-in_err-write_report_left-clause-writes : goal.returns-in_err-write_report_left-clause-writes
returns-in_err-write_report_left-clause-writes g c =
    let p = err_from_is_err_and c.from_residual.result c.from_residual.ensures.1 in
    rw (p.1, p.2)
    (reports_stand _ c.args.followers.now c.loop-number.number c.index-followers-number.result
    (search rules) c.index-followers-number.is g.K.Sink g.K.SendingSink.sends _ _ _ c.in_err-write_report_left.field-0.0 c.loop-number.invariant.appended c.loop-number.invariant.unflushed
    c.in_err-write_report_left.ensures.writes)
