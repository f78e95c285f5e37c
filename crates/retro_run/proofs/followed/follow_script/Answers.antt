-- All was written, and then one flush was made.
use Rattle.std.proofs.Common.{refl, inl, inr, rules, Ok, Err}
use Rattle.std.proofs.lemmas.Result.{err_from_is_err_and}
use Rattle.retro_run.specs.declared.status.Status.TheVariants as statuses
use Rattle.retro_run.specs.Audience.{audience_by, followed}
use Rattle.retro_run.specs.Ends.{ScriptStands}
use Rattle.retro_run.proofs.Reported.{stands_answered, stands_sent, stands_unsent}
use Rattle.retro_run.proofs.followed.follow_script.Goals as goal

pub returns-in-Err-NoMemory-clause-stands : goal.returns-in-Err-NoMemory-clause-stands
returns-in-Err-NoMemory-clause-stands g c =
    let at : ScriptStands g.S.Source g.K.Sink g.K.SendingSink.sends (followed (audience_by (λ b. (goal.Follower-dyn g (b.vtable, b.value)).report_after b.value) c.args.followers.now))
    c.args.source.now c.answer_and_report-answered.new.source c.args.sink.now c.answer_and_report-answered.new.sink statuses.NoMemory = search rules in
    stands_sent g.S.Source g.K.Sink g.K.SendingSink.sends _ _ _ _ _ _ at c.send.ensures.written c.in_ok-send-in-Err-NoMemory.ensures.unflushed

pub returns-in_err-send-in-Err-NoMemory-clause-stands : goal.returns-in_err-send-in-Err-NoMemory-clause-stands
returns-in_err-send-in-Err-NoMemory-clause-stands g c =
    let at : ScriptStands g.S.Source g.K.Sink g.K.SendingSink.sends (followed (audience_by (λ b. (goal.Follower-dyn g (b.vtable, b.value)).report_after b.value) c.args.followers.now))
    c.args.source.now c.answer_and_report-answered.new.source c.args.sink.now c.answer_and_report-answered.new.sink statuses.NoMemory = search rules in
    let failed = c.in_err-send-in-Err-NoMemory.ensures in
    let p = err_from_is_err_and c.from_residual.result c.from_residual.ensures.1 in
    rw (p.1, p.2, failed.failed) (stands_unsent g.S.Source g.K.Sink g.K.SendingSink.sends _ _ _ _ _ _ at failed.written failed.last)

pub returns-in-Ok-flush-clause-stands : goal.returns-in-Ok-flush-clause-stands
returns-in-Ok-flush-clause-stands g c =
    let answered = c.in-Ok.ensures.answered in
    stands_answered g.S.Source g.K.Sink g.K.SendingSink.sends _ _ _ _ _ _ record {
      ended = answered.ended;
      output = rw c.in-Ok-flush.ensures.written answered.output;
      flush = record {
        middle = c.answer_and_report-answered.new.sink;
        wrote = answered.unflushed;
        answer = Ok c.in-Ok-flush.field-0;
        is = refl;
        flush = c.in-Ok-flush.ensures.does;
      };
      flushed = search rules;
      refusal = answered.refusal;
    }

pub returns-in-Err-flush-clause-stands : goal.returns-in-Err-flush-clause-stands
returns-in-Err-flush-clause-stands g c =
    let answered = c.in-Ok.ensures.answered in
    inl (inr (
      rw c.in-Err-flush.ensures.written answered.output,
      record {
        middle = c.answer_and_report-answered.new.sink;
        wrote = answered.unflushed;
        answer = Err c.in-Err-flush.field-0;
        is = refl;
        flush = c.in-Err-flush.ensures.does;
      },
    ))

pub returns-in-Ok-flush-clause-sent : goal.returns-in-Ok-flush-clause-sent
returns-in-Ok-flush-clause-sent g c = λ _ _. g.met.K.SendingSink.flush_sends _ _ c.in-Ok-flush.field-0 c.in-Ok-flush.ensures.does
