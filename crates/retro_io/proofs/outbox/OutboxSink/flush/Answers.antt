-- What waits is handed on, and then the sink is flushed.
use Rattle.std.proofs.Common.{sym, ap, ◌∙◌, rules}
use Rattle.retro_io.specs.Faults.{count_after}
use Rattle.retro_io.specs.Outbox.{sink_of}
use Rattle.retro_io.proofs.OutboxLemmas.{flushes_all, flushes_to_fault, flushes_until_fault}
use Rattle.retro_io.proofs.outbox.OutboxSink.flush.Goals as goal
use Rattle.retro_io.proofs.outbox.OutboxSink.flush.Goals.{then-self-via-then-self, then-self-via-else-self+then-is_err}

pub returns-then-self-clause-does : goal.returns-then-self-clause-does
returns-then-self-clause-does g c =
    elim c.then-self.branch [
      | then-self-via-then-self w ↦
          flushes_until_fault g.K.Sink c.args.self.now c.hand_on.new.self c.fail.new.self c.hand_on.ensures.hands_on c.fail.result
          w.if-self.true c.fail.ensures.failed (c.fail.ensures.sink ∙ ap (λ o. sink_of o) w.self-is)
          (c.fail.ensures.count ∙ ap (λ o. count_after o.faults 1) w.self-is ∙ ap (λ n. count_after n 1) c.hand_on.ensures.faults)
      | then-self-via-else-self+then-is_err w ↦
          flushes_to_fault g.K.Sink c.args.self.now c.hand_on.new.self c.fail.new.self c.hand_on.ensures.hands_on c.fail.result w.flush.result
          (sym w.is_err.ensures.value ∙ w.if-is_err.true) w.if-self.false c.fail.ensures.failed
          (rw (c.fail.ensures.sink, w.self-is) w.flush.ensures.counts) (rw (c.fail.ensures.sink, w.self-is) w.flush.ensures.does)
          (c.fail.ensures.count ∙ ap (λ o. count_after o.faults 1) w.self-is ∙ ap (λ n. count_after n 1) c.hand_on.ensures.faults)
    ]

pub returns-clause-does : goal.returns-clause-does
returns-clause-does g c =
    let none = c.hand_on.ensures.sent c.if-self.false in
    flushes_all g.K.Sink c.args.self.now c.hand_on.new.self _ c.hand_on.ensures.hands_on _ c.flush.result
    (sym c.is_err.ensures.value ∙ c.if-is_err.false) c.if-self.false c.if-self.false c.flush.ensures.counts c.flush.ensures.does c.hand_on.ensures.faults
    (search rules)
