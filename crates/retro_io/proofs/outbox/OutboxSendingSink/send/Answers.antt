-- What waits is handed on.
use Rattle.std.proofs.Common.{ap, ◌∙◌, refl}
use Rattle.retro_io.specs.Faults.{count_after}
use Rattle.retro_io.proofs.OutboxLemmas.{sends_all, sends_until_fault}
use Rattle.retro_io.proofs.outbox.OutboxSendingSink.send.Goals as goal

pub returns-then-self-clause-does : goal.returns-then-self-clause-does
returns-then-self-clause-does g c =
    sends_until_fault g.K.Sink c.args.self.now c.hand_on.new.self c.fail.new.self c.hand_on.ensures.hands_on c.fail.result
    c.if-self.true c.fail.ensures.failed c.fail.ensures.sink
    (c.fail.ensures.count ∙ ap (λ n. count_after n 1) c.hand_on.ensures.faults)

pub returns-clause-does : goal.returns-clause-does
returns-clause-does g c =
    sends_all g.K.Sink c.args.self.now c.hand_on.new.self _ c.hand_on.ensures.hands_on _ c.if-self.false refl c.hand_on.ensures.faults
