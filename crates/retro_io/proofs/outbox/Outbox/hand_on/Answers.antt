-- What was sent is no longer waiting.
use Rattle.std.proofs.Common.{ap, ◌∙◌}
use Rattle.std.proofs.lemmas.List.{take_rest}
use Rattle.std.specs.Prelude.{drop}
use Rattle.retro_io.proofs.SinkLemmas.{then_waiting-part}
use Rattle.retro_io.proofs.outbox.Outbox.hand_on.Goals as goal

pub returns-in-Err-clause-written : goal.returns-in-Err-clause-written
returns-in-Err-clause-written g c =
    then_waiting-part _ _ c.in-Err.count c.args.self.now.sent c.args.self.now.waiting.items _
    (take_rest c.deref.result.now c.args.self.now.sent ∙ ap (drop c.args.self.now.sent) c.deref.ensures.value) c.in-Err.ensures.appended
