-- One send was made.
use Rattle.retro_io.specs.FlushLaws.{EndsWithFailedSend-at, StaysUnflushed-send}
use Rattle.retro_run.proofs.deliver.send.Goals as goal

pub returns-in-Ok-clause-unflushed : goal.returns-in-Ok-clause-unflushed
returns-in-Ok-clause-unflushed g c =
    StaysUnflushed-send g.K.Sink g.K.SendingSink.sends _ _ c.in-Ok.field-0 c.in-Ok.ensures.does c.in-Ok.ensures.written c.in-Ok.ensures.flushed

pub returns-in-Err-clause-last : goal.returns-in-Err-clause-last
returns-in-Err-clause-last g c = EndsWithFailedSend-at g.K.Sink g.K.SendingSink.sends _ _ c.in-Err.field-0 c.in-Err.ensures.does
