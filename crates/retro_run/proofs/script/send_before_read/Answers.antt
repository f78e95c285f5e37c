-- Where a whole line is held, nothing is called.
use Rattle.retro_io.specs.FlushLaws.{StaysUnflushed-none}
use Rattle.retro_run.proofs.script.send_before_read.Goals as goal

pub returns-then-holds_line-clause-unflushed : goal.returns-then-holds_line-clause-unflushed
returns-then-holds_line-clause-unflushed g c = StaysUnflushed-none g.K.Sink g.K.SendingSink.sends _
