-- Where it is not left nothing is written.
use Rattle.retro_io.specs.FlushLaws.{StaysUnflushed-none}
use Rattle.retro_io.specs.SinkLaws.{Appends-none}
use Rattle.retro_run.proofs.follow.write_report_left.Goals as goal

pub returns-in-None-clause-writes : goal.returns-in-None-clause-writes
returns-in-None-clause-writes g c = rw c.in-None.is (Appends-none _, StaysUnflushed-none g.K.Sink g.K.SendingSink.sends _)
